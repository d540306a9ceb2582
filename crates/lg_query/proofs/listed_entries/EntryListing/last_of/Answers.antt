use Rattle.std.proofs.Common.{◌≤◌, length, sym, ap, subst, ◌∙◌}
use Rattle.lg_types.specs.Log.{log}
use Rattle.lg_select.specs.Listing.{first_of}
use Rattle.lg_query.specs.Newest.{ShownLog, newest_first}
use Rattle.lg_query.proofs.Numbered.{entry_found}
use Rattle.lg_query.proofs.listed_entries.EntryListing.last_of.Goals as goal

pub returns-in-Some : goal.returns-in-Some
returns-in-Some c =
    let g = log c.self.inside.book.now.events c.self.inside.ledger.now in
    let within = subst (λ (s : ShownLog). c.args.count ≤ length s.log) (sym c.self.view_is) c.requires in
    c.in-Some.ensures
    ∙ sym (entry_found g c.args.count c.self.invariant.numbered within)
    ∙ ap (λ (s : ShownLog). first_of (newest_first c.args.count s.log)) c.self.view_is

pub returns-in-None : goal.returns-in-None
returns-in-None c =
    let g = log c.self.inside.book.now.events c.self.inside.ledger.now in
    let within = subst (λ (s : ShownLog). c.args.count ≤ length s.log) (sym c.self.view_is) c.requires in
    c.in-None.ensures
    ∙ sym (entry_found g c.args.count c.self.invariant.numbered within)
    ∙ ap (λ (s : ShownLog). first_of (newest_first c.args.count s.log)) c.self.view_is
