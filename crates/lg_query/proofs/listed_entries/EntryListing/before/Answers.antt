use Rattle.std.proofs.Common.{ℕ, min, sym, ap, ◌∙◌}
use Rattle.std.specs.List.{filter}
use Rattle.lg_types.specs.Log.{log}
use Rattle.lg_types.specs.declared.filters.After.TheVariants.{Place}
use Rattle.lg_views.specs.Reads.{is_after_entry}
use Rattle.lg_select.specs.Listing.{first_of}
use Rattle.lg_query.specs.Newest.{ShownLog, newest_first, entry_id}
use Rattle.lg_query.proofs.Numbered.{below}
use Rattle.lg_query.proofs.listed_entries.EntryListing.before.Goals as goal

pub returns : goal.returns
returns c =
    let g = log c.self.inside.book.now.events c.self.inside.ledger.now in
    c.last_of.ensures
    ∙ ap (λ (s : ShownLog). first_of (newest_first c.min.result s.log)) (sym c.self.view_is)
    ∙ ap (λ (k : ℕ). first_of (newest_first k g)) (c.min.ensures ∙ ap (min c.self.inside.count) c.saturating_sub.ensures)
    ∙ ap first_of (sym (below entry_id g c.self.invariant.numbered c.args.id c.self.inside.count c.self.invariant.within))
    ∙ ap (λ (s : ShownLog). first_of (filter (is_after_entry (Place c.args.id)) (newest_first s.count s.log))) c.self.view_is
