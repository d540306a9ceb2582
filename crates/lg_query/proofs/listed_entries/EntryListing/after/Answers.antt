use Rattle.std.proofs.Common.{sym, ap, ◌∙◌}
use Rattle.std.specs.List.{filter}
use Rattle.lg_views.specs.Reads.{is_after_entry}
use Rattle.lg_select.specs.Listing.{first_of}
use Rattle.lg_query.specs.Newest.{newest_first}
use Rattle.lg_query.proofs.Numbered.{none_pass}
use Rattle.lg_query.proofs.listed_entries.EntryListing.after.Goals as goal

pub returns-in-Address : goal.returns-in-Address
returns-in-Address c =
    let shown = newest_first c.args.self.now.count c.args.self.now.log in
    sym (ap (λ p. first_of (filter (is_after_entry p) shown)) c.in-Address.is ∙ ap first_of (none_pass shown))

pub returns-in-Pair : goal.returns-in-Pair
returns-in-Pair c =
    let shown = newest_first c.args.self.now.count c.args.self.now.log in
    sym (ap (λ p. first_of (filter (is_after_entry p) shown)) c.in-Pair.is ∙ ap first_of (none_pass shown))
