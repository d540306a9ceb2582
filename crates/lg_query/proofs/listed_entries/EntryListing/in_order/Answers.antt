use Rattle.std.proofs.Common.{subst}
use Rattle.lg_types.specs.Log.{log}
use Rattle.lg_views.specs.PageLaws.{IsInOrder}
use Rattle.lg_views.specs.Reads.{is_after_entry, entry_place}
use Rattle.lg_query.specs.Newest.{ShownLog, newest_first}
use Rattle.lg_query.proofs.Numbered.{entries_in_order}
use Rattle.lg_query.proofs.listed_entries.EntryListing.in_order.Goals as goal

pub returns : goal.returns
returns c =
    let shown = c.self.invariant in
    let g = log c.self.inside.book.now.events c.self.inside.ledger.now in
    subst (λ (s : ShownLog). IsInOrder is_after_entry entry_place (newest_first s.count s.log)) c.self.view_is
    (entries_in_order g c.self.inside.count shown.numbered shown.within)
