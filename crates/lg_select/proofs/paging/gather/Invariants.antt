use Rattle.lg_select.specs.Listing.{left_of}
use Rattle.lg_select.proofs.Gathering.{Gathers}
use Rattle.lg_select.proofs.paging.gather.Given as goal

abbrev pub invariant-loop-taken : goal.invariant-loop-taken
invariant-loop-taken g l =
    Gathers g.L.Listing.is_after g.L.Listing.place (g.L.Listing.items l.listing) (g.L.Listing.passes l.listing l.query.filter) (g.L.Listing.shown l.listing)
    (left_of g.L.Listing.is_after (g.L.Listing.passes l.listing) l.query (g.L.Listing.items l.listing)) l._taken l.views l.last l.here
