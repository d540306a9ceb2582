use Rattle.std.proofs.Common.{◌≡◌, length}
use Rattle.std.specs.List.{filter}
use Rattle.lg_select.specs.Listing.{IsSuffix, from_item}
use Rattle.lg_select.proofs.paging.find_wanted.Given as goal

abbrev pub invariant-finding : goal.invariant-finding
invariant-finding g l =
    IsSuffix (g.L.Listing.items l.listing) (from_item g.L.Listing.is_after g.L.Listing.place (g.L.Listing.items l.listing) l.here)
    × (filter (g.L.Listing.passes l.listing l.wanted) (from_item g.L.Listing.is_after g.L.Listing.place (g.L.Listing.items l.listing) l.here) ≡ filter (g.L.Listing.passes l.listing l.wanted) (from_item g.L.Listing.is_after g.L.Listing.place (g.L.Listing.items l.listing) l.fn.from))

abbrev pub decreases-finding : goal.decreases-finding
decreases-finding g l = length (from_item g.L.Listing.is_after g.L.Listing.place (g.L.Listing.items l.listing) l.here)
