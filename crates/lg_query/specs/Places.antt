-- Places go on from item to item.
use Rattle.std.proofs.Common.{◌≡◌, ℕ, true, arith, true≢false, sym}
use Rattle.std.specs.Prelude.{nat_lt}
use Rattle.std.proofs.lemmas.Bool.Decides.{nat_tests}
use Rattle.lg_types.specs.declared.filters.After.TheVariants.{Place, Address, Pair}
use Rattle.lg_views.specs.Reads.{is_after_entry, entry_place}
use Rattle.lg_select.specs.Listing.{IsTransitive}

pub numbers_fall : (n x y : ℕ) → nat_lt x n ≡ true → nat_lt y x ≡ true → nat_lt y n ≡ true
numbers_fall n x y h k = grind (arith, nat_tests, h, k)

pub entries_go_on : IsTransitive is_after_entry entry_place
entries_go_on (Place n) x y h k = numbers_fall n x.id y.id h k
entries_go_on (Address address) x y h k = absurd (true≢false (sym h))
entries_go_on (Pair account asset) x y h k = absurd (true≢false (sym h))
