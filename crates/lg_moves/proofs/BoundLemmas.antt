-- How bounds and keys stand to each other.
use Rattle.std.proofs.Common.{◌≡◌, ◌≤◌, true, false, ◌≤ℤ◌, arith}
use Rattle.std.proofs.lemmas.Int.{ints}
use Rattle.std.proofs.lemmas.Bool.Decides.{nat_tests}
use Rattle.lg_moves.specs.declared.bounds.Key.{Key}
use Rattle.lg_moves.specs.declared.bounds.Bound.{Bound}
use Rattle.lg_moves.specs.declared.bounds.Bound.TheVariants.{InsertedTo, InsertedBefore, EffectiveTo, EffectiveBefore, TransactionTo, RankTo, RankBefore}
use Rattle.lg_moves.specs.Bounds.{is_near, is_by_rank}

-- by insertion the near side goes down with the date and the transaction
pub near_by_insertion : (b : Bound) (low high : Key) → is_by_rank b ≡ false → low.inserted ≤ℤ high.inserted → low.transaction ≤ high.transaction → is_near b high ≡ true → is_near b low ≡ true
near_by_insertion (InsertedTo date) low high r i t n = grind (arith, ints)
near_by_insertion (InsertedBefore date) low high r i t n = grind (arith, ints)
near_by_insertion (TransactionTo id) low high r i t n = grind (arith, nat_tests)
near_by_insertion (EffectiveTo date) low high r i t n = absurd (cc)
near_by_insertion (EffectiveBefore date) low high r i t n = absurd (cc)
near_by_insertion (RankTo date id) low high r i t n = absurd (cc)
near_by_insertion (RankBefore date id) low high r i t n = absurd (cc)

-- by rank it goes down with the rank
pub near_by_rank : (b : Bound) (low high : Key) → is_by_rank b ≡ true → is_near (RankBefore low.date low.id) high ≡ false → is_near b high ≡ true → is_near b low ≡ true
near_by_rank (InsertedTo date) low high r i n = absurd (cc)
near_by_rank (InsertedBefore date) low high r i n = absurd (cc)
near_by_rank (TransactionTo id) low high r i n = absurd (cc)
near_by_rank (EffectiveTo date) low high r i n = grind (arith, ints, nat_tests)
near_by_rank (EffectiveBefore date) low high r i n = grind (arith, ints, nat_tests)
near_by_rank (RankTo date id) low high r i n = grind (arith, ints, nat_tests)
near_by_rank (RankBefore date id) low high r i n = grind (arith, ints, nat_tests)

-- a key before another in the order of ranks
pub near_from_before : (b : Bound) (low high : Key) → is_by_rank b ≡ true → is_near (RankBefore high.date high.id) low ≡ true → is_near b high ≡ true → is_near b low ≡ true
near_from_before (InsertedTo date) low high r i n = absurd (cc)
near_from_before (InsertedBefore date) low high r i n = absurd (cc)
near_from_before (TransactionTo id) low high r i n = absurd (cc)
near_from_before (EffectiveTo date) low high r i n = grind (arith, ints, nat_tests)
near_from_before (EffectiveBefore date) low high r i n = grind (arith, ints, nat_tests)
near_from_before (RankTo date id) low high r i n = grind (arith, ints, nat_tests)
near_from_before (RankBefore date id) low high r i n = grind (arith, ints, nat_tests)

-- a key not after another
pub near_from_to : (b : Bound) (low high : Key) → is_by_rank b ≡ true → is_near (RankTo high.date high.id) low ≡ true → is_near b high ≡ true → is_near b low ≡ true
near_from_to (InsertedTo date) low high r i n = absurd (cc)
near_from_to (InsertedBefore date) low high r i n = absurd (cc)
near_from_to (TransactionTo id) low high r i n = absurd (cc)
near_from_to (EffectiveTo date) low high r i n = grind (arith, ints, nat_tests)
near_from_to (EffectiveBefore date) low high r i n = grind (arith, ints, nat_tests)
near_from_to (RankTo date id) low high r i n = grind (arith, ints, nat_tests)
near_from_to (RankBefore date id) low high r i n = grind (arith, ints, nat_tests)

-- a key after another
pub near_from_far : (b : Bound) (low high : Key) → is_by_rank b ≡ true → is_near (RankTo low.date low.id) high ≡ false → is_near b high ≡ true → is_near b low ≡ true
near_from_far (InsertedTo date) low high r i n = absurd (cc)
near_from_far (InsertedBefore date) low high r i n = absurd (cc)
near_from_far (TransactionTo id) low high r i n = absurd (cc)
near_from_far (EffectiveTo date) low high r i n = grind (arith, ints, nat_tests)
near_from_far (EffectiveBefore date) low high r i n = grind (arith, ints, nat_tests)
near_from_far (RankTo date id) low high r i n = grind (arith, ints, nat_tests)
near_from_far (RankBefore date id) low high r i n = grind (arith, ints, nat_tests)
