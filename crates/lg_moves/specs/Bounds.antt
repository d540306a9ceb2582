-- The tests of the readings as data: each cuts the order of insertion or the order of ranks at one place.
use Rattle.std.specs.Prelude.{Bool, true, false, ◌&&◌, ◌||◌, int_le, int_lt, nat_le, nat_lt}
use Rattle.std.specs.Ordering.{int_eq}
use Rattle.lg_types.specs.declared.moves.Move.{Move}
use Rattle.lg_moves.specs.declared.bounds.Key.{Key}
use Rattle.lg_moves.specs.declared.bounds.Bound.{Bound}
use Rattle.lg_moves.specs.declared.bounds.Bound.TheVariants.{InsertedTo, InsertedBefore, EffectiveTo, EffectiveBefore, TransactionTo, RankTo, RankBefore}

-- whether a key is on the near side of a bound
abbrev pub is_near : Bound → Key → Bool
is_near (InsertedTo date) k = int_le k.inserted date
is_near (InsertedBefore date) k = int_lt k.inserted date
is_near (TransactionTo id) k = nat_le k.transaction id
is_near (EffectiveTo date) k = int_le k.date date
is_near (EffectiveBefore date) k = int_lt k.date date
is_near (RankTo date id) k = int_lt k.date date || (int_eq k.date date && nat_le k.id id)
is_near (RankBefore date id) k = int_lt k.date date || (int_eq k.date date && nat_lt k.id id)

-- whether a bound cuts the order of ranks, the pairs of effective date and transaction
abbrev pub is_by_rank : Bound → Bool
is_by_rank (InsertedTo date) = false
is_by_rank (InsertedBefore date) = false
is_by_rank (TransactionTo id) = false
is_by_rank (EffectiveTo date) = true
is_by_rank (EffectiveBefore date) = true
is_by_rank (RankTo date id) = true
is_by_rank (RankBefore date id) = true

-- where a move stands in both orders
abbrev pub key_of : Move → Key
key_of m = record { inserted = m.inserted; transaction = m.transaction; date = m.effective; id = m.transaction }

-- whether a move passes the test of a bound
abbrev pub passes : Bound → Move → Bool
passes b m = is_near b (key_of m)
