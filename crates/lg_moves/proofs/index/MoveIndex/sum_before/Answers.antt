use Rattle.std.proofs.Common.{int_lt, None, refl}
use Rattle.lg_types.specs.Tally.{date_of}
use Rattle.lg_moves.specs.Bounds.{passes}
use Rattle.lg_moves.specs.Index.{is_before}
use Rattle.lg_moves.proofs.BetweenLemmas.{passing_alike, no_passing}
use Rattle.lg_moves.proofs.index.MoveIndex.sum_before.Goals as goal

pub returns-in-Some-clause-value : goal.returns-in-Some-clause-value
returns-in-Some-clause-value g c =
    rw c.in-Some.is (passing_alike (passes c.below.result) (λ m. int_lt (date_of c.args.by_insertion m) c.in-Some.date) c.args.self.now.items c.sum.result c.below.ensures c.sum.ensures.value)

pub returns-in-None-clause-value : goal.returns-in-None-clause-value
returns-in-None-clause-value g c = rw c.in-None.is (no_passing (λ m. is_before None (date_of c.args.by_insertion m)) c.args.self.now.items c.zero.result (λ m. refl) c.zero.ensures)
