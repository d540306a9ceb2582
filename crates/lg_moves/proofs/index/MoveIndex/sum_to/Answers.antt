use Rattle.std.proofs.Common.{map, int_le, None, refl, sym}
use Rattle.lg_types.specs.Tally.{date_of, is_to}
use Rattle.lg_moves.specs.Entries.{move_of}
use Rattle.lg_moves.specs.Bounds.{passes}
use Rattle.lg_moves.proofs.SumLemmas.{same_total}
use Rattle.lg_moves.proofs.IndexLemmas.{moved}
use Rattle.lg_moves.proofs.BetweenLemmas.{passing_alike, all_passing}
use Rattle.lg_moves.proofs.index.MoveIndex.sum_to.Goals as goal

pub returns-in-Some-clause-value : goal.returns-in-Some-clause-value
returns-in-Some-clause-value g c =
    rw c.in-Some.is (passing_alike (passes c.up_to.result) (λ m. int_le (date_of c.args.by_insertion m) c.in-Some.date) c.args.self.now.items c.sum.result c.up_to.ensures c.sum.ensures.value)

pub returns-in-None-clause-value : goal.returns-in-None-clause-value
returns-in-None-clause-value g c =
    rw (c.in-None.is, ← c.self.view_is) (all_passing (λ m. is_to None (date_of c.args.by_insertion m)) (map move_of c.self.inside.line.items) c.total.result (λ m. refl) (same_total c.total.ensures (λ part. sym (moved part c.self.inside.line.items))))
