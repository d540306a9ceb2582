use Rattle.std.proofs.Common.{arith, sym}
use Rattle.std.proofs.lemmas.List.Sums.{sum_by_push}
use Rattle.lg_moves.proofs.SumLemmas.{same_total, with_move}
use Rattle.lg_moves.proofs.BlockLemmas.{upper_fits, upper_more}
use Rattle.lg_moves.proofs.block.move_upper.Goals as goal

pub with-sums-requires-clause-input : goal.with-sums-requires-clause-input
with-sums-requires-clause-input g c = (upper_fits c.args.from.now.items c.loop-i.into.items c.loop-i.i c.loop-i.sums c.requires.full (omega arith) (omega arith) c.loop-i.invariant.0 c.loop-i.invariant.2 c.requires.bounded).input

pub with-sums-requires-clause-output : goal.with-sums-requires-clause-output
with-sums-requires-clause-output g c = (upper_fits c.args.from.now.items c.loop-i.into.items c.loop-i.i c.loop-i.sums c.requires.full (omega arith) (omega arith) c.loop-i.invariant.0 c.loop-i.invariant.2 c.requires.bounded).output

pub with-sums-requires-clause-count : goal.with-sums-requires-clause-count
with-sums-requires-clause-count g c = (upper_fits c.args.from.now.items c.loop-i.into.items c.loop-i.i c.loop-i.sums c.requires.full (omega arith) (omega arith) c.loop-i.invariant.0 c.loop-i.invariant.2 c.requires.bounded).count

pub loop-i-preserved : goal.loop-i-preserved
loop-i-preserved g c = (
  upper_more c.args.from.now.items c.loop-i.into.items c.push.new.self.items c.loop-i.i c.read_at-item.result c.requires.full (omega arith) (omega arith) c.loop-i.invariant.0 c.read_at-item.ensures.value c.push.ensures.items,
  omega arith,
  rw (c.push.ensures.items, c.with-sums.ensures) (same_total (with_move c.loop-i.invariant.2 c.read_at-item.result) (λ part. sym (sum_by_push part c.loop-i.into.items c.read_at-item.result))),
  omega arith,
)
