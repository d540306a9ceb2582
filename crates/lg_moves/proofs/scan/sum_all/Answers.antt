use Rattle.std.proofs.Common.{arith}
use Rattle.lg_moves.specs.Bounds.{passes}
use Rattle.lg_moves.proofs.SumLemmas.{passing_fits, passing_more}
use Rattle.lg_moves.proofs.scan.sum_all.Goals as goal

pub with_passing-sums-requires-clause-input : goal.with_passing-sums-requires-clause-input
with_passing-sums-requires-clause-input g c = (passing_fits (passes c.args.bound.now) c.args.moves.now.items c.loop-i.i c.loop-i.sums (omega arith) c.requires c.loop-i.invariant.0).input

pub with_passing-sums-requires-clause-output : goal.with_passing-sums-requires-clause-output
with_passing-sums-requires-clause-output g c = (passing_fits (passes c.args.bound.now) c.args.moves.now.items c.loop-i.i c.loop-i.sums (omega arith) c.requires c.loop-i.invariant.0).output

pub with_passing-sums-requires-clause-count : goal.with_passing-sums-requires-clause-count
with_passing-sums-requires-clause-count g c = (passing_fits (passes c.args.bound.now) c.args.moves.now.items c.loop-i.i c.loop-i.sums (omega arith) c.requires c.loop-i.invariant.0).count

pub loop-i-preserved : goal.loop-i-preserved
loop-i-preserved g c =
    (passing_more (passes c.args.bound.now) c.args.moves.now.items c.loop-i.i c.with_passing-sums.result c.read_at-item.result (omega arith) c.read_at-item.ensures.value (c.with_passing-sums.ensures _ c.loop-i.invariant.0), omega arith)
