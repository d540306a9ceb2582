use Rattle.std.proofs.Common.{arith}
use Rattle.lg_moves.proofs.LineLemmas.{hits_fit, hits_more}
use Rattle.lg_moves.proofs.line.sums_from.Goals as goal

pub with_hit-sums-requires-clause-input : goal.with_hit-sums-requires-clause-input
with_hit-sums-requires-clause-input g c = (hits_fit c.args.bound.now c.args.entries.now.items c.loop-i.i c.loop-i.sums (omega arith) c.requires.bounded c.loop-i.invariant.0).input

pub with_hit-sums-requires-clause-output : goal.with_hit-sums-requires-clause-output
with_hit-sums-requires-clause-output g c = (hits_fit c.args.bound.now c.args.entries.now.items c.loop-i.i c.loop-i.sums (omega arith) c.requires.bounded c.loop-i.invariant.0).output

pub with_hit-sums-requires-clause-count : goal.with_hit-sums-requires-clause-count
with_hit-sums-requires-clause-count g c = (hits_fit c.args.bound.now c.args.entries.now.items c.loop-i.i c.loop-i.sums (omega arith) c.requires.bounded c.loop-i.invariant.0).count

pub loop-i-preserved : goal.loop-i-preserved
loop-i-preserved g c =
    (hits_more c.args.bound.now c.args.entries.now.items c.loop-i.i c.with_hit-sums.result c.read_at-entry.result (omega arith) c.read_at-entry.ensures.value (c.with_hit-sums.ensures _ c.loop-i.invariant.0), omega arith)
