use Rattle.std.proofs.Common.{arith}
use Rattle.lg_moves.proofs.LineLemmas.{start_hits, stride_hits}
use Rattle.lg_moves.proofs.line.sum_before.Goals as goal

pub overflow_mul-from : goal.overflow_mul-from
overflow_mul-from g c = omega (arith, c.place_of-place.ensures.place.within, c.requires.few)

pub sums_from-requires-clause-start : goal.sums_from-requires-clause-start
sums_from-requires-clause-start g c =
    start_hits c.args.bound.now c.args.entries.now.items c.args.marks.now.items c.args.end.now c.place_of-place.result c.sums_at-start.result c.requires c.place_of-place.ensures.place c.sums_at-start.ensures.none c.sums_at-start.ensures.value

pub returns-clause-value : goal.returns-clause-value
returns-clause-value g c =
    stride_hits c.args.bound.now c.args.entries.now.items c.args.marks.now.items c.args.end.now c.place_of-place.result _ c.sums_from.result c.requires c.place_of-place.ensures.place (omega arith) c.sums_from.ensures.value
