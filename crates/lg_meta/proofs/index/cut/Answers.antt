use Rattle.std.proofs.Common.{◌<◌, ◌≤◌, arith}
use Rattle.lg_containers.specs.NameTable.{len}
use Rattle.lg_meta.proofs.Cuts.{cut_within, cut_more, cut_all}
use Rattle.lg_meta.proofs.index.cut.Goals as goal

pub value_at_mut-requires : goal.value_at_mut-requires
value_at_mut-requires c =
    let lt : c.loop-at.at < len c.args.index.now = omega (arith, c.len-at-end.ensures) in
    cut_within c.args.limit c.args.index.now c.loop-at.index c.loop-at.at c.loop-at.invariant lt

pub loop-at-preserved : goal.loop-at-preserved
loop-at-preserved c =
    let lt : c.loop-at.at < len c.args.index.now = omega (arith, c.len-at-end.ensures) in
    cut_more c.args.limit c.args.index.now c.loop-at.index c.loop-at.at c.loop-at.invariant c.value_at_mut.result.now c.cut.new.self lt c.value_at_mut.ensures.value c.cut.ensures

pub returns : goal.returns
returns c =
    let le : len c.args.index.now ≤ c.loop-at.at = omega (arith, c.len-at-end.ensures) in
    cut_all c.args.limit c.args.index.now c.loop-at.index c.loop-at.at c.loop-at.invariant le
