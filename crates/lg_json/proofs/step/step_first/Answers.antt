use Rattle.std.proofs.Common.{◌+◌, [], arith}
use Rattle.lg_json.specs.Tree.{trees}
use Rattle.lg_json.specs.Tree.Tree.{list}
use Rattle.lg_json.specs.Reading.{close_empty}
use Rattle.lg_json.specs.Reading.Mode.{before_first}
use Rattle.lg_json.specs.View.{frames_view}
use Rattle.lg_json.proofs.Values.{tree-list}
use Rattle.lg_json.proofs.Steps.{moves_placed, moves_as, byte_then, first_ends, on_first}
use Rattle.lg_json.proofs.step.step_first.Goals as goal

pub returns-then-bytes-place-eq93 : goal.returns-then-bytes-place-eq93
returns-then-bytes-place-eq93 c =
    let fs = frames_view c.args.frames.now.items in
    rw c.at_place.ensures
    (moves_placed c.args.bytes.now c.args.place (c.args.place + 1) _ (close_empty c.args.place fs (list (trees []))) c.close_empty.new.frames.items c.close_empty.result (omega arith) (omega arith)
    (byte_then c.args.bytes.now c.args.place fs before_first _ c.requires.within (first_ends c.args.place fs _ c.if-bytes-place-eq93.true)) (rw (c.new.ensures, tree-list) at c.close_empty.ensures))

pub returns-else-bytes-place-eq93 : goal.returns-else-bytes-place-eq93
returns-else-bytes-place-eq93 c =
    moves_as c.args.bytes.now c.args.place _ _ c.begin.new.frames.items c.begin.result (on_first c.args.bytes.now c.args.place (frames_view c.args.frames.now.items) c.requires.within c.requires.no_blank c.if-bytes-place-eq93.false) c.begin.ensures
