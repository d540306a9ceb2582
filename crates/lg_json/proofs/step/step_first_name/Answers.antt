use Rattle.std.proofs.Common.{◌+◌, [], arith}
use Rattle.lg_json.specs.Tree.{entries}
use Rattle.lg_json.specs.Tree.Tree.{members}
use Rattle.lg_json.specs.Reading.{close_empty}
use Rattle.lg_json.specs.Reading.Mode.{before_first_name}
use Rattle.lg_json.specs.View.{frames_view}
use Rattle.lg_json.proofs.Tokens.{stop_byte}
use Rattle.lg_json.proofs.Values.{tree-members}
use Rattle.lg_json.proofs.Steps.{moves_placed, moves_as, byte_then, first_name_quote, first_name_ends, first_name_other}
use Rattle.lg_json.proofs.step.step_first_name.Goals as goal

pub returns-then-bytes-place-eq34 : goal.returns-then-bytes-place-eq34
returns-then-bytes-place-eq34 c =
    let fs = frames_view c.args.frames.now.items in
    moves_as c.args.bytes.now c.args.place _ _ c.begin_name.new.frames.items c.begin_name.result (byte_then c.args.bytes.now c.args.place fs before_first_name _ c.requires.within (first_name_quote c.args.place fs _ c.if-bytes-place-eq34.true)) c.begin_name.ensures

pub returns-then-bytes-place-eq125 : goal.returns-then-bytes-place-eq125
returns-then-bytes-place-eq125 c =
    let fs = frames_view c.args.frames.now.items in
    rw c.at_place.ensures
    (moves_placed c.args.bytes.now c.args.place (c.args.place + 1) _ (close_empty c.args.place fs (members (entries []))) c.close_empty.new.frames.items c.close_empty.result (omega arith) (omega arith)
    (byte_then c.args.bytes.now c.args.place fs before_first_name _ c.requires.within (first_name_ends c.args.place fs _ c.if-bytes-place-eq125.true)) (rw (c.new.ensures, tree-members) at c.close_empty.ensures))

pub returns : goal.returns
returns c =
    let fs = frames_view c.args.frames.now.items in
    stop_byte c.args.bytes.now c.args.place fs before_first_name _ c.requires.within (first_name_other c.args.place fs _ c.requires.no_blank c.if-bytes-place-eq34.false c.if-bytes-place-eq125.false)
