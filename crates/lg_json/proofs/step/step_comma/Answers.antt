use Rattle.std.proofs.Common.{◌+◌, arith}
use Rattle.lg_json.specs.Reading.Mode.{after_item}
use Rattle.lg_json.specs.View.{frames_view}
use Rattle.lg_json.proofs.Steps.{moves_placed, byte_then, item_byte}
use Rattle.lg_json.proofs.step.step_comma.Goals as goal

pub returns : goal.returns
returns c =
    let fs = frames_view c.args.frames.now.items in
    rw c.at_place.ensures
    (moves_placed c.args.bytes.now c.args.place (c.args.place + 1) _ _ c.follow_on.new.frames.items c.follow_on.result (omega arith) (omega arith)
    (byte_then c.args.bytes.now c.args.place fs after_item _ c.requires.within (item_byte c.args.place fs _ c.requires.no_blank)) c.follow_on.ensures)
