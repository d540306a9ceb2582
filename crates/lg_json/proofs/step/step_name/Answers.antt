use Rattle.lg_json.specs.Reading.Mode.{before_name}
use Rattle.lg_json.specs.View.{frames_view}
use Rattle.lg_json.proofs.Tokens.{stop_byte}
use Rattle.lg_json.proofs.Steps.{moves_as, byte_then, name_quote, name_other}
use Rattle.lg_json.proofs.step.step_name.Goals as goal

pub returns-then-bytes-place-eq34 : goal.returns-then-bytes-place-eq34
returns-then-bytes-place-eq34 c =
    let fs = frames_view c.args.frames.now.items in
    moves_as c.args.bytes.now c.args.place _ _ c.begin_name.new.frames.items c.begin_name.result (byte_then c.args.bytes.now c.args.place fs before_name _ c.requires.within (name_quote c.args.place fs _ c.if-bytes-place-eq34.true)) c.begin_name.ensures

pub returns : goal.returns
returns c =
    let fs = frames_view c.args.frames.now.items in
    stop_byte c.args.bytes.now c.args.place fs before_name _ c.requires.within (name_other c.args.place fs _ c.requires.no_blank c.if-bytes-place-eq34.false)
