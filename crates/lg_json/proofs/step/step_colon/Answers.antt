use Rattle.std.proofs.Common.{arith}
use Rattle.lg_json.specs.Reading.Mode.{before_colon}
use Rattle.lg_json.specs.View.{frames_view}
use Rattle.lg_json.proofs.Tokens.{one_byte, stop_byte}
use Rattle.lg_json.proofs.Steps.{colon_byte, colon_other}
use Rattle.lg_json.proofs.step.step_colon.Goals as goal

pub returns-then-bytes-place-eq58 : goal.returns-then-bytes-place-eq58
returns-then-bytes-place-eq58 c =
    let fs = frames_view c.args.frames.now.items in
    (omega arith, omega arith, one_byte c.args.bytes.now c.args.place fs before_colon _ c.requires.within (colon_byte c.args.place fs _ c.if-bytes-place-eq58.true))

pub returns : goal.returns
returns c =
    let fs = frames_view c.args.frames.now.items in
    stop_byte c.args.bytes.now c.args.place fs before_colon _ c.requires.within (colon_other c.args.place fs _ c.requires.no_blank c.if-bytes-place-eq58.false)
