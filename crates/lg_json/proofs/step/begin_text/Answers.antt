use Rattle.std.proofs.Common.{◌+◌, Ok, arith}
use Rattle.std.proofs.lemmas.Result.{err_from_is_err_and}
use Rattle.lg_json.specs.Tree.Tree.{text}
use Rattle.lg_json.specs.Reading.{complete, Role}
use Rattle.lg_json.specs.View.{frames_view}
use Rattle.lg_json.proofs.Values.{tree-text}
use Rattle.lg_json.proofs.Steps.{moves_placed, fails_as, text_begins, text_value}
use Rattle.lg_json.proofs.step.begin_text.Goals as goal

pub returns-in_err-text : goal.returns-in_err-text
returns-in_err-text c =
    let p = err_from_is_err_and c.from_residual.result c.from_residual.ensures.1 in
    let fs = frames_view c.args.frames.now.items in
    rw (p.1, p.2) (fails_as _ _ _ (text_begins c.args.bytes.now c.args.place fs c.requires.within c.requires.quote) (c.in_err-text.ensures fs Role.Value))

pub returns : goal.returns
returns c =
    let fs = frames_view c.args.frames.now.items in
    rw c.at_place.ensures
    (moves_placed c.args.bytes.now c.args.place (c.in_ok-text.quote + 1) _ (Ok (complete fs (text c.in_ok-text.text))) c.complete.new.frames.items c.complete.result
    (omega (arith, c.in_ok-text.ensures.above)) (omega (arith, c.in_ok-text.ensures.within))
    (text_value c.args.bytes.now c.args.place c.in_ok-text.quote c.in_ok-text.text fs c.requires.within c.requires.quote c.in_ok-text.ensures) (rw tree-text at c.complete.ensures))
