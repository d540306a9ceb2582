use Rattle.std.proofs.lemmas.Result.{err_from_is_err_and}
use Rattle.lg_json.specs.Tree.{tree}
use Rattle.lg_json.specs.Reading.{complete}
use Rattle.lg_json.specs.View.{frames_view}
use Rattle.std.proofs.Common.{Ok, arith}
use Rattle.lg_json.proofs.Steps.{moves_placed, word_value, word_fails}
use Rattle.lg_json.proofs.step.begin_word.Goals as goal

pub returns : goal.returns
returns c =
    let fs = frames_view c.args.frames.now.items in
    let t = tree c.args.value in
    rw c.at_place.ensures
    (moves_placed c.args.bytes.now c.args.place c.in_ok-end.end _ (Ok (complete fs t)) c.complete.new.frames.items c.complete.result (omega (arith, c.in_ok-end.ensures.0)) c.in_ok-end.ensures.1
    (word_value c.args.bytes.now c.args.place c.in_ok-end.end c.args.rest.now fs t c.requires.within (c.requires.first fs) _ (c.in_ok-end.ensures.2 fs t)) c.complete.ensures)

pub returns-in_err-end : goal.returns-in_err-end
returns-in_err-end c =
    let p = err_from_is_err_and c.from_residual.result c.from_residual.ensures.1 in
    let fs = frames_view c.args.frames.now.items in
    let t = tree c.args.value in
    rw (p.1, p.2) (word_fails c.args.bytes.now c.args.place c.args.rest.now fs t _ c.requires.within (c.requires.first fs) (c.in_err-end.ensures fs t))
