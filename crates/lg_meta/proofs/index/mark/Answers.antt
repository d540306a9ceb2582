use Rattle.std.proofs.lemmas.Result.{on_ok_weaker, on_err_weaker}
use Rattle.lg_meta.proofs.Marking.{marked_more, marked_none}
use Rattle.lg_meta.proofs.index.mark.Goals as goal

pub returns-clause-ok : goal.returns-clause-ok
returns-clause-ok c =
    on_ok_weaker c.push.result
    (marked_more c.args.index.now c.args.name.now c.new.result c.in_ok-places.places.now c.push.new.self c.args.place c.in_ok-places.ensures.value c.new.ensures) c.push.ensures.ok

pub returns-clause-err : goal.returns-clause-err
returns-clause-err c =
    on_err_weaker c.push.result
    (marked_none c.args.index.now c.args.name.now c.new.result c.in_ok-places.places.now c.push.new.self c.in_ok-places.ensures.value c.new.ensures) c.push.ensures.err
