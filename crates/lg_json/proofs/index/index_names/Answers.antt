use Rattle.lg_json.proofs.Placing.{names_more}
use Rattle.lg_json.proofs.index.index_names.Goals as goal

pub loop-place-preserved : goal.loop-place-preserved
loop-place-preserved c = names_more c.args.members.now c.loop-place.place c.name_at.result.now c.in_ok-add.field-0 c.add.new.self c.loop-place-test.true c.name_at.ensures c.in_ok-add.ensures
