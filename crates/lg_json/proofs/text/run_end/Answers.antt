use Rattle.lg_json.proofs.Tokens.{plain_one}
use Rattle.lg_json.proofs.text.run_end.Goals as goal

pub loop-at-preserved : goal.loop-at-preserved
loop-at-preserved c = plain_one c.args.bytes.now c.args.place c.loop-at.at c.loop-at.invariant c.loop-at-test.true (c.is_plain.ensures.0 c.if-not-is_plain.false)
