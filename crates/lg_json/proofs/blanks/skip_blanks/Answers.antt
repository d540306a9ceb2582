use Rattle.std.proofs.Common.{sym, ◌∙◌}
use Rattle.lg_json.proofs.Tokens.{skips_one}
use Rattle.lg_json.proofs.blanks.skip_blanks.Goals as goal

pub loop-at-preserved : goal.loop-at-preserved
loop-at-preserved c = skips_one c.args.bytes.now c.args.place c.loop-at.at c.loop-at.invariant c.loop-at-test.true (sym c.is_blank.ensures ∙ c.if-not-is_blank.false)
