use Rattle.std.proofs.Common.{◌∙◌}
use Rattle.lg_pages.proofs.Limits.{digit_more}
use Rattle.lg_pages.proofs.numbers.digits_up_to.Goals as goal

pub loop-digit-preserved : goal.loop-digit-preserved
loop-digit-preserved c =
    let more = digit_more c.args.digits.now c.loop-digit.digit-index c.loop-digit.number c.from.result c.args.limit c.loop-digit-test.true c.loop-digit.invariant.1 c.loop-digit.invariant.0 c.from.ensures in
    (c.min-number.ensures ∙ more.0, more.1)
