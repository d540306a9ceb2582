use Rattle.std.proofs.Common.{get_or, arith}
use Rattle.lg_json.proofs.Reaches.{digit_test}
use Rattle.lg_json.proofs.Tokens.{digits_one}
use Rattle.lg_json.proofs.number.read_digits.Goals as goal

pub loop-end-preserved : goal.loop-end-preserved
loop-end-preserved c =
    digits_one c.args.bytes.now c.args.at c.args.first c.loop-end.number _ c.loop-end.end c.loop-end.invariant c.loop-end-test.true (digit_test (get_or c.args.bytes.now c.loop-end.end 0) (omega arith, omega arith)) c.with_digit-number.ensures
