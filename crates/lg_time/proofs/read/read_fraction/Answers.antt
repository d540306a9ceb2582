use Rattle.std.proofs.Common.{arith}
use Rattle.lg_time.specs.Moment.IsFraction.{given}
use Rattle.lg_time.proofs.ReadLemmas.{after_first}
use Rattle.lg_time.proofs.read.read_fraction.Goals as goal

pub returns-in-46-clause-value : goal.returns-in-46-clause-value
returns-in-46-clause-value c =
    let digits = c.are_digits.ensures.0 c.if-are_digits.true in
    let written = after_first c.args.text.now 46 c.in-46.len_at_least (omega arith) in
    given _ written digits.0 digits.1 c.round.ensures.value
