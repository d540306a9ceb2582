use Rattle.std.proofs.Common.{◌+◌, arith}
use Rattle.lg_json.proofs.Tokens.{zero_stands, digits_stand}
use Rattle.lg_json.proofs.number.read_from.Goals as goal

pub finish_number-requires-clause-stands : goal.finish_number-requires-clause-stands
finish_number-requires-clause-stands c =
    zero_stands c.args.bytes.now c.args.place c.args.negative (c.args.at + 1) (omega arith) (λ fs. c.requires.stands.zero fs (omega arith) c.in-48.is)

pub finish_number-requires-in-49-to-57-clause-stands : goal.finish_number-requires-in-49-to-57-clause-stands
finish_number-requires-in-49-to-57-clause-stands c =
    digits_stand c.args.bytes.now c.args.place (c.args.at + 1) c.args.negative _ _ _ (λ fs. c.requires.stands.digit fs (omega arith) (omega arith) (omega arith)) c.read_digits-number.ensures
