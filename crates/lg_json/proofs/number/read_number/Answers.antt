use Rattle.lg_json.proofs.Tokens.{after_minus_sign, no_sign}
use Rattle.std.proofs.Common.{inl, inr}
use Rattle.lg_json.proofs.number.read_number.Goals as goal

pub read_from-requires-clause-stands : goal.read_from-requires-clause-stands
read_from-requires-clause-stands c = after_minus_sign c.args.bytes.now c.args.place c.requires.within c.if-bytes-place-eq45.true

pub read_from-requires-else-bytes-place-eq45-clause-stands : goal.read_from-requires-else-bytes-place-eq45-clause-stands
read_from-requires-else-bytes-place-eq45-clause-stands c =
    no_sign c.args.bytes.now c.args.place c.requires.within (elim c.requires.begins [ inl e ↦ absurd (c.if-bytes-place-eq45.false e) | inr d ↦ d ])
