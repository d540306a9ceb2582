use Rattle.std.proofs.Common.{inl, inr, refl}
use Rattle.std.proofs.lemmas.Option.{MatchOption-at_some, MatchOption-at_none}
use Rattle.lg_codec.proofs.Readings.{same_reading}
use Rattle.lg_readings.specs.TokenReadings.{IsTokenOf, TokenQuery}
use Rattle.lg_tokens.proofs.tokens.read_token.Goals as goal

pub returns-in-Some : goal.returns-in-Some
returns-in-Some c =
    same_reading (TokenQuery c.args.kind c.args.bytes.now)
    (λ x h. elim h [
      | inl p ↦ inl (c.in-Some.query, p.1, p.0)
      | inr n ↦ inr ((λ q t. n.1 (MatchOption-at_some ⊥ (IsTokenOf c.args.kind c.args.bytes.now) _ c.in-Some.is (c.in_ok-query.ensures.found q t))), n.0)
    ])
    c.checked.ensures

pub returns-in-None : goal.returns-in-None
returns-in-None c =
    record { answers = inr ((λ q t. MatchOption-at_none ⊥ (IsTokenOf c.args.kind c.args.bytes.now) c.in-None.is (c.in_ok-query.ensures.found q t)), refl) }
