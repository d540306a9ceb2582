use Rattle.std.proofs.Common.{◌≡◌, Option, Some, sym, ap, subst, ◌∙◌, rules, w64}
use Rattle.std.specs.Prelude.{ℤ}
use Rattle.std.proofs.lemmas.Int.{to_z-of_z}
use mir.Val.{to_z, of_z}
use Rattle.lg_readings.specs.TokenReadings.{IsDate}
use Rattle.lg_tokens.proofs.Choices.{dated_absent, dated_present}
use Rattle.lg_tokens.proofs.members.read_dated.Goals as goal

pub returns-in_err-date-in-Some-clause-found : goal.returns-in_err-date-in-Some-clause-found
returns-in_err-date-in-Some-clause-found c letter tail date more w d other e =
    let s = dated_present letter c.args.word.now tail date c.args.bytes.now c.in-Some.rest.now more w other c.in-Some.ensures e in
    absurd (c.in_err-date-in-Some.ensures.found s.0 more (subst (λ (o : Option ℤ). IsDate o) s.1 d) s.2)

pub returns-in_ok-date-in-Some-clause-found : goal.returns-in_ok-date-in-Some-clause-found
returns-in_ok-date-in-Some-clause-found c letter tail date more w d other e =
    let s = dated_present letter c.args.word.now tail date c.args.bytes.now c.in-Some.rest.now more w other c.in-Some.ensures e in
    let p = c.in_ok-date-in-Some.ensures.found s.0 more (subst (λ (o : Option ℤ). IsDate o) s.1 d) s.2 in
    let same : to_z w64 (of_z w64 c.in_ok-date-in-Some.date) ≡ c.in_ok-date-in-Some.date = search (rules, to_z-of_z) in
    (ap (λ (x : ℤ). Some x) (same ∙ p.0) ∙ sym s.1, p.1)

pub returns-in-None-clause-found : goal.returns-in-None-clause-found
returns-in-None-clause-found c letter tail date more w d other e = dated_absent c.args.word.now date c.args.bytes.now more c.in-None.ensures e
