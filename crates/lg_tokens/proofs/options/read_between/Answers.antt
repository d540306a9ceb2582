use Rattle.std.proofs.Common.{◌≢◌, ℕ, ◌++◌, refl, arith}
use Rattle.std.specs.Prelude.{codes}
use Rattle.lg_tokens.specs.Parts.{dated}
use Rattle.lg_tokens.proofs.Beginnings.{dated_begins}
use Rattle.lg_tokens.proofs.options.read_between.Goals as goal

pub returns-in_err-from-clause-found : goal.returns-in_err-from-clause-found
returns-in_err-from-clause-found c from to more f t e s is =
    let other = dated_begins (λ (l : ℕ). l ≢ 115) 101 (codes ",\"endTime\":") _ to more refl (omega arith) s in
    absurd (c.in_err-from.ensures.found 115 _ from (dated (codes ",\"endTime\":") to ++ more) refl f other is)

pub returns-in_err-to-clause-found : goal.returns-in_err-to-clause-found
returns-in_err-to-clause-found c from to more f t e s is =
    let other = dated_begins (λ (l : ℕ). l ≢ 115) 101 (codes ",\"endTime\":") _ to more refl (omega arith) s in
    let p = c.in_ok-from.ensures.found 115 _ from (dated (codes ",\"endTime\":") to ++ more) refl f other is in
    absurd (c.in_err-to.ensures.found 101 _ to more refl t e p.1)

pub returns-clause-found : goal.returns-clause-found
returns-clause-found c from to more f t e s is =
    let other = dated_begins (λ (l : ℕ). l ≢ 115) 101 (codes ",\"endTime\":") _ to more refl (omega arith) s in
    let p = c.in_ok-from.ensures.found 115 _ from (dated (codes ",\"endTime\":") to ++ more) refl f other is in
    let q = c.in_ok-to.ensures.found 101 _ to more refl t e p.1 in
    (p.0, q.0, q.1)
