use Rattle.std.proofs.Common.{◌≡◌, arith, get_or, [], ◌∷◌, refl}
use Rattle.std.proofs.lemmas.Slice.Eq.{text_from_reads}
use Rattle.std.proofs.lemmas.Int.{ints}
use Rattle.lg_time.proofs.ReadLemmas.{date_made, date_only, as_some}
use Rattle.lg_time.proofs.read.read_date.Goals as goal

pub returns-clause-value : goal.returns-clause-value
returns-clause-value c =
    let t = c.args.text.now in
    let dash : get_or t 4 0 ≡ 45 = omega arith in
    let dash2 : get_or t 7 0 ≡ 45 = omega arith in
    let written : t ≡ get_or t 0 0 ∷ get_or t 1 0 ∷ get_or t 2 0 ∷ get_or t 3 0 ∷ 45 ∷ get_or t 5 0 ∷ get_or t 6 0 ∷ 45 ∷ get_or t 8 0 ∷ get_or t 9 0 ∷ [] =
    text_from_reads _ _ (omega arith) (refl, (refl, (refl, (refl, (dash, (refl, (refl, (dash2, (refl, (refl, tt)))))))))) in
    let exists = rw (c.from.ensures, c.from-2.ensures) at c.in_ok-day_number.ensures.exists in
    let number = rw (c.from.ensures, c.from-2.ensures) at c.in_ok-day_number.ensures.value in
    date_made _ _ _ _ _ _ _ _ _ _ _ _ _ _ written c.in_ok-century.ensures.value.1 c.in_ok-of_century.ensures.value.1 c.in_ok-month.ensures.value.1 c.in_ok-day.ensures.value.1 c.in_ok-of_century.ensures.value.0 exists (omega (arith, ints, number))

pub returns-clause-only : goal.returns-clause-only
returns-clause-only c = λ other h.
    let t = c.args.text.now in
    let dash : get_or t 4 0 ≡ 45 = omega arith in
    let dash2 : get_or t 7 0 ≡ 45 = omega arith in
    let written : t ≡ get_or t 0 0 ∷ get_or t 1 0 ∷ get_or t 2 0 ∷ get_or t 3 0 ∷ 45 ∷ get_or t 5 0 ∷ get_or t 6 0 ∷ 45 ∷ get_or t 8 0 ∷ get_or t 9 0 ∷ [] =
    text_from_reads _ _ (omega arith) (refl, (refl, (refl, (refl, (dash, (refl, (refl, (dash2, (refl, (refl, tt)))))))))) in
    let e = date_only _ _ _ _ _ _ _ _ _ _ _ _ _ _ written c.in_ok-century.ensures.value.1 c.in_ok-of_century.ensures.value.1 c.in_ok-month.ensures.value.1 c.in_ok-day.ensures.value.1 c.in_ok-of_century.ensures.value.0 h in
    let number = rw (c.from.ensures, c.from-2.ensures) at c.in_ok-day_number.ensures.value in
    as_some _ _ (omega (arith, ints, e, number))
