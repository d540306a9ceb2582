use Rattle.std.proofs.Common.{◌≡◌, arith, get_or, [], ◌∷◌, refl}
use Rattle.std.proofs.lemmas.Slice.Eq.{text_from_reads}
use Rattle.lg_time.proofs.ReadLemmas.{zone_made, zone_offset, never}
use Rattle.lg_time.proofs.read.read_zone.Goals as goal

pub returns-in_ok-minutes-in-58-clause-value : goal.returns-in_ok-minutes-in-58-clause-value
returns-in_ok-minutes-in-58-clause-value c =
    let t = c.args.text.now in
    let colon : get_or t 3 0 ≡ 58 = omega arith in
    let written : t ≡ get_or t 0 0 ∷ get_or t 1 0 ∷ get_or t 2 0 ∷ 58 ∷ get_or t 4 0 ∷ get_or t 5 0 ∷ [] =
    text_from_reads _ _ (omega arith) (refl, (refl, (refl, (colon, (refl, (refl, tt)))))) in
    let v = c.in_ok-minutes-in-58.ensures.value in
    let s = c.signed.ensures in
    zone_made _ _ _ _ _ written v s.east s.west s.other

pub returns-in_err-minutes-in-58-clause-only : goal.returns-in_err-minutes-in-58-clause-only
returns-in_err-minutes-in-58-clause-only c = λ ahead h.
    let t = c.args.text.now in
    let colon : get_or t 3 0 ≡ 58 = omega arith in
    let written : t ≡ get_or t 0 0 ∷ get_or t 1 0 ∷ get_or t 2 0 ∷ 58 ∷ get_or t 4 0 ∷ get_or t 5 0 ∷ [] =
    text_from_reads _ _ (omega arith) (refl, (refl, (refl, (colon, (refl, (refl, tt)))))) in
    let p = zone_offset _ _ _ _ _ written h in
    never p.0 (c.in_err-minutes-in-58.ensures.only p.0 p.1)
