use Rattle.std.proofs.Common.{get_or, [], ◌∷◌, refl, arith}
use Rattle.std.proofs.lemmas.Slice.Eq.{text_from_reads}
use Rattle.lg_time.proofs.CanonicalLemmas.{whole}
use Rattle.lg_time.proofs.print.whole_text.Goals as goal

pub returns : goal.returns
returns c =
    let d = c.args.date.now in
    let t = c.args.time.now in
    let f = c.args.fraction.now in
    whole d t f (get_or d 0 0 ∷ get_or d 1 0 ∷ get_or d 2 0 ∷ get_or d 3 0 ∷ get_or d 4 0 ∷ get_or d 5 0 ∷ get_or d 6 0 ∷ get_or d 7 0 ∷ get_or d 8 0 ∷ get_or d 9 0 ∷ [])
    (get_or t 0 0 ∷ get_or t 1 0 ∷ get_or t 2 0 ∷ get_or t 3 0 ∷ get_or t 4 0 ∷ get_or t 5 0 ∷ get_or t 6 0 ∷ get_or t 7 0 ∷ [])
    (get_or f 0 0 ∷ get_or f 1 0 ∷ get_or f 2 0 ∷ get_or f 3 0 ∷ get_or f 4 0 ∷ get_or f 5 0 ∷ [])
    (text_from_reads _ _ (omega arith) (refl, (refl, (refl, (refl, (refl, (refl, (refl, (refl, (refl, (refl, tt)))))))))))
    (text_from_reads _ _ (omega arith) (refl, (refl, (refl, (refl, (refl, (refl, (refl, (refl, tt)))))))))
    (text_from_reads _ _ (omega arith) (refl, (refl, (refl, (refl, (refl, (refl, tt)))))))
