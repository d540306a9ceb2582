-- Where bytes are cut at a mark.
use Rattle.std.proofs.Common.{◌≡◌, ◌≢◌, ℕ, zero, suc, ◌<◌, ◌≤◌, List, [], ◌∷◌, ◌++◌, length, get_or, take, drop, refl, sym, ap, subst, ◌∙◌, inl, inr, arith}
use Rattle.std.proofs.lemmas.Bool.{cases_lt}
use Rattle.lg_tokens.specs.Parts.{Lacks}

-- before the mark there is none
pub lacks_at : (mark : ℕ) (front more : List ℕ) (k : ℕ) → Lacks mark front → k < length front → get_or (front ++ more) k 0 ≢ mark
lacks_at mark [] more k h lt = absurd (omega arith)
lacks_at mark (b ∷ bs) more zero h lt = h.0
lacks_at mark (b ∷ bs) more (suc k) h lt = lacks_at mark bs more k h.1 (omega arith)

pub mark_at : (mark : ℕ) (front more : List ℕ) → get_or (front ++ mark ∷ more) (length front) 0 ≡ mark
mark_at mark [] more = refl
mark_at mark (b ∷ bs) more = mark_at mark bs more

-- behind it there is none
pub lacks_behind : (mark : ℕ) (front more : List ℕ) (k : ℕ) → Lacks mark more → length front < k → k < length (front ++ mark ∷ more) → get_or (front ++ mark ∷ more) k 0 ≢ mark
lacks_behind mark [] more zero h lt le = absurd (omega arith)
lacks_behind mark [] [] (suc k) h lt le = absurd (omega arith)
lacks_behind mark [] (b ∷ bs) (suc k) h lt le = within mark (b ∷ bs) k h (omega arith)
  where
    within : (mark : ℕ) (bs : List ℕ) (k : ℕ) → Lacks mark bs → k < length bs → get_or bs k 0 ≢ mark
    within mark [] k h lt = absurd (omega arith)
    within mark (b ∷ bs) zero h lt = h.0
    within mark (b ∷ bs) (suc k) h lt = within mark bs k h.1 (omega arith)
lacks_behind mark (b ∷ bs) more zero h lt le = absurd (omega arith)
lacks_behind mark (b ∷ bs) more (suc k) h lt le = lacks_behind mark bs more k h (omega arith) (omega arith)

pub take_front : (front more : List ℕ) → take (length front) (front ++ more) ≡ front
take_front [] more = refl
take_front (b ∷ bs) more = ap (λ (l : List ℕ). b ∷ l) (take_front bs more)

pub drop_front : (front more : List ℕ) → drop (length front) (front ++ more) ≡ more
drop_front [] more = refl
drop_front (b ∷ bs) more = drop_front bs more

-- what stands behind a word
pub behind : (word a b : List ℕ) → word ++ a ≡ word ++ b → a ≡ b
behind [] a b e = e
behind (w ∷ ws) a b e = behind ws a b cc

-- a mark behind which there is none
pub last_cut : (mark : ℕ) (front more bytes : List ℕ) (k : ℕ) → Lacks mark more → bytes ≡ front ++ mark ∷ more → length front ≤ k → k < length bytes → get_or bytes k 0 ≡ mark
    → (take k bytes ≡ front) × (drop k bytes ≡ mark ∷ more)
last_cut mark front more bytes k lacks e low high is =
    let whole : get_or (front ++ mark ∷ more) k 0 ≡ mark = sym (ap (λ (l : List ℕ). get_or l k 0) e) ∙ is in
    let within : k < length (front ++ mark ∷ more) = subst (λ (l : List ℕ). k < length l) e high in
    let here : k ≡ length front = elim (cases_lt (length front) k) [
      | inl behind_it ↦ absurd (lacks_behind mark front more k lacks behind_it within whole)
      | inr at_it ↦ (omega arith)
    ] in (
      ap (λ (l : List ℕ). take k l) e ∙ (ap (λ (n : ℕ). take n (front ++ mark ∷ more)) here ∙ take_front front (mark ∷ more)),
      ap (λ (l : List ℕ). drop k l) e ∙ (ap (λ (n : ℕ). drop n (front ++ mark ∷ more)) here ∙ drop_front front (mark ∷ more)),
    )
