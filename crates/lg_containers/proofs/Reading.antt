-- Where the machine of a grammar stops is the place of the fault.
use Rattle.std.proofs.Common.{◌≡◌, ℕ, suc, ◌+◌, ◌-◌, ◌<◌, ◌≤◌, Bool, true, false, List, [], ◌∷◌, ◌++◌, length, take, drop, get_or, ◌↔◌, Option, Some, None, option_and_then, refl, sym, ap, subst, ◌∙◌, arith, take_all, take-append-drop, drop-cons, append_assoc, length-append, length-take-le}
use Rattle.std.proofs.Math.Seq.{take-append_seam, take-append-add}
use Rattle.std.proofs.lemmas.List.{take_more}
use Rattle.lg_containers.specs.Grammar.{Begins, IsFaultPlace, runs, ends_well, Accepts, Lives}

pub runs-append : {S : Type 0} (step : S → ℕ → Option S) (s : S) (xs ys : List ℕ) → runs step s (xs ++ ys) ≡ option_and_then (λ t. runs step t ys) (runs step s xs)
runs-append step s [] ys = refl
runs-append step s (b ∷ bs) ys =
    elim (step s b) as (λ o. option_and_then (λ t. runs step t (bs ++ ys)) o ≡ option_and_then (λ t. runs step t ys) (option_and_then (λ t. runs step t bs) o)) [
      | None ↦ refl
      | Some t ↦ runs-append step t bs ys
    ]

-- one more byte
pub runs-more : {S : Type 0} (step : S → ℕ → Option S) (first : S) (bytes : List ℕ) (i : ℕ) (s t : S) → i < length bytes → runs step first (take i bytes) ≡ Some s → step s (get_or bytes i 0) ≡ Some t → runs step first (take (i + 1) bytes) ≡ Some t
runs-more step first bytes i s t h e next =
    ap (runs step first) (take_more bytes i 0 h)
    ∙ runs-append step first (take i bytes) (get_or bytes i 0 ∷ [])
    ∙ ap (option_and_then (λ u. runs step u (get_or bytes i 0 ∷ []))) e
    ∙ ap (option_and_then (λ u. runs step u [])) next

-- what was read is all
pub runs-all : {S : Type 0} (step : S → ℕ → Option S) (first : S) (bytes : List ℕ) (i : ℕ) (s : S) → length bytes ≤ i → runs step first (take i bytes) ≡ Some s → runs step first bytes ≡ Some s
runs-all step first bytes i s h e = ap (runs step first) (sym (take_all i bytes h)) ∙ e

module _ {S : Type 0} (Names : List ℕ → Type 0) (step : S → ℕ → Option S) (ends : S → Bool) (first : S)
    (accepts : (bytes : List ℕ) → Names bytes ↔ Accepts step ends first bytes)
    (lives : (bytes : List ℕ) (s : S) → runs step first bytes ≡ Some s → Lives step ends s) where
  begins : (front : List ℕ) (s : S) → runs step first front ≡ Some s → Begins Names front
  begins front s e =
      let live = lives front s e in
      (live.0, (accepts (front ++ live.0)).1 (ap (ends_well ends) (runs-append step first front live.0 ∙ ap (option_and_then (λ t. runs step t live.0)) e) ∙ live.1))

  stopped : (front : List ℕ) (b : ℕ) (later : List ℕ) (s : S) → runs step first front ≡ Some s → step s b ≡ None → ¬ Names (front ++ b ∷ later)
  stopped front b later s e stop h =
      let none : runs step first (front ++ b ∷ later) ≡ None =
      runs-append step first front (b ∷ later) ∙ ap (option_and_then (λ t. runs step t (b ∷ later))) e ∙ ap (option_and_then (λ t. runs step t later)) stop in
      let said : false ≡ true = sym (ap (ends_well ends) none) ∙ (accepts (front ++ b ∷ later)).0 h in
      cc

  longer : (front : List ℕ) (b : ℕ) (later : List ℕ) (n : ℕ) (rest : List ℕ) → length front < n → take n (front ++ b ∷ later) ++ rest ≡ front ++ b ∷ (take (n - suc (length front)) later ++ rest)
  longer front b later n rest h =
      let k : n ≡ length front + suc (n - suc (length front)) = omega arith in
      ap (λ m. take m (front ++ b ∷ later) ++ rest) k
      ∙ ap (λ xs. xs ++ rest) (take-append-add front (b ∷ later) (suc (n - suc (length front))))
      ∙ append_assoc front (b ∷ take (n - suc (length front)) later) rest

  at_byte : (front : List ℕ) (b : ℕ) (later : List ℕ) (s : S) → runs step first front ≡ Some s → step s b ≡ None → IsFaultPlace Names (front ++ b ∷ later) (length front)
  at_byte front b later s e stop = record {
    no_name = stopped front b later s e stop;
    within = omega (arith, length-append front (b ∷ later));
    begins = subst (Begins Names) (sym (take-append_seam front (b ∷ later))) (begins front s e);
    longest = λ n more within h. stopped front b (take (n - suc (length front)) later ++ h.0) s e stop (subst Names (longer front b later n h.0 more) h.1);
  }

  -- the machine stops at the byte at i
  pub fault_at : (bytes : List ℕ) (i : ℕ) (b : ℕ) (s : S) → i < length bytes → get_or bytes i 0 ≡ b → runs step first (take i bytes) ≡ Some s → step s b ≡ None → IsFaultPlace Names bytes i
  fault_at bytes i b s h is e stop =
      let parts : take i bytes ++ b ∷ drop (suc i) bytes ≡ bytes = rw (← is, ← drop-cons bytes i 0 h) (take-append-drop i bytes) in
      let long : length (take i bytes) ≡ i = length-take-le i bytes (omega arith) in
      subst (λ n. IsFaultPlace Names bytes n) long (subst (λ bs. IsFaultPlace Names bs (length (take i bytes))) parts (at_byte (take i bytes) b (drop (suc i) bytes) s e stop))

  -- the bytes are over, and no name ends there
  pub fault_at_end : (bytes : List ℕ) (s : S) → runs step first bytes ≡ Some s → ends s ≡ false → IsFaultPlace Names bytes (length bytes)
  fault_at_end bytes s e stop = record {
    no_name = λ h. let said : false ≡ true = sym stop ∙ sym (ap (ends_well ends) e) ∙ (accepts bytes).0 h in cc;
    within = omega arith;
    begins = subst (Begins Names) (sym (take_all (length bytes) bytes (omega arith))) (begins bytes s e);
    longest = λ n more within h. absurd (omega arith);
  }

  -- the bytes are over, and a name ends there
  pub whole : (bytes : List ℕ) (s : S) → runs step first bytes ≡ Some s → ends s ≡ true → Names bytes
  whole bytes s e stop = (accepts bytes).1 (ap (ends_well ends) e ∙ stop)
