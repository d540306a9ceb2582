-- One posting that is booked or taken back.
use Rattle.std.proofs.Common.{◌≡◌, ℕ, ◌+◌, ◌-◌, ◌≤◌, Bool, true, false, ◌&&◌, cond, List, [], ◌∷◌, map, refl, sym, ◌∙◌, ap, ap₂, subst, arith}
use Rattle.std.specs.Str.{bytes_eq}
use Rattle.std.proofs.lemmas.Slice.Eq.{bytes_eq-Decides}
use Rattle.lg_base.specs.declared.amounts.Volumes.{Volumes}
use Rattle.lg_base.specs.Volumes.{sum_of}
use Rattle.lg_types.specs.declared.records.Posting.{Posting}
use Rattle.lg_types.specs.Moves.{what_of, out_move, in_move, total}
use Rattle.lg_types.specs.Tally.{tally}
use Rattle.lg_types.specs.Trial.{tried_moves}
use Rattle.std.specs.Prelude.{pos}
use Rattle.lg_types.proofs.MoveSums.{same_volumes}

abbrev pub At : Type 0
At = List ℕ → List ℕ → Volumes

-- whether the pair is the given one
abbrev pub is_pair : List ℕ → List ℕ → List ℕ → List ℕ → Bool
is_pair account asset b y = bytes_eq account b && bytes_eq asset y

abbrev pub own_volumes : Posting → List ℕ → List ℕ → Volumes
own_volumes p b y = record { input = cond (is_pair p.destination p.asset b y) p.amount 0; output = cond (is_pair p.source p.asset b y) p.amount 0 }

-- the totals of one posting
pub tried_total : (p : Posting) (b y : List ℕ) → total (tried_moves p) b y ≡ own_volumes p b y
tried_total p b y = by_tests (is_pair p.source p.asset b y) (is_pair p.destination p.asset b y)
  where
    by_tests : (s d : Bool)
        → tally (λ _. true) (map what_of (cond s (out_move 0 (pos 0) (pos 0) p ∷ cond d (in_move 0 (pos 0) (pos 0) p ∷ []) []) (cond d (in_move 0 (pos 0) (pos 0) p ∷ []) []))) ≡ record { input = cond d p.amount 0; output = cond s p.amount 0 }
    by_tests true true = same_volumes _ _ _ _ (omega arith) (omega arith)
    by_tests true false = same_volumes _ _ _ _ (omega arith) (omega arith)
    by_tests false true = same_volumes _ _ _ _ (omega arith) (omega arith)
    by_tests false false = same_volumes _ _ _ _ (omega arith) (omega arith)

-- at the pair itself the volumes are those of the pair
picks : (account asset b y : List ℕ) (W : At) (f : Volumes → Volumes) → cond (is_pair account asset b y) (f (W account asset)) (W b y) ≡ cond (is_pair account asset b y) (f (W b y)) (W b y)
picks account asset b y W f = by_tests (bytes_eq account b) refl (bytes_eq asset y) refl
  where
    by_tests : (s : Bool) → bytes_eq account b ≡ s → (t : Bool) → bytes_eq asset y ≡ t → cond (s && t) (f (W account asset)) (W b y) ≡ cond (s && t) (f (W b y)) (W b y)
    by_tests true e true k = ap f (ap₂ W ((bytes_eq-Decides account b).0 e) ((bytes_eq-Decides asset y).0 k))
    by_tests true e false k = refl
    by_tests false e t k = refl

-- a fact of the pair is one of another pair that is the same
pub there : (account asset b y : List ℕ) (W : At) (P : Volumes → Type 0) → P (W account asset) → is_pair account asset b y ≡ true → P (W b y)
there account asset b y W P h = by_tests (bytes_eq account b) refl (bytes_eq asset y) refl
  where
    by_tests : (s : Bool) → bytes_eq account b ≡ s → (t : Bool) → bytes_eq asset y ≡ t → (s && t) ≡ true → P (W b y)
    by_tests true e true k g = subst P (ap₂ W ((bytes_eq-Decides account b).0 e) ((bytes_eq-Decides asset y).0 k)) h
    by_tests true e false k g = cc
    by_tests false e t k g = cc

abbrev pub more_out : ℕ → Volumes → Volumes
more_out n v = record { input = v.input; output = v.output + n }

abbrev pub more_in : ℕ → Volumes → Volumes
more_in n v = record { input = v.input + n; output = v.output }

abbrev pub less_out : ℕ → Volumes → Volumes
less_out n v = record { input = v.input; output = v.output - n }

abbrev pub less_in : ℕ → Volumes → Volumes
less_in n v = record { input = v.input - n; output = v.output }

-- the volumes with others at the pair
abbrev pub SetAt : List ℕ → List ℕ → (Volumes → Volumes) → At → At → Type 0
SetAt account asset f W V = (b y : List ℕ) → V b y ≡ cond (is_pair account asset b y) (f (W account asset)) (W b y)

joined : (s d : Bool) (n : ℕ) (v0 v1 v2 : Volumes) → v1 ≡ cond s (more_out n v0) v0 → v2 ≡ cond d (more_in n v1) v1 → v2 ≡ sum_of v0 (record { input = cond d n 0; output = cond s n 0 })
joined true true n v0 v1 v2 e k = k ∙ ap (more_in n) e
joined true false n v0 v1 v2 e k = k ∙ e ∙ same_volumes _ _ _ _ (omega arith) refl
joined false true n v0 v1 v2 e k = k ∙ ap (more_in n) e ∙ same_volumes _ _ _ _ refl (omega arith)
joined false false n v0 v1 v2 e k = k ∙ e ∙ same_volumes _ _ _ _ (omega arith) (omega arith)

-- output at the source, then input at the destination
pub added : (p : Posting) (U V W : At) → SetAt p.source p.asset (more_out p.amount) U V → SetAt p.destination p.asset (more_in p.amount) V W → (b y : List ℕ) → W b y ≡ sum_of (U b y) (total (tried_moves p) b y)
added p U V W first second b y =
    joined (is_pair p.source p.asset b y) (is_pair p.destination p.asset b y) p.amount (U b y) (V b y) (W b y)
    (first b y ∙ picks p.source p.asset b y U (more_out p.amount))
    (second b y ∙ picks p.destination p.asset b y V (more_in p.amount))
    ∙ ap (λ v. sum_of (U b y) v) (sym (tried_total p b y))

-- the input that the destination has after the source's output changed
pub input_stays : (f : Volumes → Volumes) → ((v : Volumes) → (f v).input ≡ v.input) → (account asset b y : List ℕ) (U V : At) → SetAt account asset f U V → (V b y).input ≡ (U b y).input
input_stays f same account asset b y U V set = ap (λ v. v.input) (set b y ∙ picks account asset b y U f) ∙ by_test (is_pair account asset b y)
  where
    by_test : (s : Bool) → (cond s (f (U b y)) (U b y)).input ≡ (U b y).input
    by_test true = same (U b y)
    by_test false = refl

separated : (s d : Bool) (n : ℕ) (v0 v1 v2 : Volumes) → (s ≡ true → n ≤ v0.output) → (d ≡ true → n ≤ v0.input) → v1 ≡ cond s (less_out n v0) v0 → v2 ≡ cond d (less_in n v1) v1
    → sum_of v2 (record { input = cond d n 0; output = cond s n 0 }) ≡ v0
separated true true n v0 v1 v2 h g e k =
    let out = h refl in let income = g refl in
    ap (λ v. sum_of v (record { input = n; output = n })) (k ∙ ap (less_in n) e) ∙ same_volumes _ _ _ _ (omega (arith, income)) (omega (arith, out))
separated true false n v0 v1 v2 h g e k =
    let out = h refl in
    ap (λ v. sum_of v (record { input = 0; output = n })) (k ∙ e) ∙ same_volumes _ _ _ _ (omega arith) (omega (arith, out))
separated false true n v0 v1 v2 h g e k =
    let income = g refl in
    ap (λ v. sum_of v (record { input = n; output = 0 })) (k ∙ ap (less_in n) e) ∙ same_volumes _ _ _ _ (omega (arith, income)) (omega arith)
separated false false n v0 v1 v2 h g e k = ap (λ v. sum_of v (record { input = 0; output = 0 })) (k ∙ e) ∙ same_volumes _ _ _ _ (omega arith) (omega arith)

pub taken : (p : Posting) (U V W : At) → p.amount ≤ (U p.source p.asset).output → p.amount ≤ (U p.destination p.asset).input
    → SetAt p.source p.asset (less_out p.amount) U V → SetAt p.destination p.asset (less_in p.amount) V W → (b y : List ℕ) → sum_of (W b y) (total (tried_moves p) b y) ≡ U b y
taken p U V W out income first second b y =
    ap (λ v. sum_of (W b y) v) (tried_total p b y)
    ∙ separated (is_pair p.source p.asset b y) (is_pair p.destination p.asset b y) p.amount (U b y) (V b y) (W b y)
    (there p.source p.asset b y U (λ v. p.amount ≤ v.output) out)
    (there p.destination p.asset b y U (λ v. p.amount ≤ v.input) income)
    (first b y ∙ picks p.source p.asset b y U (less_out p.amount))
    (second b y ∙ picks p.destination p.asset b y V (less_in p.amount))
