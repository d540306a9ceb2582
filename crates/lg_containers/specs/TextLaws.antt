-- The machine that reads UTF-8 accepts UTF-8 and nothing else.
use Rattle.std.proofs.Common.{◌≡◌, ◌↔◌, ℕ, ◌-◌, ◌<◌, ◌≤◌, true, ◌==◌, IsTrue, nat_lt, List, [], ◌∷◌, ◌++◌, Option, Some, None, option_and_then, IsSomeAnd, IsUtf8, inl, inr, refl, sym, ap, ◌∙◌, subst, arith, append_assoc, append-nil}
use Rattle.std.proofs.lemmas.Bool.{cond_both, and_parts, cases_lt}
use Rattle.std.proofs.lemmas.Str.{IsUtf8-append, IsUtf8-nil, IsUtf8-encode, encode_ascii}
use Rattle.std.specs.Char.{IsScalar, encode_utf8}
use lib.Utf8.{scalar, scalars, encodes, low_scalar}
use Rattle.lg_containers.specs.Grammar.{runs, ends_well, Accepts, Lives}
use Rattle.lg_containers.specs.GrammarLaws.{lives_along}
use Rattle.lg_containers.specs.Utf8.{lead_state, utf8_step, is_boundary, Finishes, BeginsChar}
use Rattle.lg_containers.specs.Utf8Laws.{LeadGives, lead_begins, StepGives, step_begins, lead_of, lead_ascii, can_finish}
use Rattle.lg_containers.specs.declared.utf8.Utf8State.{Utf8State}
use Rattle.lg_containers.specs.declared.utf8.Utf8State.TheVariants.{Boundary, Inside}

pub step_at_boundary : (b : ℕ) → utf8_step Boundary b ≡ lead_state b
unfolding utf8_step
step_at_boundary b = refl

-- what the machine gives for a text, when its state is the one after the part of a character
abbrev Reads : Utf8State → List ℕ → Type 0
Reads state bytes = Accepts utf8_step is_boundary state bytes

abbrev Sound : Utf8State → List ℕ → Type 0
Sound Boundary bytes = Reads Boundary bytes → IsUtf8 bytes
Sound (Inside low high left) bytes = (part : List ℕ) → BeginsChar part (Inside low high left) → Reads (Inside low high left) bytes → IsUtf8 (part ++ bytes)

pub ascii_utf8 : (b : ℕ) (bs : List ℕ) → b < 128 → IsUtf8 bs → IsUtf8 (b ∷ bs)
ascii_utf8 b bs small u = IsUtf8-append (b ∷ []) bs (subst IsUtf8 (encode_ascii b small) (IsUtf8-encode b (low_scalar b (omega arith)))) u

-- after the first byte
after_lead : (b : ℕ) (bs : List ℕ) → ((state : Utf8State) → Sound state bs) → (o : Option Utf8State) → LeadGives b o → IsTrue (ends_well is_boundary (option_and_then (λ t. runs utf8_step t bs) o)) → IsUtf8 (b ∷ bs)
after_lead b bs ih None g h = absurd cc
after_lead b bs ih (Some Boundary) g h = ascii_utf8 b bs g (ih Boundary h)
after_lead b bs ih (Some (Inside low high left)) g h = ih (Inside low high left) (b ∷ []) g h

-- after another
after_part : (part : List ℕ) (b : ℕ) (bs : List ℕ) → ((state : Utf8State) → Sound state bs) → (o : Option Utf8State) → StepGives (part ++ b ∷ []) o → IsTrue (ends_well is_boundary (option_and_then (λ t. runs utf8_step t bs) o)) → IsUtf8 (part ++ b ∷ bs)
after_part part b bs ih None g h = absurd cc
after_part part b bs ih (Some Boundary) g h =
    let r = g [] refl in
    let e : encode_utf8 r.0 ≡ part ++ b ∷ [] = sym r.3 ∙ append-nil _ in
    subst IsUtf8 (append_assoc part (b ∷ []) bs) (IsUtf8-append (part ++ b ∷ []) bs (subst IsUtf8 e (IsUtf8-encode r.0 r.1)) (ih Boundary h))
after_part part b bs ih (Some (Inside low high left)) g h = subst IsUtf8 (append_assoc part (b ∷ []) bs) (ih (Inside low high left) (part ++ b ∷ []) g h)

sound : (bytes : List ℕ) (state : Utf8State) → Sound state bytes
sound [] Boundary = λ h. IsUtf8-nil
sound [] (Inside low high left) = λ part g h. absurd cc
sound (b ∷ bs) Boundary = λ h. after_lead b bs (sound bs) (lead_state b) (lead_begins b) (rw (step_at_boundary b) at h)
sound (b ∷ bs) (Inside low high left) = λ part g h. after_part part b bs (sound bs) (utf8_step (Inside low high left) b) (step_begins part low high left b g) h

-- what finishes a character leads to the next one
pub runs-finish : (more rest : List ℕ) (state : Utf8State) → Finishes state more → runs utf8_step state (more ++ rest) ≡ runs utf8_step Boundary rest
runs-finish more rest Boundary h = rw h refl
runs-finish [] rest (Inside low high left) h = absurd h
runs-finish (b ∷ bs) rest (Inside low high left) h = go (utf8_step (Inside low high left) b) h (runs-finish bs rest)
  where
    go : (o : Option Utf8State) → IsSomeAnd o (λ next. Finishes next bs) → ((state : Utf8State) → Finishes state bs → runs utf8_step state (bs ++ rest) ≡ runs utf8_step Boundary rest) → option_and_then (λ t. runs utf8_step t (bs ++ rest)) o ≡ runs utf8_step Boundary rest
    go None k ih = absurd k
    go (Some next) k ih = ih next k

pub runs-encode : (c : ℕ) (rest : List ℕ) → IsScalar c → runs utf8_step Boundary (encode_utf8 c ++ rest) ≡ runs utf8_step Boundary rest
runs-encode c rest ok = elim (cases_lt c 128) [
  | inl small ↦ rw (encode_ascii c small, step_at_boundary, lead_ascii c small) refl
  | inr large ↦
      let l = lead_of c ok large in
      rw (l.bytes, step_at_boundary, l.state) (runs-finish l.others rest (Inside l.low l.high l.left) l.finishes)
]

runs-encodes : (cs : List ℕ) → scalars cs ≡ true → runs utf8_step Boundary (encodes cs) ≡ Some Boundary
runs-encodes [] ok = refl
runs-encodes (c ∷ cs) ok = let p = and_parts (scalar c) (scalars cs) ok in runs-encode c (encodes cs) p.0 ∙ runs-encodes cs p.1

pub text_accepts : (bytes : List ℕ) → IsUtf8 bytes ↔ Accepts utf8_step is_boundary Boundary bytes
text_accepts bytes = (λ u. ap (ends_well is_boundary) (subst (λ l. runs utf8_step Boundary l ≡ Some Boundary) u.1.1 (runs-encodes u.0 u.1.0)), sound bytes Boundary)

-- the ranges of the machine's states aren't empty
abbrev pub IsLive : Utf8State → Type 0
IsLive Boundary = Unit {0}
IsLive (Inside low high left) = low ≤ high

abbrev pub AllLive : Option Utf8State → Type 0
AllLive None = Unit {0}
AllLive (Some state) = IsLive state

lead_live : (b : ℕ) → AllLive (lead_state b)
unfolding lead_state
lead_live b =
    cond_both (nat_lt b 0x80) _ _ AllLive (λ e. tt)
    (λ _. cond_both (nat_lt b 0xC2) _ _ AllLive (λ e. tt)
    (λ _. cond_both (nat_lt b 0xE0) _ _ AllLive (λ e. omega arith)
    (λ _. cond_both (b == 0xE0) _ _ AllLive (λ e. omega arith)
    (λ _. cond_both (b == 0xED) _ _ AllLive (λ e. omega arith)
    (λ _. cond_both (nat_lt b 0xF0) _ _ AllLive (λ e. omega arith)
    (λ _. cond_both (b == 0xF0) _ _ AllLive (λ e. omega arith)
    (λ _. cond_both (nat_lt b 0xF4) _ _ AllLive (λ e. omega arith)
    (λ _. cond_both (b == 0xF4) _ _ AllLive (λ e. omega arith) (λ e. tt)))))))))

pub step_live : (state : Utf8State) (b : ℕ) → AllLive (utf8_step state b)
unfolding utf8_step
step_live Boundary b = lead_live b
step_live (Inside low high left) b =
    cond_both (nat_lt b low) None _ AllLive (λ e. tt)
    (λ _. cond_both (nat_lt high b) None _ AllLive (λ e. tt)
    (λ _. cond_both (left == 0) (Some Boundary) (Some (Inside 0x80 0xBF (left - 1))) AllLive (λ e. tt) (λ e. omega arith)))

lives_from : (state : Utf8State) → IsLive state → Lives utf8_step is_boundary state
lives_from Boundary live = ([], refl)
lives_from (Inside low high left) live =
    let r = can_finish low high left live in
    (r.0, ap (ends_well is_boundary) (sym (ap (runs utf8_step (Inside low high left)) (append-nil r.0)) ∙ runs-finish r.0 [] (Inside low high left) r.1))

lives_each : (s : Utf8State) (b : ℕ) (t : Utf8State) → utf8_step s b ≡ Some t → Lives utf8_step is_boundary t
lives_each s b t e = lives_from t (subst AllLive e (step_live s b))

pub text_lives : (bytes : List ℕ) (s : Utf8State) → runs utf8_step Boundary bytes ≡ Some s → Lives utf8_step is_boundary s
text_lives bytes s e = lives_along utf8_step is_boundary lives_each bytes Boundary s ([], refl) e
