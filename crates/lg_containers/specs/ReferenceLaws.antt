-- The machine that reads a reference, and why it accepts what the grammar does.
use Rattle.std.proofs.Common.{◌≡◌, ◌↔◌, ℕ, suc, ◌+◌, ◌-◌, ◌<◌, ◌≤◌, Bool, cond, ◌&&◌, ◌==◌, IsTrue, nat_lt, List, [], ◌∷◌, length, Option, Some, None, option_and_then, IsSomeAnd, sym, ap, ◌∙◌, subst, arith, append-nil, ltb-true, eqb-true}
use Rattle.std.proofs.lemmas.Bool.{cond_both, cond-true, lt-ltb, and_parts, eqb-false}
use Rattle.lg_containers.specs.Grammar.{runs, ends_well, Accepts, Lives}
use Rattle.lg_containers.specs.GrammarLaws.{lives_along}
use Rattle.lg_containers.specs.Utf8.{utf8_step, is_boundary, Finishes}
use Rattle.lg_containers.specs.Utf8Laws.{can_finish, lead_ascii}
use Rattle.lg_containers.specs.TextLaws.{text_accepts, step_at_boundary, runs-finish, IsLive, AllLive, step_live}
use Rattle.lg_containers.specs.ReferenceGrammar.{IsReference}
use Rattle.lg_containers.specs.declared.utf8.Utf8State.{Utf8State}
use Rattle.lg_containers.specs.declared.utf8.Utf8State.TheVariants.{Boundary, Inside}
use Rattle.lg_containers.specs.declared.reference.ReferenceState.{ReferenceState}

abbrev pub state : ℕ → Utf8State → ReferenceState
state n u = record { length = n; character = u }

abbrev pub reference_first : ReferenceState
reference_first = state 0 Boundary

-- how many bytes a character has still to come
abbrev pub to_come : Utf8State → ℕ
to_come Boundary = 0
to_come (Inside low high left) = left + 1

-- after the byte n of the reference, counted from 0: its character must have room
abbrev pub with_room : ℕ → Option Utf8State → Option ReferenceState
with_room n None = None
with_room n (Some u) = cond (nat_lt (n + to_come u) 255) (Some (state (n + 1) u)) None

abbrev pub reference_step : ReferenceState → ℕ → Option ReferenceState
reference_step s b = with_room s.length (utf8_step s.character b)

abbrev pub reference_ends : ReferenceState → Bool
reference_ends s = is_boundary s.character && nat_lt 0 s.length

-- a text that ends has the bytes that its first character needs
abbrev Needs : Utf8State → List ℕ → Type 0
Needs u bytes = IsTrue (ends_well is_boundary (runs utf8_step u bytes)) → to_come u ≤ length bytes

needs : (bytes : List ℕ) (u : Utf8State) → Needs u bytes
unfolding utf8_step
needs bytes Boundary = λ h. omega arith
needs [] (Inside low high left) = λ h. absurd cc
needs (b ∷ bs) (Inside low high left) =
    cond_both (nat_lt b low) None _ (λ (o : Option Utf8State). IsTrue (ends_well is_boundary (option_and_then (λ t. runs utf8_step t bs) o)) → left + 1 ≤ suc (length bs))
    (λ _ h. absurd cc)
    (λ _. cond_both (nat_lt high b) None _ (λ (o : Option Utf8State). IsTrue (ends_well is_boundary (option_and_then (λ t. runs utf8_step t bs) o)) → left + 1 ≤ suc (length bs))
    (λ _ h. absurd cc)
    (λ _. cond_both (left == 0) (Some Boundary) (Some (Inside 0x80 0xBF (left - 1))) (λ (o : Option Utf8State). IsTrue (ends_well is_boundary (option_and_then (λ t. runs utf8_step t bs) o)) → left + 1 ≤ suc (length bs))
    (λ e h. let none : left ≡ 0 = eqb-true left 0 e in omega arith)
    (λ e h. let some : left ≡ 0 → ⊥ = eqb-false left 0 e in let k : (left - 1) + 1 ≤ length bs = needs bs (Inside 0x80 0xBF (left - 1)) h in omega arith)))

-- with room for all its bytes, a text is a reference
abbrev Taken : ℕ → Utf8State → List ℕ → Type 0
Taken n u bytes = IsTrue (ends_well is_boundary (runs utf8_step u bytes)) → n + length bytes ≤ 255 → runs reference_step (state n u) bytes ≡ Some (state (n + length bytes) Boundary)

taken : (bytes : List ℕ) (n : ℕ) (u : Utf8State) → Taken n u bytes
taken [] n Boundary = λ h room. ap (λ k. Some (state k Boundary)) (omega arith)
taken [] n (Inside low high left) = λ h room. absurd cc
taken (b ∷ bs) n u = go (utf8_step u b) (taken bs (n + 1))
  where
    go : (o : Option Utf8State) → ((v : Utf8State) → Taken (n + 1) v bs) → IsTrue (ends_well is_boundary (option_and_then (λ t. runs utf8_step t bs) o)) → n + suc (length bs) ≤ 255
        → option_and_then (λ t. runs reference_step t bs) (with_room n o) ≡ Some (state (n + suc (length bs)) Boundary)
    go None ih h room = absurd cc
    go (Some v) ih h room =
        let k : to_come v ≤ length bs = needs bs v h in
        let fits : n + to_come v < 255 = omega arith in
        let moved : (n + 1) + length bs ≤ 255 = omega arith in
        ap (option_and_then (λ t. runs reference_step t bs)) (cond-true (nat_lt (n + to_come v) 255) (Some (state (n + 1) v)) None (lt-ltb _ 255 fits))
        ∙ ih v h moved ∙ ap (λ j. Some (state j Boundary)) (omega arith)

-- and a reference is a text, of no more bytes
abbrev IsTaken : ℕ → Utf8State → List ℕ → Type 0
IsTaken n u bytes = IsTrue (ends_well is_boundary (runs utf8_step u bytes)) × (1 ≤ n + length bytes) × (n + length bytes ≤ 255)

is_taken : (bytes : List ℕ) (n : ℕ) (u : Utf8State) → n ≤ 255 → Accepts reference_step reference_ends (state n u) bytes → IsTaken n u bytes
is_taken [] n u small h = let p = and_parts (is_boundary u) (nat_lt 0 n) h in let q : 0 < n = ltb-true 0 n p.1 in (p.0, omega arith, omega arith)
is_taken (b ∷ bs) n u small h = go (utf8_step u b) (is_taken bs (n + 1)) h
  where
    go : (o : Option Utf8State) → ((v : Utf8State) → n + 1 ≤ 255 → Accepts reference_step reference_ends (state (n + 1) v) bs → IsTaken (n + 1) v bs)
        → IsTrue (ends_well reference_ends (option_and_then (λ t. runs reference_step t bs) (with_room n o)))
        → IsTrue (ends_well is_boundary (option_and_then (λ t. runs utf8_step t bs) o)) × (1 ≤ n + suc (length bs)) × (n + suc (length bs) ≤ 255)
    go None ih k = absurd cc
    go (Some v) ih h2 =
        cond_both (nat_lt (n + to_come v) 255) (Some (state (n + 1) v)) None
        (λ (o : Option ReferenceState). IsTrue (ends_well reference_ends (option_and_then (λ t. runs reference_step t bs) o)) → IsTrue (ends_well is_boundary (runs utf8_step v bs)) × (1 ≤ n + suc (length bs)) × (n + suc (length bs) ≤ 255))
        (λ e k. let room : n + to_come v < 255 = ltb-true _ 255 e in let r = ih v (omega arith) k in (r.0, omega arith, omega arith))
        (λ e k. absurd cc) h2

pub reference_accepts : (bytes : List ℕ) → IsReference bytes ↔ Accepts reference_step reference_ends reference_first bytes
reference_accepts bytes = (
  λ r. ap (ends_well reference_ends) (taken bytes 0 Boundary ((text_accepts bytes).0 r.0) (let high = r.2 in omega arith)) ∙ lt-ltb 0 (0 + length bytes) (let low = r.1 in omega arith),
  λ h. let r = is_taken bytes 0 Boundary (omega arith) h in ((text_accepts bytes).1 r.0, omega (arith, r.1), omega (arith, r.2)),
)

finish_length : (more : List ℕ) (u : Utf8State) → Finishes u more → length more ≡ to_come u
unfolding utf8_step
finish_length more Boundary h = ap length h
finish_length [] (Inside low high left) h = absurd h
finish_length (b ∷ bs) (Inside low high left) h =
    cond_both (nat_lt b low) None _ (λ (o : Option Utf8State). IsSomeAnd o (λ next. Finishes next bs) → suc (length bs) ≡ left + 1)
    (λ _ k. absurd k)
    (λ _. cond_both (nat_lt high b) None _ (λ (o : Option Utf8State). IsSomeAnd o (λ next. Finishes next bs) → suc (length bs) ≡ left + 1)
    (λ _ k. absurd k)
    (λ _. cond_both (left == 0) (Some Boundary) (Some (Inside 0x80 0xBF (left - 1))) (λ (o : Option Utf8State). IsSomeAnd o (λ next. Finishes next bs) → suc (length bs) ≡ left + 1)
    (λ e k. let none : left ≡ 0 = eqb-true left 0 e in let l : length bs ≡ 0 = finish_length bs Boundary k in omega arith)
    (λ e k. let some : left ≡ 0 → ⊥ = eqb-false left 0 e in let l : length bs ≡ (left - 1) + 1 = finish_length bs (Inside 0x80 0xBF (left - 1)) k in omega arith))) h

lives_from : (n : ℕ) (u : Utf8State) → 1 ≤ n → n + to_come u ≤ 255 → IsLive u → Lives reference_step reference_ends (state n u)
lives_from n Boundary some room live = ([], lt-ltb 0 n some)
lives_from n (Inside low high left) some room live =
    let r = can_finish low high left live in
    let l : length r.0 ≡ left + 1 = finish_length r.0 (Inside low high left) r.1 in
    let ended : IsTrue (ends_well is_boundary (runs utf8_step (Inside low high left) r.0)) = ap (ends_well is_boundary) (sym (ap (runs utf8_step (Inside low high left)) (append-nil r.0)) ∙ runs-finish r.0 [] (Inside low high left) r.1) in
    (r.0, ap (ends_well reference_ends) (taken r.0 n (Inside low high left) ended (omega arith)) ∙ lt-ltb 0 (n + length r.0) (omega arith))

lives_step : (n : ℕ) (o : Option Utf8State) (t : ReferenceState) → AllLive o → with_room n o ≡ Some t → Lives reference_step reference_ends t
lives_step n None t live e = absurd cc
lives_step n (Some u) t live h =
    cond_both (nat_lt (n + to_come u) 255) (Some (state (n + 1) u)) None (λ (o : Option ReferenceState). o ≡ Some t → Lives reference_step reference_ends t)
    (λ f e. let room : n + to_come u < 255 = ltb-true _ 255 f in let same : state (n + 1) u ≡ t = cc in subst (Lives reference_step reference_ends) same (lives_from (n + 1) u (omega arith) (omega arith) live))
    (λ f e. absurd cc) h

pub reference_lives : (bytes : List ℕ) (s : ReferenceState) → runs reference_step reference_first bytes ≡ Some s → Lives reference_step reference_ends s
reference_lives bytes s e = lives_along reference_step reference_ends (λ r b t f. lives_step r.length (utf8_step r.character b) t (step_live r.character b) f) bytes reference_first s first_lives e
  where
    first_lives : Lives reference_step reference_ends reference_first
    first_lives =
        let e : utf8_step Boundary 97 ≡ Some Boundary = step_at_boundary 97 ∙ lead_ascii 97 (omega arith) in
        (97 ∷ [], ap (λ o. ends_well reference_ends (option_and_then (λ t. runs reference_step t []) (with_room 0 o))) e)
