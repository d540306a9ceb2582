-- The bytes of a character, and the states that a reading of UTF-8 goes through on them.
use Rattle.std.proofs.Common.{◌≡◌, ◌⊎◌, ℕ, zero, suc, ◌+◌, ◌-◌, ◌*◌, ◌/◌, ◌%◌, ◌<◌, ◌≤◌, true, cond, nat_lt, ◌==◌, ltb, List, [], ◌∷◌, ◌++◌, Option, Some, None, IsSomeAnd, refl, sym, ap, ◌∙◌, inl, inr, arith, ltb-true, ltb-false, eqb-true, append_assoc}
use Rattle.std.proofs.lemmas.Bool.{cond_both, cases_eq, cases_lt, cond-true, cond-false, lt-ltb, le-ltb, eqb-false, ne_eqb}
use Rattle.std.specs.Char.{encode_utf8}
use lib.Utf8.{scalar, scalar_cases, low_scalar}
use Rattle.lg_containers.specs.Utf8.{lead_state, utf8_step, Finishes, BeginsChar}
use Rattle.lg_containers.specs.declared.utf8.Utf8State.{Utf8State}
use Rattle.lg_containers.specs.declared.utf8.Utf8State.TheVariants.{Boundary, Inside}

-- the state after a byte that is in range
abbrev pub inside_next : ℕ → Utf8State
inside_next left = cond (left == 0) Boundary (Inside 0x80 0xBF (left - 1))

pub record InsideByte (low high left x : ℕ) (xs : List ℕ) : Type 0 where
  pub above : low ≤ x
  pub below : x ≤ high
  pub rest : Finishes (inside_next left) xs

inside_of : (low high left x : ℕ) (xs : List ℕ) → Finishes (Inside low high left) (x ∷ xs) → InsideByte low high left x xs
unfolding utf8_step
inside_of low high left x xs =
    cond_both (nat_lt x low) None _ (λ (o : Option Utf8State). IsSomeAnd o (λ next. Finishes next xs) → InsideByte low high left x xs)
    (λ e h. absurd h)
    (λ e1. cond_both (nat_lt high x) None _ (λ (o : Option Utf8State). IsSomeAnd o (λ next. Finishes next xs) → InsideByte low high left x xs)
    (λ e h. absurd h)
    (λ e2. cond_both (left == 0) (Some Boundary) (Some (Inside 0x80 0xBF (left - 1))) (λ (o : Option Utf8State). IsSomeAnd o (λ next. Finishes next xs) → InsideByte low high left x xs)
    (λ e3 h. record { above = ltb-false x low e1; below = ltb-false high x e2; rest = rw e3 h })
    (λ e3 h. record { above = ltb-false x low e1; below = ltb-false high x e2; rest = rw e3 h })))

-- one byte that ends a character
one_left : (low high : ℕ) (more : List ℕ) → Finishes (Inside low high 0) more → (x : ℕ) × (low ≤ x) × (x ≤ high) × (more ≡ x ∷ [])
one_left low high [] h = absurd h
one_left low high (x ∷ xs) h = let p = inside_of low high 0 x xs h in (x, p.above, p.below, ap (λ (l : List ℕ). x ∷ l) p.rest)

two_left : (low high : ℕ) (more : List ℕ) → Finishes (Inside low high 1) more → (x y : ℕ) × (low ≤ x) × (x ≤ high) × (128 ≤ y) × (y ≤ 191) × (more ≡ x ∷ y ∷ [])
two_left low high [] h = absurd h
two_left low high (x ∷ xs) h =
    let p = inside_of low high 1 x xs h in
    let q = one_left 0x80 0xBF xs p.rest in
    (x, q.0, p.above, p.below, q.1, q.2, ap (λ (l : List ℕ). x ∷ l) q.3)

three_left : (low high : ℕ) (more : List ℕ) → Finishes (Inside low high 2) more → (x y z : ℕ) × (low ≤ x) × (x ≤ high) × (128 ≤ y) × (y ≤ 191) × (128 ≤ z) × (z ≤ 191) × (more ≡ x ∷ y ∷ z ∷ [])
three_left low high [] h = absurd h
three_left low high (x ∷ xs) h =
    let p = inside_of low high 2 x xs h in
    let q = two_left 0x80 0xBF xs p.rest in
    (x, q.0, q.1, p.above, p.below, q.2, q.3, q.4, q.5, ap (λ (l : List ℕ). x ∷ l) q.6)

two_bytes : (c b x : ℕ) → 128 ≤ c → c < 2048 → c / 64 + 192 ≡ b → c % 64 + 128 ≡ x → encode_utf8 c ≡ b ∷ x ∷ []
unfolding encode_utf8
two_bytes c b x low high eb ex =
    cond-false (ltb c 128) _ _ (le-ltb c 128 low) ∙ cond-true (ltb c 2048) _ _ (lt-ltb c 2048 high) ∙
    let e1 : 192 + c / 64 ≡ b = omega arith in
    let e2 : 128 + c % 64 ≡ x = omega arith in
    cc

three_bytes : (c b x y : ℕ) → 2048 ≤ c → c < 65536 → c / 4096 + 224 ≡ b → c / 64 % 64 + 128 ≡ x → c % 64 + 128 ≡ y → encode_utf8 c ≡ b ∷ x ∷ y ∷ []
unfolding encode_utf8
three_bytes c b x y low high eb ex ey =
    cond-false (ltb c 128) _ _ (le-ltb c 128 (omega arith)) ∙ cond-false (ltb c 2048) _ _ (le-ltb c 2048 low) ∙ cond-true (ltb c 65536) _ _ (lt-ltb c 65536 high) ∙
    let e1 : 224 + c / 4096 ≡ b = omega arith in
    let e2 : 128 + c / 64 % 64 ≡ x = omega arith in
    let e3 : 128 + c % 64 ≡ y = omega arith in
    cc

four_bytes : (c b x y z : ℕ) → 65536 ≤ c → c / 262144 + 240 ≡ b → c / 4096 % 64 + 128 ≡ x → c / 64 % 64 + 128 ≡ y → c % 64 + 128 ≡ z → encode_utf8 c ≡ b ∷ x ∷ y ∷ z ∷ []
unfolding encode_utf8
four_bytes c b x y z low eb ex ey ez =
    cond-false (ltb c 128) _ _ (le-ltb c 128 (omega arith)) ∙ cond-false (ltb c 2048) _ _ (le-ltb c 2048 (omega arith)) ∙ cond-false (ltb c 65536) _ _ (le-ltb c 65536 low) ∙
    let e1 : 240 + c / 262144 ≡ b = omega arith in
    let e2 : 128 + c / 4096 % 64 ≡ x = omega arith in
    let e3 : 128 + c / 64 % 64 ≡ y = omega arith in
    let e4 : 128 + c % 64 ≡ z = omega arith in
    cc

high_scalar : (c : ℕ) → 57344 ≤ c → c < 1114112 → scalar c ≡ true
high_scalar c low high = search (arith, le-ltb, lt-ltb)

-- what a first byte asks for is met by the characters that it begins
abbrev pub LeadGives : ℕ → Option Utf8State → Type 0
LeadGives b None = Unit {0}
LeadGives b (Some Boundary) = b < 128
LeadGives b (Some (Inside low high left)) = BeginsChar (b ∷ []) (Inside low high left)

lead_two : (b : ℕ) → 194 ≤ b → b < 224 → BeginsChar (b ∷ []) (Inside 0x80 0xBF 0)
lead_two b low high more h =
    let q = one_left 0x80 0xBF more h in
    let x = q.0 in
    let x_low : 128 ≤ x = q.1 in
    let x_high : x ≤ 191 = q.2 in
    let c = (b - 192) * 64 + (x - 128) in (
      c,
      low_scalar c (omega arith),
      omega arith,
      ap (λ (l : List ℕ). b ∷ l) q.3 ∙ sym (two_bytes c b x (omega arith) (omega arith) (omega arith) (omega arith)),
    )

lead_three : (b low high : ℕ) → 224 ≤ b → b < 240 → 128 ≤ low → high ≤ 191 → (b ≡ 224 → 160 ≤ low) → ((b < 237) ⊎ ((237 < b) ⊎ ((b ≡ 237) × (high ≤ 159)))) → BeginsChar (b ∷ []) (Inside low high 1)
lead_three b low high b_low b_high l_low h_high first last more h =
    let q = two_left low high more h in
    let x = q.0 in
    let y = q.1 in
    let x_low : low ≤ x = q.2 in
    let x_high : x ≤ high = q.3 in
    let y_low : 128 ≤ y = q.4 in
    let y_high : y ≤ 191 = q.5 in
    let c = (b - 224) * 4096 + ((x - 128) * 64 + (y - 128)) in
    let above : 2048 ≤ c = elim (cases_eq b 224) [ inl e ↦ (let f : 160 ≤ low = first e in omega arith) | inr e ↦ omega arith ] in (
      c,
      elim last [ inl e ↦ low_scalar c (omega arith) | inr e ↦ elim e [ inl e2 ↦ high_scalar c (omega arith) (omega arith) | inr e2 ↦ (let e3 : b ≡ 237 = e2.0 in let e4 : high ≤ 159 = e2.1 in low_scalar c (omega arith)) ] ],
      omega arith,
      ap (λ (l : List ℕ). b ∷ l) q.6 ∙ sym (three_bytes c b x y above (omega arith) (omega arith) (omega arith) (omega arith)),
    )

lead_four : (b low high : ℕ) → 240 ≤ b → b ≤ 244 → 128 ≤ low → high ≤ 191 → (b ≡ 240 → 144 ≤ low) → (b ≡ 244 → high ≤ 143) → BeginsChar (b ∷ []) (Inside low high 2)
lead_four b low high b_low b_high l_low h_high first last more h =
    let q = three_left low high more h in
    let x = q.0 in
    let y = q.1 in
    let z = q.2 in
    let x_low : low ≤ x = q.3 in
    let x_high : x ≤ high = q.4 in
    let y_low : 128 ≤ y = q.5 in
    let y_high : y ≤ 191 = q.6 in
    let z_low : 128 ≤ z = q.7 in
    let z_high : z ≤ 191 = q.8 in
    let c = (b - 240) * 262144 + ((x - 128) * 4096 + ((y - 128) * 64 + (z - 128))) in
    let above : 65536 ≤ c = elim (cases_eq b 240) [ inl e ↦ (let f : 144 ≤ low = first e in omega arith) | inr e ↦ omega arith ] in
    let below : c < 1114112 = elim (cases_eq b 244) [ inl e ↦ (let f : high ≤ 143 = last e in omega arith) | inr e ↦ omega arith ] in (
      c,
      high_scalar c (omega arith) below,
      omega arith,
      ap (λ (l : List ℕ). b ∷ l) q.9 ∙ sym (four_bytes c b x y z above (omega arith) (omega arith) (omega arith) (omega arith)),
    )

pub lead_begins : (b : ℕ) → LeadGives b (lead_state b)
unfolding lead_state
lead_begins b =
    cond_both (nat_lt b 0x80) _ _ (LeadGives b) (λ e. ltb-true b 128 e)
    (λ e80. cond_both (nat_lt b 0xC2) _ _ (LeadGives b) (λ e. tt)
    (λ eC2. cond_both (nat_lt b 0xE0) _ _ (LeadGives b) (λ e. lead_two b (ltb-false _ _ eC2) (ltb-true _ _ e))
    (λ eE0. let low : 224 ≤ b = ltb-false _ _ eE0 in
    cond_both (b == 0xE0) _ _ (LeadGives b) (λ e. let same : b ≡ 224 = eqb-true _ _ e in lead_three b 160 191 (omega arith) (omega arith) (omega arith) (omega arith) (λ _. omega arith) (inl (omega arith)))
    (λ neE0. let other : b ≡ 224 → ⊥ = eqb-false _ _ neE0 in
    cond_both (b == 0xED) _ _ (LeadGives b) (λ e. let same : b ≡ 237 = eqb-true _ _ e in lead_three b 128 159 (omega arith) (omega arith) (omega arith) (omega arith) (λ w. omega arith) (inr (inr (same, omega arith))))
    (λ neED. let other2 : b ≡ 237 → ⊥ = eqb-false _ _ neED in
    cond_both (nat_lt b 0xF0) _ _ (LeadGives b)
    (λ e. let below : b < 240 = ltb-true _ _ e in lead_three b 128 191 low below (omega arith) (omega arith) (λ w. absurd (other w))
    (elim (cases_lt b 237) [ inl k ↦ inl k | inr k ↦ inr (inl (omega arith)) ]))
    (λ eF0. let low2 : 240 ≤ b = ltb-false _ _ eF0 in
    cond_both (b == 0xF0) _ _ (LeadGives b) (λ e. let same : b ≡ 240 = eqb-true _ _ e in lead_four b 144 191 (omega arith) (omega arith) (omega arith) (omega arith) (λ _. omega arith) (λ w. omega arith))
    (λ neF0. let other3 : b ≡ 240 → ⊥ = eqb-false _ _ neF0 in
    cond_both (nat_lt b 0xF4) _ _ (LeadGives b)
    (λ e. let below : b < 244 = ltb-true _ _ e in lead_four b 128 191 low2 (omega arith) (omega arith) (omega arith) (λ w. absurd (other3 w)) (λ w. omega arith))
    (λ eF4. cond_both (b == 0xF4) _ _ (LeadGives b)
    (λ e. let same : b ≡ 244 = eqb-true _ _ e in lead_four b 128 143 (omega arith) (omega arith) (omega arith) (omega arith) (λ w. omega arith) (λ _. omega arith))
    (λ e. tt)))))))))

-- one more byte of a character: it goes on, or is whole
abbrev pub StepGives : List ℕ → Option Utf8State → Type 0
StepGives part None = Unit {0}
StepGives part (Some state) = BeginsChar part state

pub step_begins : (part : List ℕ) (low high left b : ℕ) → BeginsChar part (Inside low high left) → StepGives (part ++ b ∷ []) (utf8_step (Inside low high left) b)
step_begins part low high left b begins = go (utf8_step (Inside low high left) b) refl
  where
    go : (o : Option Utf8State) → utf8_step (Inside low high left) b ≡ o → StepGives (part ++ b ∷ []) o
    go None e = tt
    go (Some state) e = λ more h.
        let r = begins (b ∷ more) (rw e h) in
        (r.0, r.1, r.2, append_assoc part (b ∷ []) more ∙ r.3)

-- the bytes of a character from 128 on: its first one, and a state that the others finish
pub record LeadOf (c : ℕ) : Type 0 where
  pub first : ℕ
  pub low : ℕ
  pub high : ℕ
  pub left : ℕ
  pub others : List ℕ
  pub state : lead_state first ≡ Some (Inside low high left)
  pub finishes : Finishes (Inside low high left) others
  pub bytes : encode_utf8 c ≡ first ∷ others
  pub above : 128 ≤ first

step_in : (low high left x : ℕ) → low ≤ x → x ≤ high → utf8_step (Inside low high left) x ≡ Some (inside_next left)
unfolding utf8_step
step_in low high left x above below =
    cond-false (nat_lt x low) _ _ (le-ltb x low above) ∙ cond-false (nat_lt high x) _ _ (le-ltb high x below) ∙
    cond_both (left == 0) (Some Boundary) (Some (Inside 0x80 0xBF (left - 1))) (λ o. o ≡ Some (inside_next left)) (λ e. rw e refl) (λ e. rw e refl)

finishes_cons : (low high left x : ℕ) (xs : List ℕ) → low ≤ x → x ≤ high → Finishes (inside_next left) xs → Finishes (Inside low high left) (x ∷ xs)
finishes_cons low high left x xs above below rest = rw (step_in low high left x above below) rest

state_two : (b : ℕ) → 194 ≤ b → b < 224 → lead_state b ≡ Some (Inside 0x80 0xBF 0)
unfolding lead_state
state_two b low high =
    cond-false (nat_lt b 0x80) _ _ (le-ltb b 128 (omega arith)) ∙ cond-false (nat_lt b 0xC2) _ _ (le-ltb b 194 low) ∙ cond-true (nat_lt b 0xE0) _ _ (lt-ltb b 224 high)

-- the range of the second byte of three, and of four
abbrev low_of_three : ℕ → ℕ
low_of_three b = cond (b == 0xE0) 0xA0 0x80

abbrev high_of_three : ℕ → ℕ
high_of_three b = cond (b == 0xED) 0x9F 0xBF

state_three : (b : ℕ) → 224 ≤ b → b < 240 → lead_state b ≡ Some (Inside (low_of_three b) (high_of_three b) 1)
unfolding lead_state
state_three b low high =
    cond-false (nat_lt b 0x80) _ _ (le-ltb b 128 (omega arith)) ∙ cond-false (nat_lt b 0xC2) _ _ (le-ltb b 194 (omega arith)) ∙ cond-false (nat_lt b 0xE0) _ _ (le-ltb b 224 low) ∙
    cond_both (b == 0xE0) _ _ (λ o. o ≡ Some (Inside (low_of_three b) (high_of_three b) 1))
    (λ e. let same : b ≡ 224 = eqb-true _ _ e in rw same refl)
    (λ e. cond_both (b == 0xED) _ _ (λ o. o ≡ Some (Inside (low_of_three b) (high_of_three b) 1))
    (λ f. let same : b ≡ 237 = eqb-true _ _ f in rw same refl)
    (λ f. cond-true (nat_lt b 0xF0) _ _ (lt-ltb b 240 high) ∙ rw (e, f) refl))

abbrev low_of_four : ℕ → ℕ
low_of_four b = cond (b == 0xF0) 0x90 0x80

abbrev high_of_four : ℕ → ℕ
high_of_four b = cond (b == 0xF4) 0x8F 0xBF

state_four : (b : ℕ) → 240 ≤ b → b ≤ 244 → lead_state b ≡ Some (Inside (low_of_four b) (high_of_four b) 2)
unfolding lead_state
state_four b low high =
    let ne1 : b ≡ 224 → ⊥ = omega arith in
    let ne2 : b ≡ 237 → ⊥ = omega arith in
    cond-false (nat_lt b 0x80) _ _ (le-ltb b 128 (omega arith)) ∙ cond-false (nat_lt b 0xC2) _ _ (le-ltb b 194 (omega arith)) ∙ cond-false (nat_lt b 0xE0) _ _ (le-ltb b 224 (omega arith)) ∙
    cond-false (b == 0xE0) _ _ (ne_eqb b 224 ne1) ∙ cond-false (b == 0xED) _ _ (ne_eqb b 237 ne2) ∙ cond-false (nat_lt b 0xF0) _ _ (le-ltb b 240 low) ∙
    cond_both (b == 0xF0) _ _ (λ o. o ≡ Some (Inside (low_of_four b) (high_of_four b) 2))
    (λ e. let same : b ≡ 240 = eqb-true _ _ e in rw same refl)
    (λ e. cond_both (nat_lt b 0xF4) _ _ (λ o. o ≡ Some (Inside (low_of_four b) (high_of_four b) 2))
    (λ f. let below : b < 244 = ltb-true b 244 f in let ne : b ≡ 244 → ⊥ = omega arith in rw (e, ne_eqb b 244 ne) refl)
    (λ f. let above : 244 ≤ b = ltb-false b 244 f in let same : b ≡ 244 = omega arith in rw same refl))

lead_of_two : (c : ℕ) → 128 ≤ c → c < 2048 → LeadOf c
lead_of_two c low high =
    let b : ℕ = 192 + c / 64 in
    let x : ℕ = 128 + c % 64 in
    record {
      first = b;
      low = 0x80;
      high = 0xBF;
      left = 0;
      others = x ∷ [];
      state = state_two b (omega arith) (omega arith);
      finishes = finishes_cons 0x80 0xBF 0 x [] (omega arith) (omega arith) refl;
      bytes = two_bytes c b x low high (omega arith) (omega arith);
      above = omega arith;
    }

second_of_three : (c : ℕ) → 2048 ≤ c → c < 65536 → scalar c ≡ true → (low_of_three (224 + c / 4096) ≤ 128 + c / 64 % 64) × (128 + c / 64 % 64 ≤ high_of_three (224 + c / 4096))
second_of_three c low high ok = (
  cond_both ((224 + c / 4096) == 0xE0) 0xA0 0x80 (λ l. l ≤ 128 + c / 64 % 64) (λ e. let same : 224 + c / 4096 ≡ 224 = eqb-true _ _ e in omega arith) (λ e. omega arith),
  cond_both ((224 + c / 4096) == 0xED) 0x9F 0xBF (λ h. 128 + c / 64 % 64 ≤ h)
      (λ e. let same : 224 + c / 4096 ≡ 237 = eqb-true _ _ e in elim (scalar_cases c ok) [ inl k ↦ omega arith | inr k ↦ (let k0 : 57344 ≤ c = k.0 in omega arith) ])
      (λ e. omega arith),
)

lead_of_three : (c : ℕ) → 2048 ≤ c → c < 65536 → scalar c ≡ true → LeadOf c
lead_of_three c low high ok =
    let b : ℕ = 224 + c / 4096 in
    let x : ℕ = 128 + c / 64 % 64 in
    let y : ℕ = 128 + c % 64 in
    let second = second_of_three c low high ok in
    record {
      first = b;
      low = low_of_three b;
      high = high_of_three b;
      left = 1;
      others = x ∷ y ∷ [];
      state = state_three b (omega arith) (omega arith);
      finishes = finishes_cons (low_of_three b) (high_of_three b) 1 x (y ∷ []) second.0 second.1 (finishes_cons 0x80 0xBF 0 y [] (omega arith) (omega arith) refl);
      bytes = three_bytes c b x y low high (omega arith) (omega arith) (omega arith);
      above = omega arith;
    }

second_of_four : (c : ℕ) → 65536 ≤ c → c < 1114112 → (low_of_four (240 + c / 262144) ≤ 128 + c / 4096 % 64) × (128 + c / 4096 % 64 ≤ high_of_four (240 + c / 262144))
second_of_four c low high = (
  cond_both ((240 + c / 262144) == 0xF0) 0x90 0x80 (λ l. l ≤ 128 + c / 4096 % 64) (λ e. let same : 240 + c / 262144 ≡ 240 = eqb-true _ _ e in omega arith) (λ e. omega arith),
  cond_both ((240 + c / 262144) == 0xF4) 0x8F 0xBF (λ h. 128 + c / 4096 % 64 ≤ h) (λ e. let same : 240 + c / 262144 ≡ 244 = eqb-true _ _ e in omega arith) (λ e. omega arith),
)

lead_of_four : (c : ℕ) → 65536 ≤ c → c < 1114112 → LeadOf c
lead_of_four c low high =
    let b : ℕ = 240 + c / 262144 in
    let x : ℕ = 128 + c / 4096 % 64 in
    let y : ℕ = 128 + c / 64 % 64 in
    let z : ℕ = 128 + c % 64 in
    let second = second_of_four c low high in
    record {
      first = b;
      low = low_of_four b;
      high = high_of_four b;
      left = 2;
      others = x ∷ y ∷ z ∷ [];
      state = state_four b (omega arith) (omega arith);
      finishes = finishes_cons (low_of_four b) (high_of_four b) 2 x (y ∷ z ∷ []) second.0 second.1 (finishes_cons 0x80 0xBF 1 y (z ∷ []) (omega arith) (omega arith) (finishes_cons 0x80 0xBF 0 z [] (omega arith) (omega arith) refl));
      bytes = four_bytes c b x y z low (omega arith) (omega arith) (omega arith) (omega arith);
      above = omega arith;
    }

pub scalar_below : (c : ℕ) → scalar c ≡ true → c < 1114112
scalar_below c ok = elim (scalar_cases c ok) [ inl k ↦ omega arith | inr k ↦ k.1 ]

pub lead_of : (c : ℕ) → scalar c ≡ true → 128 ≤ c → LeadOf c
lead_of c ok above = elim (cases_lt c 2048) [
  | inl k ↦ lead_of_two c above k
  | inr k ↦ elim (cases_lt c 65536) [ inl l ↦ lead_of_three c k l ok | inr l ↦ lead_of_four c l (scalar_below c ok) ]
]

-- every character can be finished
pub some_end : (left : ℕ) → (more : List ℕ) × Finishes (inside_next left) more
some_end zero = ([], refl)
some_end (suc left) =
    let r = some_end left in
    let e : suc left - 1 ≡ left = omega arith in
    let ne : suc left ≡ 0 → ⊥ = omega arith in
    (128 ∷ r.0, rw (e, ne_eqb (suc left) 0 ne) (finishes_cons 0x80 0xBF left 128 r.0 (omega arith) (omega arith) r.1))

pub can_finish : (low high left : ℕ) → low ≤ high → (more : List ℕ) × Finishes (Inside low high left) more
can_finish low high left ordered = let r = some_end left in (low ∷ r.0, finishes_cons low high left low r.0 (omega arith) ordered r.1)

-- an ASCII byte is a character
pub lead_ascii : (b : ℕ) → b < 128 → lead_state b ≡ Some Boundary
unfolding lead_state
lead_ascii b low = cond-true (nat_lt b 0x80) _ _ (lt-ltb b 128 low)
