-- The machine that reads an address, and why it accepts what the grammar does.
use Rattle.std.specs.Prelude.{◌≡◌, ℕ, suc, ◌+◌, ◌≤◌, ◌<◌, Bool, true, false, not, ◌&&◌, ◌||◌, List, [], ◌∷◌, length, IsTrue, ◌↔◌, nat_lt, nat_le, cond, if◌then◌else◌}
use Rattle.std.proofs.Common.{Option, Some, None, option_and_then, refl, sym, ap, ◌∙◌, arith, ltb-true, ltb-false, leb-true, leb-false, lt-ltb, subst}
use Rattle.std.proofs.lemmas.Bool.Decides.{nat_tests}
use Rattle.std.specs.List.{list_all, slice_split, onto_first}
use Rattle.lg_containers.specs.Bytes.{is_word_byte}
use Rattle.lg_containers.specs.Grammar.{runs, ends_well, Accepts, Lives}
use Rattle.lg_containers.specs.GrammarLaws.{same_test, and_assoc, and_true, and_false, lives_along}
use Rattle.lg_containers.specs.AddressGrammar.{is_colon, is_segment, is_address, IsAddress}
use Rattle.lg_containers.specs.declared.address.AddressState.{AddressState}

abbrev pub address_first : AddressState
address_first = record { length = 0; fresh = true }

abbrev pub address_step : AddressState → ℕ → Option AddressState
address_step s b =
    if is_colon b
    then (if s.fresh || nat_le 254 s.length then None else Some (record { length = s.length + 1; fresh = true }))
    else (if is_word_byte b && nat_lt s.length 255 then Some (record { length = s.length + 1; fresh = false }) else None)

abbrev pub address_ends : AddressState → Bool
address_ends s = not s.fresh

-- what may follow at the start of a segment, and within one
abbrev follows : Bool → List ℕ → Bool
follows fresh [] = not fresh
follows fresh (b ∷ bs) = cond (is_colon b) (not fresh && follows true bs) (is_word_byte b && follows false bs)

-- the parts as what follows: the first may go on from bytes before it
abbrev parts_follow : Bool → List (List ℕ) → Bool
parts_follow true parts = list_all is_segment parts
parts_follow false [] = true
parts_follow false (part ∷ parts) = list_all is_word_byte part && list_all is_segment parts

onto-follow : (fresh : Bool) (b : ℕ) (parts : List (List ℕ)) → (is_word_byte b && parts_follow false parts) ≡ parts_follow fresh (onto_first b parts)
onto-follow true b [] = sym (and_true (is_word_byte b && true))
onto-follow true b (part ∷ parts) = and_assoc (is_word_byte b) (list_all is_word_byte part) (list_all is_segment parts)
onto-follow false b [] = sym (and_true (is_word_byte b && true))
onto-follow false b (part ∷ parts) = and_assoc (is_word_byte b) (list_all is_word_byte part) (list_all is_segment parts)

colon-follow : (fresh : Bool) (parts : List (List ℕ)) → (not fresh && parts_follow true parts) ≡ parts_follow fresh ([] ∷ parts)
colon-follow true parts = refl
colon-follow false parts = refl

follows-split : (fresh : Bool) (bytes : List ℕ) → follows fresh bytes ≡ parts_follow fresh (slice_split is_colon bytes)
follows-split true [] = refl
follows-split false [] = refl
follows-split fresh (b ∷ bs) =
    elim (is_colon b) as (λ t. cond t (not fresh && follows true bs) (is_word_byte b && follows false bs) ≡ parts_follow fresh (cond t ([] ∷ slice_split is_colon bs) (onto_first b (slice_split is_colon bs)))) [
      | true ↦ ap (λ x. not fresh && x) (follows-split true bs) ∙ colon-follow fresh (slice_split is_colon bs)
      | false ↦ ap (λ x. is_word_byte b && x) (follows-split false bs) ∙ onto-follow fresh b (slice_split is_colon bs)
    ]

within_one : (n m : ℕ) → nat_le ((n + 1) + m) 255 ≡ nat_le (n + suc m) 255
within_one n m = ap (λ k. nat_le k 255) (omega arith)

too_long : (n m : ℕ) → 255 ≤ n → nat_le (n + suc m) 255 ≡ false
too_long n m h = grind (arith, nat_tests)

fits : (n : ℕ) → n ≤ 255 → nat_le (n + 0) 255 ≡ true
fits n h = grind (arith, nat_tests)

full : (n m : ℕ) → 254 ≤ n → (nat_le (n + suc (suc m)) 255) ≡ false
full n m h = grind (arith, nat_tests)

-- after a colon with no room for one more byte, nothing makes an address
ends_at_colon : (n : ℕ) (bs : List ℕ) → 254 ≤ n → false ≡ (nat_le (n + suc (length bs)) 255 && follows true bs)
ends_at_colon n [] h = sym (and_false _)
ends_at_colon n (b ∷ bs) h = ap (λ t. t && follows true (b ∷ bs)) (sym (full n (length bs) h))

abbrev ended : AddressState → List ℕ → Bool
ended s bytes = ends_well address_ends (runs address_step s bytes)

abbrev state : ℕ → Bool → AddressState
state n fresh = record { length = n; fresh = fresh }

abbrev after : Option AddressState → List ℕ → Bool
after o bytes = ends_well address_ends (option_and_then (λ t. runs address_step t bytes) o)

abbrev Reads : ℕ → Bool → List ℕ → Type 0
Reads n fresh bytes = ended (state n fresh) bytes ≡ (nat_le (n + length bytes) 255 && follows fresh bytes)

at_word : (n : ℕ) (b : ℕ) (bs : List ℕ) → (n < 255 → Reads (n + 1) false bs)
    → after (cond (is_word_byte b && nat_lt n 255) (Some (state (n + 1) false)) None) bs ≡ (nat_le (n + suc (length bs)) 255 && (is_word_byte b && follows false bs))
at_word n b bs ih =
    elim (is_word_byte b) as (λ w. after (cond (w && nat_lt n 255) (Some (state (n + 1) false)) None) bs ≡ (nat_le (n + suc (length bs)) 255 && (w && follows false bs))) [
      | true ↦ elim (nat_lt n 255) as (λ t. nat_lt n 255 ≡ t → after (cond t (Some (state (n + 1) false)) None) bs ≡ (nat_le (n + suc (length bs)) 255 && follows false bs)) [
        | true ↦ λ e. ih (ltb-true n 255 e) ∙ ap (λ t. t && follows false bs) (within_one n (length bs))
        | false ↦ λ e. ap (λ t. t && follows false bs) (sym (too_long n (length bs) (ltb-false n 255 e)))
      ] refl
      | false ↦ sym (and_false (nat_le (n + suc (length bs)) 255))
    ]

at_colon : (n : ℕ) (fresh : Bool) (bs : List ℕ) → (n < 254 → Reads (n + 1) true bs)
    → after (cond (fresh || nat_le 254 n) None (Some (state (n + 1) true))) bs ≡ (nat_le (n + suc (length bs)) 255 && (not fresh && follows true bs))
at_colon n true bs ih = sym (and_false (nat_le (n + suc (length bs)) 255))
at_colon n false bs ih =
    elim (nat_le 254 n) as (λ t. nat_le 254 n ≡ t → after (cond t None (Some (state (n + 1) true))) bs ≡ (nat_le (n + suc (length bs)) 255 && follows true bs)) [
      | true ↦ λ e. ends_at_colon n bs (leb-true 254 n e)
      | false ↦ λ e. ih (leb-false 254 n e) ∙ ap (λ t. t && follows true bs) (within_one n (length bs))
    ] refl

reads : (n : ℕ) (fresh : Bool) (bytes : List ℕ) → n ≤ 255 → Reads n fresh bytes
reads n fresh [] h = ap (λ t. t && not fresh) (sym (fits n h))
reads n fresh (b ∷ bs) h =
    elim (is_colon b) as (λ t. after (cond t (cond (fresh || nat_le 254 n) None (Some (state (n + 1) true))) (cond (is_word_byte b && nat_lt n 255) (Some (state (n + 1) false)) None)) bs ≡ (nat_le (n + suc (length bs)) 255 && cond t (not fresh && follows true bs) (is_word_byte b && follows false bs))) [
      | true ↦ at_colon n fresh bs (λ k. reads (n + 1) true bs (omega arith))
      | false ↦ at_word n b bs (λ k. reads (n + 1) false bs (omega arith))
    ]

without_zero : (n : ℕ) → nat_le (0 + n) 255 ≡ nat_le n 255
without_zero n = ap (λ k. nat_le k 255) (omega arith)

pub address_accepts : (bytes : List ℕ) → IsAddress bytes ↔ Accepts address_step address_ends address_first bytes
address_accepts bytes =
    same_test (ended address_first bytes) (is_address bytes)
    (reads 0 true bytes (omega arith) ∙ ap (λ t. t && follows true bytes) (without_zero (length bytes)) ∙ ap (λ t. nat_le (length bytes) 255 && t) (follows-split true bytes))

-- one more letter ends a segment well, and a finished one needs nothing
lives_at : (n : ℕ) (fresh : Bool) → (IsTrue fresh → n < 255) → Lives address_step address_ends (state n fresh)
lives_at n false room = ([], refl)
lives_at n true room = (97 ∷ [], ap (λ t. after (cond t (Some (state (n + 1) false)) None) []) (lt-ltb n 255 (room refl)))

lives_each : (s : AddressState) (b : ℕ) (t : AddressState) → address_step s b ≡ Some t → Lives address_step address_ends t
lives_each s b t e =
    elim (is_colon b) as (λ c. cond c (cond (s.fresh || nat_le 254 s.length) None (Some (state (s.length + 1) true))) (cond (is_word_byte b && nat_lt s.length 255) (Some (state (s.length + 1) false)) None) ≡ Some t → Lives address_step address_ends t) [
      | true ↦ elim (s.fresh || nat_le 254 s.length) as (λ c. (s.fresh || nat_le 254 s.length) ≡ c → cond c None (Some (state (s.length + 1) true)) ≡ Some t → Lives address_step address_ends t) [
        | true ↦ λ p q. absurd cc
        | false ↦ λ p q. let same : state (s.length + 1) true ≡ t = cc in
            subst (Lives address_step address_ends) same (lives_at (s.length + 1) true (λ _. room s.fresh s.length p))
      ] refl
      | false ↦ elim (is_word_byte b && nat_lt s.length 255) as (λ c. cond c (Some (state (s.length + 1) false)) None ≡ Some t → Lives address_step address_ends t) [
        | true ↦ λ q. let same : state (s.length + 1) false ≡ t = cc in
            subst (Lives address_step address_ends) same (lives_at (s.length + 1) false (λ f. absurd cc))
        | false ↦ λ q. absurd cc
      ]
    ] e
  where
    room : (f : Bool) (n : ℕ) → (f || nat_le 254 n) ≡ false → n + 1 < 255
    room true n p = absurd cc
    room false n p = let k : n < 254 = leb-false 254 n p in omega arith

pub address_lives : (bytes : List ℕ) (s : AddressState) → runs address_step address_first bytes ≡ Some s → Lives address_step address_ends s
address_lives bytes s e = lives_along address_step address_ends lives_each bytes address_first s (97 ∷ [], refl) e
