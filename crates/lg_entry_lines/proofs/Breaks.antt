-- No text of an entry has a newline.
use Rattle.std.proofs.Common.{◌≡◌, ℕ, ◌+◌, ◌/◌, ◌%◌, ◌^◌, ◌<◌, ◌≤◌, Bool, true, false, not, ◌&&◌, nat_lt, List, [], ◌∷◌, ◌++◌, refl, arith}
use Rattle.std.specs.Prelude.{◌==◌, codes, decimal}
use Rattle.std.specs.List.{AllByRecursion, concat, flat_map}
use Rattle.std.proofs.lemmas.Bool.{cond_both, and_parts, not-true, ne_eqb}
use Rattle.lg_base.specs.Texts.{is_plain, hex_digit, escape, escaped, quoted}
use Rattle.lg_containers.specs.CanonicalTexts.{commas, list_text, member_text, members_text}
use Rattle.lg_json.specs.Grammar.{AreDigits}
use Rattle.lg_entry_lines.proofs.Numbers.{decimal_digits}
use Rattle.lg_entry_lines.proofs.Strings.{IsPlain, plain_parts}

-- no byte is a newline
pub record IsUnbroken (bytes : List ℕ) : Type 0 where
  pub each : AllByRecursion (λ b. (b == 10) ≡ false) bytes

other : (b : ℕ) → 10 < b → (b == 10) ≡ false
other b h = ne_eqb b 10 (omega arith)

pub unbroken_nil : IsUnbroken []
unbroken_nil = record { each = tt }

cons : (b : ℕ) (bs : List ℕ) → (b == 10) ≡ false → IsUnbroken bs → IsUnbroken (b ∷ bs)
cons b bs h u = record { each = (h, u.each) }

pub unbroken_append : (xs ys : List ℕ) → IsUnbroken xs → IsUnbroken ys → IsUnbroken (xs ++ ys)
unbroken_append [] ys h k = k
unbroken_append (x ∷ xs) ys h k = cons x (xs ++ ys) h.each.0 (unbroken_append xs ys (record { each = h.each.1 }) k)

unbroken_flat : {X : Type 0} (f : X → List ℕ) → ((x : X) → IsUnbroken (f x)) → (xs : List X) → IsUnbroken (flat_map f xs)
unbroken_flat f h [] = unbroken_nil
unbroken_flat f h (x ∷ xs) = unbroken_append (f x) (flat_map f xs) (h x) (unbroken_flat f h xs)

-- ---- pieces one after another

pub record AreUnbroken (pieces : List (List ℕ)) : Type 0 where
  pub each : AllByRecursion IsUnbroken pieces

pub no_piece : AreUnbroken []
no_piece = record { each = tt }

pub a_piece : {bytes : List ℕ} {pieces : List (List ℕ)} → IsUnbroken bytes → AreUnbroken pieces → AreUnbroken (bytes ∷ pieces)
a_piece h k = record { each = (h, k.each) }

all_pieces : (pieces : List (List ℕ)) → AllByRecursion IsUnbroken pieces → IsUnbroken (concat pieces)
all_pieces [] h = unbroken_nil
all_pieces (x ∷ xs) h = unbroken_append x (concat xs) h.0 (all_pieces xs h.1)

pub unbroken_pieces : (pieces : List (List ℕ)) → AreUnbroken pieces → IsUnbroken (concat pieces)
unbroken_pieces pieces h = all_pieces pieces h.each

-- a text that is written out
abbrev has_no_newline : List ℕ → Bool
has_no_newline [] = true
has_no_newline (b ∷ bs) = not (b == 10) && has_no_newline bs

pub unbroken_literal : {bytes : List ℕ} → has_no_newline bytes ≡ true → IsUnbroken bytes
unbroken_literal {bytes = bytes} h = go bytes h
  where
    go : (bs : List ℕ) → has_no_newline bs ≡ true → IsUnbroken bs
    go [] h = unbroken_nil
    go (b ∷ bs) h = let p = and_parts (not (b == 10)) (has_no_newline bs) h in cons b bs (not-true (b == 10) p.0) (go bs p.1)

-- ---- strings

plain_other : (b : ℕ) → is_plain b ≡ true → (b == 10) ≡ false
plain_other b h = let low = (plain_parts b h).low in other b (omega arith)

pub unbroken_plain : (bs : List ℕ) → AllByRecursion IsPlain bs → IsUnbroken bs
unbroken_plain [] h = unbroken_nil
unbroken_plain (b ∷ bs) h = cons b bs (plain_other b h.0.plain) (unbroken_plain bs h.1)

hex_other : (n : ℕ) → (hex_digit n == 10) ≡ false
hex_other n = cond_both (nat_lt n 10) (48 + n) (87 + n) (λ d. (d == 10) ≡ false) (λ _. other (48 + n) (omega arith)) (λ _. other (87 + n) (omega arith))

unbroken_control : (b : ℕ) → IsUnbroken (codes "\\u00" ++ (hex_digit (b / 16) ∷ hex_digit (b % 16) ∷ []))
unbroken_control b = unbroken_append (codes "\\u00") (hex_digit (b / 16) ∷ hex_digit (b % 16) ∷ []) (unbroken_literal refl) (cons _ _ (hex_other (b / 16)) (cons _ _ (hex_other (b % 16)) unbroken_nil))

unbroken_escape : (b : ℕ) → IsUnbroken (escape b)
unbroken_escape b =
    cond_both (b == 34) _ _ IsUnbroken (λ _. unbroken_literal refl) (λ _.
    cond_both (b == 92) _ _ IsUnbroken (λ _. unbroken_literal refl) (λ _.
    cond_both (b == 8) _ _ IsUnbroken (λ _. unbroken_literal refl) (λ _.
    cond_both (b == 9) _ _ IsUnbroken (λ _. unbroken_literal refl) (λ _.
    cond_both (b == 10) _ _ IsUnbroken (λ _. unbroken_literal refl) (λ _.
    cond_both (b == 12) _ _ IsUnbroken (λ _. unbroken_literal refl) (λ _.
    cond_both (b == 13) _ _ IsUnbroken (λ _. unbroken_literal refl) (λ _. unbroken_control b)))))))

unbroken_escaped : (b : ℕ) → IsUnbroken (escaped b)
unbroken_escaped b = cond_both (is_plain b) (b ∷ []) (escape b) IsUnbroken (λ h. cons b [] (plain_other b h) unbroken_nil) (λ _. unbroken_escape b)

between_quotes : (bytes : List ℕ) → IsUnbroken bytes → IsUnbroken ((34 ∷ []) ++ (bytes ++ (34 ∷ [])))
between_quotes bytes h = cons 34 (bytes ++ (34 ∷ [])) refl (unbroken_append bytes (34 ∷ []) h (unbroken_literal refl))

pub unbroken_quoted : (t : List ℕ) → IsUnbroken (quoted t)
unbroken_quoted t = between_quotes (flat_map escaped t) (unbroken_flat escaped unbroken_escaped t)

pub unbroken_string : (t : List ℕ) → AllByRecursion IsPlain t → IsUnbroken ((34 ∷ []) ++ (t ++ (34 ∷ [])))
unbroken_string t h = between_quotes t (unbroken_plain t h)

-- ---- numbers

unbroken_digits : (ds : List ℕ) → AreDigits ds → IsUnbroken ds
unbroken_digits [] h = unbroken_nil
unbroken_digits (d ∷ ds) h = let low : 48 ≤ d = h.0.0 in cons d ds (other d (omega arith)) (unbroken_digits ds h.1)

pub unbroken_decimal : (n : ℕ) → n < 2 ^ 127 → IsUnbroken (decimal n)
unbroken_decimal n h = unbroken_digits (decimal n) (decimal_digits n h)

-- ---- lists and objects

module _ {X : Type 0} (text : X → List ℕ) (P : X → Type 0) (is : (x : X) → P x → IsUnbroken (text x)) where
  after_commas : (xs : List X) → AllByRecursion P xs → IsUnbroken (flat_map (λ y. codes "," ++ text y) xs)
  after_commas [] h = unbroken_nil
  after_commas (x ∷ xs) h = unbroken_append (codes "," ++ text x) _ (cons 44 (text x) refl (is x h.0)) (after_commas xs h.1)

  unbroken_commas : (xs : List X) → AllByRecursion P xs → IsUnbroken (commas text xs)
  unbroken_commas [] h = unbroken_nil
  unbroken_commas (x ∷ xs) h = unbroken_append (text x) _ (is x h.0) (after_commas xs h.1)

  pub unbroken_list : (xs : List X) → AllByRecursion P xs → IsUnbroken (list_text text xs)
  unbroken_list xs h = cons 91 (commas text xs ++ codes "]") refl (unbroken_append (commas text xs) (codes "]") (unbroken_commas xs h) (unbroken_literal refl))

module _ {V : Type 0} (text : V → List ℕ) (P : List ℕ × V → Type 0) (is : (p : List ℕ × V) → P p → IsUnbroken (text p.1)) where
  unbroken_member : (p : List ℕ × V) → P p → IsUnbroken (member_text text p)
  unbroken_member p h = unbroken_append (quoted p.0) (codes ":" ++ text p.1) (unbroken_quoted p.0) (cons 58 (text p.1) refl (is p h))

  pub unbroken_members : (ps : List (List ℕ × V)) → AllByRecursion P ps → IsUnbroken (members_text text ps)
  unbroken_members ps h = cons 123 (commas (member_text text) ps ++ codes "}") refl (unbroken_append (commas (member_text text) ps) (codes "}") (unbroken_commas (member_text text) P unbroken_member ps h) (unbroken_literal refl))
