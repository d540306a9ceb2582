-- Where the bytes have a first fault, the reading gives it.
use Rattle.std.proofs.Common.{◌≡◌, ℕ, suc, ◌+◌, ◌-◌, ◌≤◌, Bool, true, false, nat_lt, ◌==◌, List, [], ◌∷◌, ◌++◌, length, take, Result, Ok, Err, IfOk, IfErr, ℤ, inl, inr, refl, sym, ap, ◌∙◌, subst, arith, append_assoc, eqb-true}
use Rattle.std.proofs.lemmas.Bool.{cond-true, cond-false, cases_lt, false_from_ne_true, true_from_ne_false, le-ltb, or_cases}
use Rattle.std.proofs.lemmas.List.{length-append, take_at}
use Rattle.lg_json.specs.Tree.{Tree, Entry}
use Rattle.lg_json.specs.Tree.Tree.{whole, part, list, members}
use Rattle.lg_json.specs.Tree.Trees.{none}
use Rattle.lg_json.specs.Tree.Members.{no_member}
use Rattle.lg_json.specs.Grammar.{IsWhole, number_from, signed, minus_if, IsPart, IsJson, InRange}
use Rattle.lg_json.specs.Reading.{Frame, at, capped, fits, begins_part, has_name, and_then, reads, reading}
use Rattle.lg_json.specs.Reading.Frame.{in_object, named}
use Rattle.lg_json.specs.Reading.Mode.{before_colon}
use Rattle.lg_json.specs.Before.{BeforeName, BeforeValue}
use Rattle.lg_json.specs.Fault.{Begins, BeginsFitting, IsLongestFront, Before, IsSyntax, IsNotWhole, IsTooWide, IsTooDeep, IsRepeated, IsFault}
use Rattle.lg_json.specs.declared.json.JsonFault.{JsonFault}
use Rattle.lg_json.specs.declared.json.JsonFault.TheVariants.{Syntax, NotWhole, TooWide, TooDeep, Repeated, NoMemory}
use Rattle.lg_json.specs.Tokens.{begins}
use Rattle.lg_json.proofs.Reaches.{number_goes}
use Rattle.lg_json.proofs.Names.{new_of_not}
use Rattle.lg_json.proofs.Goes.{starts_word, head_of, fits_uncapped, quoted_reads, begin_list, begin_object}
use Rattle.lg_json.proofs.Sound.{reading_sound}
use Rattle.lg_json.proofs.Fit.{fits_in_range}
use Rattle.lg_json.proofs.Whole.{json_value}
use Rattle.lg_json.proofs.Completing.{begins_prefix, begins_as, value_begins}
use Rattle.lg_json.proofs.Fitting.{name_begins}
use Rattle.lg_json.proofs.Faults.{take_past, reading_faults}
use Rattle.lg_json.proofs.Fronts.{Leads, opening, name_opening, opening_ready, name_opening_ready, value_comes, next_name_comes}
use Rattle.lg_json.proofs.Fronts.Leads.{leads, faults}

-- a text that fits follows the same bytes, so no fault has come
no_fault : (front : List ℕ) (y : List ℕ → Result Tree JsonFault) → BeginsFitting front → Leads (λ rest. reading (front ++ rest)) y → (rest : List ℕ) → reading (front ++ rest) ≡ y rest
no_fault front y f (leads g) = g
no_fault front y f (faults k other g) = λ rest. let e : Err k ≡ Ok f.1 = sym (g f.0) ∙ json_value f.1 (front ++ f.0) f.3 f.2 in absurd cc

reaches : (fs : List Frame) (front : List ℕ) → BeforeValue fs front → BeginsFitting front → (rest : List ℕ) → reading (front ++ rest) ≡ reads (length front) (at fs (opening fs)) rest
reaches fs front b f = no_fault front _ f (value_comes fs front b)

name_reaches : (fs : List Frame) (ms : List Entry) (front : List ℕ) → BeforeName (BeforeValue fs) ms front → BeginsFitting front → (rest : List ℕ) → reading (front ++ rest) ≡ reads (length front) (at (in_object ms ∷ fs) (name_opening ms)) rest
name_reaches fs ms front b f = no_fault front _ f (next_name_comes fs ms front b)

number_begins : (fs : List Frame) (p : ℕ) (outer number : List ℕ) (n : ℤ) → Before fs p outer → IsWhole n number → (rest : List ℕ) → reading (outer ++ (number ++ rest)) ≡ begins p fs (number ++ rest)
number_begins fs p outer number n b w rest =
    reaches fs outer b.stands b.fitting (number ++ rest) ∙ starts_word fs (opening fs) number rest (length outer) (opening_ready fs) (head_of (whole n) number w) ∙ ap (λ i. begins i fs (number ++ rest)) (sym b.place)

pub each_not_whole : (bytes : List ℕ) (p : ℕ) → IsNotWhole bytes p → reading bytes ≡ Err (NotWhole p)
each_not_whole bytes p h =
    let w = h.7 in
    let number = number_goes p (p + length (minus_if w.negative ++ w.digits)) h.0 w.negative w.digits w.is_int refl in
    ap reading h.9 ∙ number_begins h.0 p h.1 h.2 h.4 h.6 w (h.5 ∷ h.3) ∙ ap (λ (l : List ℕ). begins p h.0 (l ++ h.5 ∷ h.3)) w.parts ∙ number.has_part h.5 h.3 h.8

is_wide : (negative : Bool) (v : ℕ) (n : ℤ) → n ≡ signed negative v → (InRange n → ⊥) → fits negative (capped v) ≡ false
is_wide negative v n e out = false_from_ne_true (fits negative (capped v)) (λ ok. out (subst InRange (ap (signed negative) (fits_uncapped negative v ok) ∙ sym e) (fits_in_range negative (capped v) ok)))

pub each_too_wide : (bytes : List ℕ) (p : ℕ) → IsTooWide bytes p → reading bytes ≡ Err (TooWide p)
each_too_wide bytes p h =
    let w = h.6 in
    let number = number_goes p (p + length (minus_if w.negative ++ w.digits)) h.0 w.negative w.digits w.is_int refl in
    ap reading h.9 ∙ number_begins h.0 p h.1 h.2 h.4 h.5 w h.3 ∙ ap (λ (l : List ℕ). begins p h.0 (l ++ h.3)) w.parts ∙ number.wide h.3 h.8 (is_wide w.negative (number_from 0 w.digits) h.4 w.value h.7)

-- whatever follows a number that is out of range, there is no value
never_wide : (fs : List Frame) (p : ℕ) (outer number : List ℕ) (n : ℤ) → Before fs p outer → IsWhole n number → (InRange n → ⊥) → (rest : List ℕ) (t : Tree) → reading (outer ++ (number ++ rest)) ≡ Ok t → ⊥
never_wide fs p outer number n b w out rest t e =
    let goes = number_goes p (p + length (minus_if w.negative ++ w.digits)) fs w.negative w.digits w.is_int refl in
    goes.no_value rest t (is_wide w.negative (number_from 0 w.digits) n w.value out) (sym (number_begins fs p outer number n b w rest ∙ ap (λ (l : List ℕ). begins p fs (l ++ rest)) w.parts) ∙ e)

pub each_too_deep : (bytes : List ℕ) (p : ℕ) → IsTooDeep bytes p → reading bytes ≡ Err (TooDeep p)
each_too_deep bytes p h =
    let fs = h.0 in
    let outer = h.1 in
    let rest = h.2 in
    let b = h.4 in
    let full : nat_lt (length fs) 64 ≡ false = le-ltb (length fs) 64 (let e : length fs ≡ 64 = h.5 in omega arith) in
    ap reading h.7 ∙ reaches fs outer b.stands b.fitting (h.3 ∷ rest) ∙ elim h.6 [
      | inl e ↦ ap (λ k. reads (length outer) (at fs (opening fs)) (k ∷ rest)) e ∙ (opening_ready fs).starts (length outer) 91 rest refl refl ∙ ap (λ r. and_then r (λ next. reads (suc (length outer)) next rest)) (begin_list (length outer) fs ∙ cond-false (nat_lt (length fs) 64) _ _ full)
      | inr e ↦ ap (λ k. reads (length outer) (at fs (opening fs)) (k ∷ rest)) e ∙ (opening_ready fs).starts (length outer) 123 rest refl refl ∙ ap (λ r. and_then r (λ next. reads (suc (length outer)) next rest)) (begin_object (length outer) fs ∙ cond-false (nat_lt (length fs) 64) _ _ full)
    ] ∙ ap (λ i. Err (TooDeep i)) (sym b.place)

pub each_repeated : (bytes : List ℕ) (p : ℕ) → IsRepeated bytes p → reading bytes ≡ Err (Repeated p)
each_repeated bytes p h =
    let fs = h.0 in
    let ms = h.1 in
    let outer = h.2 in
    let name = h.3 in
    let quoted = h.4 in
    let rest = h.5 in
    let s = h.9 in
    let i = length outer in
    let k = i + length (s.inner ++ 34 ∷ []) in
    let total : length quoted ≡ suc (length (s.inner ++ 34 ∷ [])) = ap length s.parts in
    let twice : has_name name ms ≡ true = true_from_ne_false (has_name name ms) (λ e. h.10 (new_of_not name ms e)) in
    ap reading h.11 ∙ name_reaches fs ms outer h.6 h.7 (quoted ++ rest) ∙ quoted_reads name quoted s i k ms fs (name_opening ms) rest (name_opening_ready ms fs) (omega arith)
    ∙ ap (λ r. and_then r (λ next. reads (suc k) next rest)) (cond-true (has_name name ms) (Err (Repeated i)) (Ok (at (named ms name ∷ fs) before_colon)) twice) ∙ ap (λ j. Err (Repeated j)) (sym h.8)

-- the longest prefix is no shorter than one that begins a text
at_least : (bytes front rest : List ℕ) (k : ℕ) → bytes ≡ front ++ rest → Begins front → IsLongestFront bytes k → length front ≤ k
at_least bytes front rest k e b l = elim (cases_lt k (length front)) [
  | inl below ↦ (let total : length bytes ≡ length front + length rest = ap length e ∙ length-append front rest in
      absurd (l.longest (length front) below (omega arith) (subst Begins (sym (ap (take (length front)) e ∙ take_at front rest (length front) refl)) b)))
  | inr above ↦ above
]

-- what follows such a prefix, up to k and beyond
beyond : (bytes front rest more : List ℕ) (k : ℕ) → bytes ≡ front ++ rest → length front ≤ k → take k bytes ++ more ≡ front ++ (take (k - length front) rest ++ more)
beyond bytes front rest more k e h =
    ap (λ (l : List ℕ). l ++ more) (ap (take k) e ∙ take_past front rest k (k - length front) (omega arith)) ∙ append_assoc front (take (k - length front) rest) more

two_values : (bytes : List ℕ) (t : Tree) (f : JsonFault) → reading bytes ≡ Ok t → reading bytes ≡ Err f → ⊥
two_values bytes t f e g = let h : Ok t ≡ Err f = sym e ∙ g in cc

part_of : (n : ℤ) (number : List ℕ) (c : ℕ) → IsWhole n number → begins_part c ≡ true → IsPart (number ++ c ∷ 48 ∷ [])
part_of n number c w e =
    let zero : (48 ≤ 48) × (48 ≤ 57) × Unit {0} = (omega arith, omega arith, tt) in (
      n,
      number,
      c ∷ 48 ∷ [],
      w,
      elim (or_cases _ (c == 69) e) [
        | inl f ↦ elim (or_cases (c == 46) (c == 101) f) [
          | inl g ↦ inl (48 ∷ [], ((omega arith, omega arith), tt), ap (λ k. k ∷ 48 ∷ []) (eqb-true c 46 g))
          | inr g ↦ inr (inl (c, [], 48 ∷ [], inl (eqb-true c 101 g), inl refl, ((omega arith, omega arith), tt), refl))
        ]
        | inr f ↦ inr (inl (c, [], 48 ∷ [], inr (eqb-true c 69 f), inl refl, ((omega arith, omega arith), tt), refl))
      ],
      refl,
    )

not_whole_first : (bytes : List ℕ) (k p : ℕ) → IsSyntax bytes k → IsNotWhole bytes p → ⊥
not_whole_first bytes k p s h =
    let fs = h.0 in
    let outer = h.1 in
    let number = h.2 in
    let rest = h.3 in
    let c = h.5 in
    let front = outer ++ (number ++ c ∷ []) in
    let e : bytes ≡ front ++ rest = rw h.9 (simp append_assoc) in
    let b : Begins front = begins_prefix front (48 ∷ []) (begins_as _ _ (simp append_assoc) (value_begins fs part outer (number ++ c ∷ 48 ∷ []) h.6.stands (part_of h.4 number c h.7 h.8))) in
    let low = at_least bytes front rest k e b s.0 in
    let f = s.2 in
    let tail = take (k - length front) rest ++ f.0 in
    two_values (take k bytes ++ f.0) f.1 (NotWhole p) (json_value f.1 _ f.3 f.2)
    (each_not_whole (take k bytes ++ f.0) p (fs, outer, number, tail, h.4, c, h.6, h.7, h.8, beyond bytes front rest f.0 k e low ∙ simp append_assoc))

too_wide_first : (bytes : List ℕ) (k p : ℕ) → IsSyntax bytes k → IsTooWide bytes p → ⊥
too_wide_first bytes k p s h =
    let fs = h.0 in
    let outer = h.1 in
    let number = h.2 in
    let rest = h.3 in
    let front = outer ++ number in
    let e : bytes ≡ front ++ rest = rw h.9 (simp append_assoc) in
    let b : Begins front = value_begins fs (whole h.4) outer number h.5.stands h.6 in
    let low = at_least bytes front rest k e b s.0 in
    let f = s.2 in
    let tail = take (k - length front) rest ++ f.0 in
    never_wide fs p outer number h.4 h.5 h.6 h.7 tail f.1 (ap reading (sym (append_assoc outer number tail) ∙ sym (beyond bytes front rest f.0 k e low)) ∙ json_value f.1 _ f.3 f.2)

too_deep_first : (bytes : List ℕ) (k p : ℕ) → IsSyntax bytes k → IsTooDeep bytes p → ⊥
too_deep_first bytes k p s h =
    let fs = h.0 in
    let outer = h.1 in
    let rest = h.2 in
    let c = h.3 in
    let front = outer ++ c ∷ [] in
    let e : bytes ≡ front ++ rest = rw h.7 (simp append_assoc) in
    let b : Begins front = elim h.6 [
      | inl same ↦ begins_as _ _ (ap (λ j. outer ++ j ∷ []) same) (begins_prefix (outer ++ 91 ∷ []) (93 ∷ []) (begins_as _ _ (append_assoc outer (91 ∷ []) (93 ∷ [])) (value_begins fs (list none) outer (91 ∷ 93 ∷ []) h.4.stands ([], tt, refl))))
      | inr same ↦ begins_as _ _ (ap (λ j. outer ++ j ∷ []) same) (begins_prefix (outer ++ 123 ∷ []) (125 ∷ []) (begins_as _ _ (append_assoc outer (123 ∷ []) (125 ∷ [])) (value_begins fs (members no_member) outer (123 ∷ 125 ∷ []) h.4.stands ([], tt, refl))))
    ] in
    let low = at_least bytes front rest k e b s.0 in
    let f = s.2 in
    let tail = take (k - length front) rest ++ f.0 in
    two_values (take k bytes ++ f.0) f.1 (TooDeep p) (json_value f.1 _ f.3 f.2)
    (each_too_deep (take k bytes ++ f.0) p (fs, outer, tail, c, h.4, h.5, h.6, beyond bytes front rest f.0 k e low ∙ simp append_assoc))

repeated_first : (bytes : List ℕ) (k p : ℕ) → IsSyntax bytes k → IsRepeated bytes p → ⊥
repeated_first bytes k p s h =
    let outer = h.2 in
    let quoted = h.4 in
    let rest = h.5 in
    let front = outer ++ quoted in
    let e : bytes ≡ front ++ rest = rw h.11 (simp append_assoc) in
    let low = at_least bytes front rest k e (name_begins h.0 h.1 outer h.3 quoted h.6 h.9) s.0 in
    let f = s.2 in
    let tail = take (k - length front) rest ++ f.0 in
    two_values (take k bytes ++ f.0) f.1 (Repeated p) (json_value f.1 _ f.3 f.2)
    (each_repeated (take k bytes ++ f.0) p (h.0, h.1, outer, h.3, quoted, tail, h.6, h.7, h.8, h.9, h.10, beyond bytes front rest f.0 k e low ∙ append_assoc outer quoted tail))

same_front : (bytes : List ℕ) (j k : ℕ) → IsLongestFront bytes j → IsLongestFront bytes k → j ≡ k
same_front bytes j k a b = elim (cases_lt j k) [
  | inl below ↦ absurd (a.longest k below b.within b.begins)
  | inr above ↦ elim (cases_lt k j) [ inl over ↦ absurd (b.longest j over a.within a.begins) | inr under ↦ omega arith ]
]

pub each_syntax : (bytes : List ℕ) (k : ℕ) → IsSyntax bytes k → reading bytes ≡ Err (Syntax k)
each_syntax bytes k s = go (reading bytes) (reading_sound bytes) (reading_faults bytes)
  where
    go : (r : Result Tree JsonFault) → IfOk r (λ t. IsJson t bytes) → IfErr r (IsFault bytes) → r ≡ Err (Syntax k)
    go (Ok t) h f = absurd (s.1 t h)
    go (Err (Syntax j)) h f = ap (λ i. Err (Syntax i)) (same_front bytes j k f.0 s.0)
    go (Err (NotWhole p)) h f = absurd (not_whole_first bytes k p s f)
    go (Err (TooWide p)) h f = absurd (too_wide_first bytes k p s f)
    go (Err (TooDeep p)) h f = absurd (too_deep_first bytes k p s f)
    go (Err (Repeated p)) h f = absurd (repeated_first bytes k p s f)
    go (Err NoMemory) h f = absurd f

-- every first fault
pub each_fault : (bytes : List ℕ) (f : JsonFault) → IsFault bytes f → reading bytes ≡ Err f
each_fault bytes (Syntax k) h = each_syntax bytes k h
each_fault bytes (NotWhole p) h = each_not_whole bytes p h
each_fault bytes (TooWide p) h = each_too_wide bytes p h
each_fault bytes (TooDeep p) h = each_too_deep bytes p h
each_fault bytes (Repeated p) h = each_repeated bytes p h
each_fault bytes NoMemory h = absurd h
