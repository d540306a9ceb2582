-- What was read without a fault begins a text that fits.
use Rattle.std.proofs.Common.{◌≡◌, ℕ, zero, suc, ◌+◌, ◌-◌, ◌<◌, Bool, true, false, ◌||◌, List, [], ◌∷◌, ◌++◌, length, replicate, refl, sym, ap, ◌∙◌, subst, inl, inr, arith, append_assoc, append-nil}
use Rattle.std.proofs.lemmas.List.{length-append, length-replicate}
use Rattle.std.proofs.lemmas.Str.{encode_ascii}
use lib.Utf8.{low_scalar}
use Rattle.lg_json.specs.Tree.{Tree, Entry, trees, entries}
use Rattle.lg_json.specs.Tree.Tree.{null, whole, text, list, members}
use Rattle.lg_json.specs.Grammar.{IsInt, number_from, signed, minus_if, IsString, IsJson, Fits, AllFit, MembersFit}
use Rattle.lg_json.specs.Grammar.IsChar.{unescaped}
use Rattle.lg_json.specs.Reading.{Frame, Mode, capped, fits, has_name}
use Rattle.lg_json.specs.Reading.Frame.{in_list, in_object, named}
use Rattle.lg_json.specs.Reading.Mode.{before_value, before_first, before_first_name, before_name, before_colon, in_word, after_minus, after_zero, in_digits, in_text, after_item, ended}
use Rattle.lg_json.specs.Before.{BeforeName, BeforeValue}
use Rattle.lg_json.specs.Fault.{Begins, BeginsFitting}
use Rattle.lg_json.specs.Reading.{Role}
use Rattle.lg_json.specs.declared.state.TextMode.{TextMode}
use Rattle.lg_json.specs.Texts.{Spelled}
use Rattle.lg_json.proofs.Standing.{ItemStands, EndStands, FirstStands, FirstNameStands, NextNameStands, ColonStands, RoleStands, Stands}
use Rattle.lg_json.proofs.Texts.{spelled_push}
use Rattle.lg_json.proofs.Names.{differ}
use Rattle.lg_json.proofs.Sound.{whole_of}
use Rattle.lg_json.proofs.Fit.{FramesFit, ModeFits, fits_in_range}
use Rattle.lg_json.proofs.Completing.{begins_prefix, fitting_prefix, fitting_as, begins_as, value_begins, value_fitting, Goal, text_completes}

-- a name longer than all others is new
abbrev total_length : List Entry → ℕ
total_length [] = 0
total_length (m ∷ ms) = length m.0 + total_length ms

longer_is_new : (name : List ℕ) (ms : List Entry) → total_length ms < length name → has_name name ms ≡ false
longer_is_new name [] h = refl
longer_is_new name (m ∷ ms) h =
    let ne = differ m.0 name (λ e. let f : length m.0 ≡ length name = ap length e in omega arith) in
    ap (λ b. b || has_name name ms) ne ∙ longer_is_new name ms (omega arith)

spelled_letters : (n : ℕ) (t inner : List ℕ) → Spelled t inner → Spelled (t ++ replicate n 97) (inner ++ replicate n 97)
spelled_letters zero t inner s = subst (λ (l : List ℕ). Spelled l (inner ++ [])) (sym (append-nil t)) (subst (Spelled t) (sym (append-nil inner)) s)
spelled_letters (suc n) t inner s =
    let e = encode_ascii 97 (omega arith) in
    let p = spelled_push t inner (97 ∷ []) 97 s (unescaped 97 (97 ∷ []) (low_scalar 97 (omega arith)) (omega arith) (omega arith) (omega arith) (sym e)) in
    let q : Spelled (t ++ 97 ∷ []) (inner ++ 97 ∷ []) = subst (λ (l : List ℕ). Spelled (t ++ l) (inner ++ 97 ∷ [])) e p in
    subst (λ (l : List ℕ). Spelled l (inner ++ 97 ∷ replicate n 97)) (append_assoc t (97 ∷ []) (replicate n 97))
    (subst (λ (l : List ℕ). Spelled ((t ++ 97 ∷ []) ++ replicate n 97) l) (append_assoc inner (97 ∷ []) (replicate n 97)) (spelled_letters n (t ++ 97 ∷ []) (inner ++ 97 ∷ []) q))

string_of : (t inner : List ℕ) → Spelled t inner → IsString t (34 ∷ (inner ++ 34 ∷ []))
string_of t inner s = record { chars = s.chars; inner = inner; spelled = s.spelled; value = s.value; parts = refl }

pub before_fitting : (fs : List Frame) (outer : List ℕ) → FramesFit fs → BeforeValue fs outer → BeginsFitting outer
before_fitting fs outer h b = fitting_prefix outer (110 ∷ 117 ∷ 108 ∷ 108 ∷ []) (value_fitting fs null outer (110 ∷ 117 ∷ 108 ∷ 108 ∷ []) h tt b refl)

colon_at_end : (outer quoted : List ℕ) → (outer ++ quoted) ++ 58 ∷ [] ≡ outer ++ (quoted ++ 58 ∷ [])
colon_at_end outer quoted = append_assoc outer quoted (58 ∷ [])

-- after a whole name
pub name_fitting : (fs : List Frame) (ms : List Entry) (outer name quoted : List ℕ) → FramesFit (in_object ms ∷ fs) → BeforeName (BeforeValue fs) ms outer → IsString name quoted → has_name name ms ≡ false → BeginsFitting (outer ++ quoted)
name_fitting fs ms outer name quoted h b s new =
    fitting_prefix (outer ++ quoted) (58 ∷ []) (fitting_as _ _ (colon_at_end outer quoted) (before_fitting (named ms name ∷ fs) (outer ++ (quoted ++ 58 ∷ [])) (h.0, h.1, new, h.2) (outer, quoted, [], [], b, s, tt, tt, refl)))

pub name_begins : (fs : List Frame) (ms : List Entry) (outer name quoted : List ℕ) → BeforeName (BeforeValue fs) ms outer → IsString name quoted → Begins (outer ++ quoted)
name_begins fs ms outer name quoted b s =
    begins_prefix (outer ++ quoted) (58 ∷ []) (begins_as _ _ (colon_at_end outer quoted)
    (begins_prefix (outer ++ (quoted ++ 58 ∷ [])) (110 ∷ 117 ∷ 108 ∷ 108 ∷ []) (value_begins (named ms name ∷ fs) null (outer ++ (quoted ++ 58 ∷ [])) (110 ∷ 117 ∷ 108 ∷ 108 ∷ []) (outer, quoted, [], [], b, s, tt, tt, refl) refl)))

-- inside a name: with enough letters more it is new
in_name_fitting : (fs : List Frame) (ms : List Entry) (outer inner : List ℕ) → FramesFit (in_object ms ∷ fs) → BeforeName (BeforeValue fs) ms outer → Goal inner → BeginsFitting (outer ++ 34 ∷ inner)
in_name_fitting fs ms outer inner h b g =
    let n = suc (total_length ms) in
    let letters = replicate n 97 in
    let name = g.t ++ letters in
    let spelled = spelled_letters n g.t (inner ++ g.more) g.spelled in
    let long : length name ≡ length g.t + n = length-append g.t letters ∙ ap (λ k. length g.t + k) (length-replicate n 97) in
    let quoted = 34 ∷ (((inner ++ g.more) ++ letters) ++ 34 ∷ []) in
    fitting_prefix (outer ++ 34 ∷ inner) (g.more ++ (letters ++ 34 ∷ []))
    (fitting_as _ (outer ++ quoted) (simp append_assoc) (name_fitting fs ms outer name quoted h b (string_of name ((inner ++ g.more) ++ letters) spelled) (longer_is_new name ms (omega arith))))

in_text_fitting : (fs : List Frame) (outer inner : List ℕ) → FramesFit fs → BeforeValue fs outer → Goal inner → BeginsFitting (outer ++ 34 ∷ inner)
in_text_fitting fs outer inner h b g =
    fitting_prefix (outer ++ 34 ∷ inner) (g.more ++ 34 ∷ [])
    (fitting_as _ (outer ++ (34 ∷ ((inner ++ g.more) ++ 34 ∷ []))) (simp append_assoc) (value_fitting fs (text g.t) outer (34 ∷ ((inner ++ g.more) ++ 34 ∷ [])) h tt b (string_of g.t (inner ++ g.more) g.spelled)))

-- a letter as a name, before one
pub before_name_fitting : (fs : List Frame) (ms : List Entry) (outer : List ℕ) → FramesFit (in_object ms ∷ fs) → BeforeName (BeforeValue fs) ms outer → BeginsFitting outer
before_name_fitting fs ms outer h b =
    fitting_prefix outer (34 ∷ []) (in_name_fitting fs ms outer [] h b (record { t = []; more = []; spelled = record { chars = []; spelled = refl; value = refl } }))

role_fitting : (fs : List Frame) (role : Role) (t : List ℕ) (m : TextMode) (front : List ℕ) → FramesFit fs → RoleStands fs role t m front → BeginsFitting front
role_fitting fs Role.Value t m front h s = fitting_as _ _ s.4 (in_text_fitting fs s.0 s.1 h s.2 (text_completes t m s.1 s.3))
role_fitting [] (Role.Name q) t m front h s = absurd s
role_fitting (in_list ts ∷ fs) (Role.Name q) t m front h s = absurd s
role_fitting (named ms name ∷ fs) (Role.Name q) t m front h s = absurd s
role_fitting (in_object ms ∷ fs) (Role.Name q) t m front h s = fitting_as _ _ s.5 (in_name_fitting fs ms s.0 s.1 h s.2 (text_completes t m s.1 s.4))

first_fitting : (fs : List Frame) (front : List ℕ) → FramesFit fs → FirstStands fs front → BeginsFitting front
first_fitting [] front h s = absurd s
first_fitting (in_list [] ∷ fs) front h s = before_fitting (in_list [] ∷ fs) front h s
first_fitting (in_list (t ∷ ts) ∷ fs) front h s = absurd s
first_fitting (in_object ms ∷ fs) front h s = absurd s
first_fitting (named ms name ∷ fs) front h s = absurd s

first_name_fitting : (fs : List Frame) (front : List ℕ) → FramesFit fs → FirstNameStands fs front → BeginsFitting front
first_name_fitting [] front h s = absurd s
first_name_fitting (in_list ts ∷ fs) front h s = absurd s
first_name_fitting (named ms name ∷ fs) front h s = absurd s
first_name_fitting (in_object [] ∷ fs) front h s = before_name_fitting fs [] front h s
first_name_fitting (in_object (m ∷ ms) ∷ fs) front h s = absurd s

next_name_fitting : (fs : List Frame) (front : List ℕ) → FramesFit fs → NextNameStands fs front → BeginsFitting front
next_name_fitting [] front h s = absurd s
next_name_fitting (in_list ts ∷ fs) front h s = absurd s
next_name_fitting (named ms name ∷ fs) front h s = absurd s
next_name_fitting (in_object [] ∷ fs) front h s = absurd s
next_name_fitting (in_object (m ∷ ms) ∷ fs) front h s = before_name_fitting fs (m ∷ ms) front h s

colon_fitting : (fs : List Frame) (front : List ℕ) → FramesFit fs → ColonStands fs front → BeginsFitting front
colon_fitting [] front h s = absurd s
colon_fitting (in_list ts ∷ fs) front h s = absurd s
colon_fitting (in_object ms ∷ fs) front h s = absurd s
colon_fitting (named ms name ∷ fs) front h s =
    fitting_prefix front (58 ∷ [])
    (fitting_as _ _ (rw s.6 (simp append_assoc)) (before_fitting (named ms name ∷ fs) (s.0 ++ (s.1 ++ (s.2 ++ 58 ∷ []))) h (s.0, s.1, s.2, [], s.3, s.4, s.5, tt, refl)))

less : (n : ℕ) → (64 - n) - 1 ≡ 64 - suc n
less n = omega arith

item_fitting : (fs : List Frame) (front : List ℕ) → FramesFit fs → ItemStands fs front → BeginsFitting front
item_fitting [] front h s = absurd s
item_fitting (in_list [] ∷ fs) front h s = absurd s
item_fitting (in_list (t ∷ ts) ∷ fs) front h s =
    let below : length fs < 64 = h.0 in
    fitting_prefix front (93 ∷ [])
    (fitting_as _ _ (rw s.4 (simp append_assoc)) (value_fitting fs (list (trees (t ∷ ts))) s.0 (91 ∷ (s.1 ++ 93 ∷ [])) h.2 (omega arith, subst (λ r. AllFit r (trees (t ∷ ts))) (sym (less (length fs))) h.1) s.2 (s.1, s.3, refl)))
item_fitting (in_object [] ∷ fs) front h s = absurd s
item_fitting (in_object (m ∷ ms) ∷ fs) front h s =
    let below : length fs < 64 = h.0 in
    fitting_prefix front (125 ∷ [])
    (fitting_as _ _ (rw s.4 (simp append_assoc)) (value_fitting fs (members (entries (m ∷ ms))) s.0 (123 ∷ (s.1 ++ 125 ∷ [])) h.2 (omega arith, subst (λ r. MembersFit r (entries (m ∷ ms))) (sym (less (length fs))) h.1) s.2 (s.1, s.3, refl)))
item_fitting (named ms name ∷ fs) front h s = absurd s

end_fitting : (fs : List Frame) (t : Tree) (front : List ℕ) → Fits 64 t → EndStands fs t front → BeginsFitting front
end_fitting [] t front f s = ([], t, f, subst (IsJson t) (sym (append-nil front)) s)
end_fitting (g ∷ fs) t front f s = absurd s

-- a number that is in progress and not too wide
abbrev pub NumberFits : Mode → Type 0
NumberFits (in_digits negative n p) = fits negative n ≡ true
NumberFits _ = Unit {0}

pub zero_fits : (negative : Bool) → fits negative 0 ≡ true
zero_fits true = refl
zero_fits false = refl

number_fitting : (fs : List Frame) (negative : Bool) (n : ℕ) (digits outer front : List ℕ) → FramesFit fs → fits negative n ≡ true → BeforeValue fs outer → IsInt digits → n ≡ capped (number_from 0 digits) → front ≡ outer ++ (minus_if negative ++ digits) → BeginsFitting front
number_fitting fs negative n digits outer front h ok b is_int value e =
    fitting_as _ _ e (value_fitting fs (whole (signed negative n)) outer (minus_if negative ++ digits) h (fits_in_range negative n ok) b (whole_of negative n digits is_int value ok))

pub stands_fitting : (fs : List Frame) (m : Mode) (front : List ℕ) → FramesFit fs → ModeFits m → NumberFits m → Stands fs m front → BeginsFitting front
stands_fitting fs before_value front h f n s = before_fitting fs front h s
stands_fitting fs before_first front h f n s = first_fitting fs front h s
stands_fitting fs before_first_name front h f n s = first_name_fitting fs front h s
stands_fitting fs before_name front h f n s = next_name_fitting fs front h s
stands_fitting fs before_colon front h f n s = colon_fitting fs front h s
stands_fitting fs (in_word rest t) front h f n s =
    fitting_prefix front rest (fitting_as _ _ (rw s.4 (append_assoc s.0 s.1 rest)) (value_fitting fs t s.0 (s.1 ++ rest) h (f _) s.2 s.3))
stands_fitting fs (after_minus p) front h f n s =
    fitting_prefix front (48 ∷ []) (number_fitting fs true 0 (48 ∷ []) s.0 _ h (zero_fits true) s.1 (inl refl) refl (rw s.3 (append_assoc s.0 (45 ∷ []) (48 ∷ []))))
stands_fitting fs (after_zero negative p) front h f n s = number_fitting fs negative 0 (48 ∷ []) s.0 front h (zero_fits negative) s.1 (inl refl) refl s.3
stands_fitting fs (in_digits negative v p) front h f n s = number_fitting fs negative v s.digits s.outer front h n s.before (inr s.positive) s.value s.parts
stands_fitting fs (in_text role t m) front h f n s = role_fitting fs role t m front h s
stands_fitting fs after_item front h f n s = item_fitting fs front h s
stands_fitting fs (ended t) front h f n s = end_fitting fs t front f s
