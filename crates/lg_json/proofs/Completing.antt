-- How what stands after some bytes is completed to a JSON text.
use Rattle.std.proofs.Common.{◌≡◌, ℕ, suc, ◌+◌, ◌-◌, ◌*◌, ◌<◌, ◌≤◌, List, [], ◌∷◌, ◌++◌, length, refl, sym, ap, ◌∙◌, subst, inl, inr, arith, append_assoc, append-nil}
use Rattle.std.proofs.lemmas.Bool.{cases_lt}
use Rattle.std.specs.Char.{encode_utf8, digit_value}
use Rattle.lg_json.specs.Tree.{Tree, Entry, trees, entries}
use Rattle.lg_json.specs.Tree.Tree.{list, members}
use Rattle.lg_json.specs.Grammar.{IsValue, IsJson, IsHexDigit, hex_number, IsUnit, IsHigh, IsLow, pair, Fits, AllFit, MembersFit}
use Rattle.lg_json.specs.Grammar.IsChar.{unescaped, short, unit, surrogates}
use Rattle.lg_json.specs.Grammar.IsShort.{slash}
use Rattle.lg_json.specs.Reading.{Frame}
use Rattle.lg_json.specs.Reading.Frame.{in_list, in_object, named}
use Rattle.lg_json.specs.Before.{BeforeValue}
use Rattle.lg_json.specs.Fault.{Begins, BeginsFitting}
use Rattle.lg_json.specs.declared.state.TextMode.{TextMode}
use Rattle.lg_json.specs.declared.state.TextMode.TheVariants.{Character, Escape, Unit as UnitMode, AfterHigh, AfterHighEscape, Low}
use Rattle.lg_containers.specs.declared.utf8.Utf8State.TheVariants.{Boundary, Inside}
use Rattle.lg_containers.specs.Utf8Laws.{can_finish}
use Rattle.lg_json.specs.Texts.{Spelled, UnitDigits, LowDigits, TextStands}
use Rattle.lg_json.proofs.Texts.{spelled_push}
use Rattle.lg_json.proofs.Lists.{padded}
use Rattle.lg_json.proofs.Sound.{completes}
use Rattle.lg_json.proofs.Fit.{FramesFit, complete_fits}

-- a prefix of what begins a text begins one
pub begins_prefix : (a b : List ℕ) → Begins (a ++ b) → Begins a
begins_prefix a b h = (b ++ h.0, h.1, subst (IsJson h.1) (append_assoc a b h.0) h.2)

pub fitting_prefix : (a b : List ℕ) → BeginsFitting (a ++ b) → BeginsFitting a
fitting_prefix a b h = (b ++ h.0, h.1, h.2, subst (IsJson h.1) (append_assoc a b h.0) h.3)

pub fitting_begins : (a : List ℕ) → BeginsFitting a → Begins a
fitting_begins a h = (h.0, h.1, h.3)

-- the same bytes
pub begins_as : (a b : List ℕ) → a ≡ b → Begins b → Begins a
begins_as a b e h = subst Begins (sym e) h

pub fitting_as : (a b : List ℕ) → a ≡ b → BeginsFitting b → BeginsFitting a
fitting_as a b e h = subst BeginsFitting (sym e) h

one_more : (front outer inner : List ℕ) (o c : ℕ) → front ≡ outer ++ o ∷ inner → front ++ c ∷ [] ≡ outer ++ o ∷ (inner ++ c ∷ [])
one_more front outer inner o c e = ap (λ (l : List ℕ). l ++ c ∷ []) e ∙ append_assoc outer (o ∷ inner) (c ∷ [])

-- a value may be followed by the ends of all that is open
pub value_begins : (fs : List Frame) (t : Tree) (outer word : List ℕ) → BeforeValue fs outer → IsValue t word → Begins (outer ++ word)
value_begins [] t outer word b v = ([], t, subst (IsJson t) (sym (append-nil _)) (padded (IsValue t) outer word b v))
value_begins (in_list [] ∷ fs) t outer word b v =
    let s = completes (in_list [] ∷ fs) t outer word b v in
    begins_prefix (outer ++ word) (93 ∷ []) (begins_as _ _ (one_more _ s.0 s.1 91 93 s.4) (value_begins fs (list (trees (t ∷ []))) s.0 (91 ∷ (s.1 ++ 93 ∷ [])) s.2 (s.1, s.3, refl)))
value_begins (in_list (u ∷ us) ∷ fs) t outer word b v =
    let s = completes (in_list (u ∷ us) ∷ fs) t outer word b v in
    begins_prefix (outer ++ word) (93 ∷ []) (begins_as _ _ (one_more _ s.0 s.1 91 93 s.4) (value_begins fs (list (trees (u ∷ (us ++ t ∷ [])))) s.0 (91 ∷ (s.1 ++ 93 ∷ [])) s.2 (s.1, s.3, refl)))
value_begins (in_object ms ∷ fs) t outer word b v = absurd b
value_begins (named [] name ∷ fs) t outer word b v =
    let s = completes (named [] name ∷ fs) t outer word b v in
    begins_prefix (outer ++ word) (125 ∷ []) (begins_as _ _ (one_more _ s.0 s.1 123 125 s.4) (value_begins fs (members (entries ((name, t) ∷ []))) s.0 (123 ∷ (s.1 ++ 125 ∷ [])) s.2 (s.1, s.3, refl)))
value_begins (named (m ∷ ms) name ∷ fs) t outer word b v =
    let s = completes (named (m ∷ ms) name ∷ fs) t outer word b v in
    begins_prefix (outer ++ word) (125 ∷ []) (begins_as _ _ (one_more _ s.0 s.1 123 125 s.4) (value_begins fs (members (entries (m ∷ (ms ++ (name, t) ∷ [])))) s.0 (123 ∷ (s.1 ++ 125 ∷ [])) s.2 (s.1, s.3, refl)))

less : (n : ℕ) → (64 - n) - 1 ≡ 64 - suc n
less n = omega arith

closed_list : (ts : List Tree) (fs : List Frame) → FramesFit (in_list ts ∷ fs) → Fits (64 - length fs) (list (trees ts))
closed_list ts fs h = let below : length fs < 64 = h.0 in (omega arith, subst (λ r. AllFit r (trees ts)) (sym (less (length fs))) h.1)

closed_object : (ms : List Entry) (fs : List Frame) → FramesFit (in_object ms ∷ fs) → Fits (64 - length fs) (members (entries ms))
closed_object ms fs h = let below : length fs < 64 = h.0 in (omega arith, subst (λ r. MembersFit r (entries ms)) (sym (less (length fs))) h.1)

-- and a value that fits by a text that fits
pub value_fitting : (fs : List Frame) (t : Tree) (outer word : List ℕ) → FramesFit fs → Fits (64 - length fs) t → BeforeValue fs outer → IsValue t word → BeginsFitting (outer ++ word)
value_fitting [] t outer word h f b v = ([], t, f, subst (IsJson t) (sym (append-nil _)) (padded (IsValue t) outer word b v))
value_fitting (in_list [] ∷ fs) t outer word h f b v =
    let s = completes (in_list [] ∷ fs) t outer word b v in
    let g = (complete_fits (in_list [] ∷ fs) t h f).0 in
    fitting_prefix (outer ++ word) (93 ∷ []) (fitting_as _ _ (one_more _ s.0 s.1 91 93 s.4) (value_fitting fs (list (trees (t ∷ []))) s.0 (91 ∷ (s.1 ++ 93 ∷ [])) h.2 (closed_list (t ∷ []) fs g) s.2 (s.1, s.3, refl)))
value_fitting (in_list (u ∷ us) ∷ fs) t outer word h f b v =
    let s = completes (in_list (u ∷ us) ∷ fs) t outer word b v in
    let g = (complete_fits (in_list (u ∷ us) ∷ fs) t h f).0 in
    fitting_prefix (outer ++ word) (93 ∷ []) (fitting_as _ _ (one_more _ s.0 s.1 91 93 s.4) (value_fitting fs (list (trees (u ∷ (us ++ t ∷ [])))) s.0 (91 ∷ (s.1 ++ 93 ∷ [])) h.2 (closed_list (u ∷ (us ++ t ∷ [])) fs g) s.2 (s.1, s.3, refl)))
value_fitting (in_object ms ∷ fs) t outer word h f b v = absurd b
value_fitting (named [] name ∷ fs) t outer word h f b v =
    let s = completes (named [] name ∷ fs) t outer word b v in
    let g = (complete_fits (named [] name ∷ fs) t h f).0 in
    fitting_prefix (outer ++ word) (125 ∷ []) (fitting_as _ _ (one_more _ s.0 s.1 123 125 s.4) (value_fitting fs (members (entries ((name, t) ∷ []))) s.0 (123 ∷ (s.1 ++ 125 ∷ [])) h.3 (closed_object ((name, t) ∷ []) fs g) s.2 (s.1, s.3, refl)))
value_fitting (named (m ∷ ms) name ∷ fs) t outer word h f b v =
    let s = completes (named (m ∷ ms) name ∷ fs) t outer word b v in
    let g = (complete_fits (named (m ∷ ms) name ∷ fs) t h f).0 in
    fitting_prefix (outer ++ word) (125 ∷ []) (fitting_as _ _ (one_more _ s.0 s.1 123 125 s.4) (value_fitting fs (members (entries (m ∷ (ms ++ (name, t) ∷ [])))) s.0 (123 ∷ (s.1 ++ 125 ∷ [])) h.3 (closed_object (m ∷ (ms ++ (name, t) ∷ [])) fs g) s.2 (s.1, s.3, refl)))

-- whole characters that are to come
pub record Goal (inner : List ℕ) : Type 0 where
  pub t : List ℕ
  pub more : List ℕ
  pub spelled : Spelled t (inner ++ more)

goal : (t inner more whole : List ℕ) → whole ≡ inner ++ more → Spelled t whole → Goal inner
goal t inner more whole e s = record { t = t; more = more; spelled = subst (Spelled t) e s }

-- four digits after `\u`, of which some have come: the others are 0, or of a low surrogate DC00
unit_of : (a b c d : ℕ) → IsHexDigit a → IsHexDigit b → IsHexDigit c → IsHexDigit d → IsUnit (hex_number a b c d) (92 ∷ 117 ∷ a ∷ b ∷ c ∷ d ∷ [])
unit_of a b c d ha hb hc hd = record { a = a; b = b; c = c; d = d; a_is_digit = ha; b_is_digit = hb; c_is_digit = hc; d_is_digit = hd; value = refl; parts = refl }

zero_digit : IsHexDigit 48
zero_digit = omega arith

-- a low surrogate's escape after a high one's
with_low : (t done front : List ℕ) (hi b c d : ℕ) → Spelled t done → IsHigh hi → IsUnit hi front → IsHexDigit b → 12 ≤ digit_value b → IsHexDigit c → IsHexDigit d → (a : ℕ) → digit_value a ≡ 13 → Spelled (t ++ encode_utf8 (pair hi (hex_number a b c d))) (done ++ (front ++ 92 ∷ 117 ∷ a ∷ b ∷ c ∷ d ∷ []))
with_low t done front hi b c d s high hu hb b12 hc hd a ha =
    let l = hex_number a b c d in
    let back : List ℕ = 92 ∷ 117 ∷ a ∷ b ∷ c ∷ d ∷ [] in
    let a_digit : digit_value a < 16 = omega arith in
    let low : IsLow l = (omega arith, omega arith) in
    spelled_push t done (front ++ back) (pair hi l) s (surrogates (pair hi l) hi l front back (front ++ back) high low hu (unit_of a b c d a_digit hb hc hd) refl refl)

goal_low : (t done front : List ℕ) (hi : ℕ) (inner more : List ℕ) (a b c d : ℕ) → Spelled t done → IsHigh hi → IsUnit hi front → digit_value a ≡ 13 → IsHexDigit b → 12 ≤ digit_value b → IsHexDigit c → IsHexDigit d → done ++ (front ++ 92 ∷ 117 ∷ a ∷ b ∷ c ∷ d ∷ []) ≡ inner ++ more → Goal inner
goal_low t done front hi inner more a b c d s high hu ha hb b12 hc hd e =
    goal _ inner more _ e (with_low t done front hi b c d s high hu hb b12 hc hd a ha)

-- a unit's escape that is whole: a character, or a high surrogate with DC00 after it
goal_unit : (t done inner more : List ℕ) (a b c d : ℕ) → Spelled t done → IsHexDigit a → IsHexDigit b → IsHexDigit c → IsHexDigit d → (IsLow (hex_number a b c d) → ⊥) → done ++ 92 ∷ 117 ∷ a ∷ b ∷ c ∷ d ∷ [] ≡ inner ++ more → Goal inner
goal_unit t done inner more a b c d s ha hb hc hd low e = elim (cases_lt u 55296) [
  | inl below ↦ goal _ inner more _ e (spelled_push t done _ u s (unit u _ whole (λ h. let h0 = h.0 in omega arith) low))
  | inr above ↦ elim (cases_lt 56319 u) [
    | inl k ↦ goal _ inner more _ e (spelled_push t done _ u s (unit u _ whole (λ h. let h1 = h.1 in omega arith) low))
    | inr k ↦ goal_low t done (92 ∷ 117 ∷ a ∷ b ∷ c ∷ d ∷ []) u inner (more ++ 92 ∷ 117 ∷ 68 ∷ 67 ∷ 48 ∷ 48 ∷ []) 68 67 48 48 s (above, k) whole refl (omega arith) (omega arith) zero_digit zero_digit
        (sym (append_assoc done (92 ∷ 117 ∷ a ∷ b ∷ c ∷ d ∷ []) (92 ∷ 117 ∷ 68 ∷ 67 ∷ 48 ∷ 48 ∷ [])) ∙ ap (λ (l : List ℕ). l ++ 92 ∷ 117 ∷ 68 ∷ 67 ∷ 48 ∷ 48 ∷ []) e ∙ append_assoc inner more (92 ∷ 117 ∷ 68 ∷ 67 ∷ 48 ∷ 48 ∷ []))
  ]
]
  where
    u : ℕ
    u = hex_number a b c d

    whole : IsUnit u (92 ∷ 117 ∷ a ∷ b ∷ c ∷ d ∷ [])
    whole = unit_of a b c d ha hb hc hd

zero_is : digit_value 48 ≡ 0
zero_is = refl

goal_digits : (t done inner digits : List ℕ) (n u : ℕ) → Spelled t done → UnitDigits n u digits → inner ≡ done ++ 92 ∷ 117 ∷ digits → Goal inner
goal_digits t done inner [] n u s h e =
    goal_unit t done inner (48 ∷ 48 ∷ 48 ∷ 48 ∷ []) 48 48 48 48 s zero_digit zero_digit zero_digit zero_digit (λ l. let l0 : 56320 ≤ 0 = l.0 in omega arith) (rw e (simp append_assoc))
goal_digits t done inner (a ∷ []) n u s h e =
    let ha : digit_value a < 16 = h.1 in
    goal_unit t done inner (48 ∷ 48 ∷ 48 ∷ []) a 48 48 48 s h.1 zero_digit zero_digit zero_digit (λ l. let l0 : 56320 ≤ ((digit_value a * 16 + 0) * 16 + 0) * 16 + 0 = l.0 in let l1 : ((digit_value a * 16 + 0) * 16 + 0) * 16 + 0 ≤ 57343 = l.1 in omega arith) (rw e (simp append_assoc))
goal_digits t done inner (a ∷ b ∷ []) n u s h e =
    let ha : digit_value a < 16 = h.1 in
    let hb : digit_value b < 16 = h.2 in
    let v : u ≡ digit_value a * 16 + digit_value b = h.3 in
    goal_unit t done inner (48 ∷ 48 ∷ []) a b 48 48 s h.1 h.2 zero_digit zero_digit
    (λ l. let l0 : 56320 ≤ ((digit_value a * 16 + digit_value b) * 16 + 0) * 16 + 0 = l.0 in let l1 : ((digit_value a * 16 + digit_value b) * 16 + 0) * 16 + 0 ≤ 57343 = l.1 in elim h.4 [ inl k ↦ omega arith | inr k ↦ omega arith ]) (rw e (simp append_assoc))
goal_digits t done inner (a ∷ b ∷ c ∷ []) n u s h e =
    let ha : digit_value a < 16 = h.1 in
    let hb : digit_value b < 16 = h.2 in
    let hc : digit_value c < 16 = h.3 in
    goal_unit t done inner (48 ∷ []) a b c 48 s h.1 h.2 h.3 zero_digit
    (λ l. let l0 : 56320 ≤ ((digit_value a * 16 + digit_value b) * 16 + digit_value c) * 16 + 0 = l.0 in let l1 : ((digit_value a * 16 + digit_value b) * 16 + digit_value c) * 16 + 0 ≤ 57343 = l.1 in elim h.5 [ inl k ↦ omega arith | inr k ↦ omega arith ]) (rw e (simp append_assoc))
goal_digits t done inner (a ∷ b ∷ c ∷ d ∷ ds) n u s h e = absurd h

goal_low_digits : (t done front inner digits : List ℕ) (hi n u : ℕ) → Spelled t done → IsHigh hi → IsUnit hi front → LowDigits n u digits → inner ≡ done ++ (front ++ 92 ∷ 117 ∷ digits) → Goal inner
goal_low_digits t done front inner [] hi n u s high hu h e =
    goal_low t done front hi inner (68 ∷ 67 ∷ 48 ∷ 48 ∷ []) 68 67 48 48 s high hu refl (omega arith) (omega arith) zero_digit zero_digit (rw e (simp append_assoc))
goal_low_digits t done front inner (a ∷ []) hi n u s high hu h e =
    goal_low t done front hi inner (67 ∷ 48 ∷ 48 ∷ []) a 67 48 48 s high hu h.1 (omega arith) (omega arith) zero_digit zero_digit (rw e (simp append_assoc))
goal_low_digits t done front inner (a ∷ b ∷ []) hi n u s high hu h e =
    goal_low t done front hi inner (48 ∷ 48 ∷ []) a b 48 48 s high hu h.1 h.2 h.3 zero_digit zero_digit (rw e (simp append_assoc))
goal_low_digits t done front inner (a ∷ b ∷ c ∷ []) hi n u s high hu h e =
    goal_low t done front hi inner (48 ∷ []) a b c 48 s high hu h.1 h.2 h.3 h.4 zero_digit (rw e (simp append_assoc))
goal_low_digits t done front inner (a ∷ b ∷ c ∷ d ∷ ds) hi n u s high hu h e = absurd h

-- every text can be completed
pub text_completes : (t : List ℕ) (m : TextMode) (inner : List ℕ) → TextStands t m inner → Goal inner
text_completes t (Character Boundary) inner s = goal t inner [] inner (sym (append-nil inner)) s
text_completes t (Character (Inside low high left)) inner s =
    let r = can_finish low high left s.5 in
    let c = s.4 r.0 r.1 in
    let large : 128 ≤ c.0 = c.2 in
    goal _ inner r.0 _ (rw s.7 (simp append_assoc)) (spelled_push s.0 s.1 (s.2 ++ r.0) c.0 s.3 (unescaped c.0 (s.2 ++ r.0) c.1 (omega arith) (omega arith) (omega arith) c.3))
text_completes t Escape inner s = goal _ inner (47 ∷ []) _ (rw s.2 (simp append_assoc)) (spelled_push t s.0 (92 ∷ 47 ∷ []) 47 s.1 (short 47 47 (92 ∷ 47 ∷ []) slash refl))
text_completes t (UnitMode n u) inner s = goal_digits t s.0 inner s.1 n u s.2 s.3 s.4
text_completes t (AfterHigh h) inner s = goal_low t s.0 s.1 h inner (92 ∷ 117 ∷ 68 ∷ 67 ∷ 48 ∷ 48 ∷ []) 68 67 48 48 s.2 s.3 s.4 refl (omega arith) (omega arith) zero_digit zero_digit (rw s.5 (simp append_assoc))
text_completes t (AfterHighEscape h) inner s = goal_low t s.0 s.1 h inner (117 ∷ 68 ∷ 67 ∷ 48 ∷ 48 ∷ []) 68 67 48 48 s.2 s.3 s.4 refl (omega arith) (omega arith) zero_digit zero_digit (rw s.5 (simp append_assoc))
text_completes t (Low h n u) inner s = goal_low_digits t s.0 s.1 inner s.2 h n u s.3 s.4 s.5 s.6 s.7
