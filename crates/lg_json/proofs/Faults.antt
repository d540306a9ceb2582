-- Each fault of the reading is the first fault of the bytes.
use Rattle.std.proofs.Common.{◌≡◌, ℕ, zero, suc, ◌+◌, ◌-◌, ◌<◌, ◌≤◌, ◌⊎◌, Bool, true, false, nat_lt, ◌==◌, List, [], ◌∷◌, ◌++◌, length, take, Option, Some, None, Result, Ok, Err, IfOk, IfErr, refl, sym, ap, ◌∙◌, subst, inl, inr, arith, append_assoc, append-nil, eqb-true, ltb-false}
use Rattle.std.proofs.lemmas.Bool.{cond_both, false≢true}
use Rattle.std.proofs.lemmas.List.{length-append, take_at}
use Rattle.lg_json.specs.Tree.{Tree, entries}
use Rattle.lg_json.specs.Tree.Tree.{whole, members}
use Rattle.lg_json.specs.Grammar.{IsInt, IsWhole, number_from, signed, minus_if, IsString, IsJson, InRange}
use Rattle.lg_json.specs.Reading.{Frame, Mode, State, at, is_blank, is_digit, with_value, begin, follow_on, follow, after, capped, fits, begins_part, end_number, closes, has_name, end_text, text_step, in_text_step, TextState, word_step, close_empty, step, whole_text, finish, and_then, reads, reading}
use Rattle.lg_json.specs.Reading.Frame.{in_list, in_object, named}
use Rattle.lg_json.specs.Reading.Mode.{before_value, before_first, before_first_name, before_name, before_colon, in_word, after_minus, after_zero, in_digits, in_text, after_item, ended}
use Rattle.lg_json.specs.Before.{BeforeValue}
use Rattle.lg_json.specs.Fault.{Begins, BeginsFitting, NotJson, Before, IsSyntax, IsNotWhole, IsTooWide, IsTooDeep, IsRepeated, IsFault}
use Rattle.lg_json.specs.declared.json.JsonFault.{JsonFault}
use Rattle.lg_json.specs.declared.json.JsonFault.TheVariants.{Syntax, NotWhole, TooWide, TooDeep, Repeated, NoMemory}
use Rattle.lg_json.specs.Reading.{Role}
use Rattle.lg_json.specs.declared.state.TextMode.{TextMode}
use Rattle.lg_json.specs.declared.state.TextMode.TheVariants.{Character}
use Rattle.lg_containers.specs.declared.utf8.Utf8State.TheVariants.{Boundary}
use Rattle.lg_json.proofs.Meets.{IsOther}
use Rattle.lg_json.specs.Texts.{Spelled}
use Rattle.lg_json.proofs.Standing.{DigitsStand, RoleStands, FirstStands, Stands, StandsAt}
use Rattle.lg_json.proofs.Sound.{Keeps, step_keeps, closes_at}
use Rattle.lg_json.proofs.Names.{not_new}
use Rattle.lg_json.proofs.Goes.{in_range_fits}
use Rattle.lg_json.proofs.Fit.{FramesFit, ModeFits, StateFits, step_fits}
use Rattle.lg_json.proofs.Whole.{Reads, json_reads}
use Rattle.lg_json.proofs.Whole.Reads.{value, fault}
use Rattle.lg_json.proofs.Completing.{fitting_begins}
use Rattle.lg_json.proofs.Fitting.{before_fitting, before_name_fitting, zero_fits, stands_fitting}

-- a fault at the byte at the place i, after `front`
abbrev pub StepFault : List ℕ → ℕ → List ℕ → JsonFault → Type 0
StepFault bytes i front (Syntax p) = (p ≡ i) × BeginsFitting front
StepFault bytes i front (NotWhole p) = IsNotWhole bytes p
StepFault bytes i front (TooWide p) = IsTooWide bytes p
StepFault bytes i front (TooDeep p) = IsTooDeep bytes p
StepFault bytes i front (Repeated p) = IsRepeated bytes p
StepFault bytes i front NoMemory = ⊥

abbrev Faults : {A : Type 0} → List ℕ → ℕ → List ℕ → Result A JsonFault → Type 0
Faults bytes i front r = IfErr r (StepFault bytes i front)

at_most_open : (fs : List Frame) → FramesFit fs → length fs ≤ 64
at_most_open [] h = omega arith
at_most_open (in_list ts ∷ fs) h = h.0
at_most_open (in_object ms ∷ fs) h = h.0
at_most_open (named ms name ∷ fs) h = h.0

deep : (i : ℕ) (fs : List Frame) (b : ℕ) (front rest : List ℕ) → i ≡ length front → FramesFit fs → BeforeValue fs front → nat_lt (length fs) 64 ≡ false → (b ≡ 91) ⊎ (b ≡ 123) → IsTooDeep (front ++ b ∷ rest) i
deep i fs b front rest place h s full which =
    let most : length fs ≤ 64 = at_most_open fs h in
    let above : 64 ≤ length fs = ltb-false (length fs) 64 full in
    (fs, front, rest, b, record { stands = s; fitting = before_fitting fs front h s; place = place }, omega arith, which, refl)

begin_faults : (i : ℕ) (fs : List Frame) (b : ℕ) (front rest : List ℕ) → i ≡ length front → FramesFit fs → BeforeValue fs front → Faults (front ++ b ∷ rest) i front (begin i fs b)
unfolding begin
begin_faults i fs b front rest place h s =
    cond_both (b == 34) _ _ (Faults (front ++ b ∷ rest) i front) (λ _. tt)
    (λ _. cond_both (b == 91) _ _ (Faults (front ++ b ∷ rest) i front)
    (λ e. cond_both (nat_lt (length fs) 64) _ _ (Faults (front ++ b ∷ rest) i front) (λ _. tt) (λ full. deep i fs b front rest place h s full (inl (eqb-true b 91 e))))
    (λ _. cond_both (b == 123) _ _ (Faults (front ++ b ∷ rest) i front)
    (λ e. cond_both (nat_lt (length fs) 64) _ _ (Faults (front ++ b ∷ rest) i front) (λ _. tt) (λ full. deep i fs b front rest place h s full (inr (eqb-true b 123 e))))
    (λ _. cond_both (b == 110) _ _ (Faults (front ++ b ∷ rest) i front) (λ _. tt)
    (λ _. cond_both (b == 116) _ _ (Faults (front ++ b ∷ rest) i front) (λ _. tt)
    (λ _. cond_both (b == 102) _ _ (Faults (front ++ b ∷ rest) i front) (λ _. tt)
    (λ _. cond_both (b == 45) _ _ (Faults (front ++ b ∷ rest) i front) (λ _. tt)
    (λ _. cond_both (b == 48) _ _ (Faults (front ++ b ∷ rest) i front) (λ _. tt)
    (λ _. cond_both (is_digit b) _ _ (Faults (front ++ b ∷ rest) i front) (λ _. tt) (λ _. (refl, before_fitting fs front h s))))))))))

follow_on_faults : (bytes : List ℕ) (i : ℕ) (fs : List Frame) (b : ℕ) (front : List ℕ) → BeginsFitting front → Faults bytes i front (follow_on i fs b)
follow_on_faults bytes i [] b front f = (refl, f)
follow_on_faults bytes i (in_list ts ∷ fs) b front f = cond_both (b == 44) _ _ (Faults bytes i front) (λ _. tt) (λ _. cond_both (b == 93) _ _ (Faults bytes i front) (λ _. tt) (λ _. (refl, f)))
follow_on_faults bytes i (in_object ms ∷ fs) b front f = cond_both (b == 44) _ _ (Faults bytes i front) (λ _. tt) (λ _. cond_both (b == 125) _ _ (Faults bytes i front) (λ _. tt) (λ _. (refl, f)))
follow_on_faults bytes i (named ms name ∷ fs) b front f = (refl, f)

follow_faults : (bytes : List ℕ) (i : ℕ) (fs : List Frame) (b : ℕ) (front : List ℕ) → BeginsFitting front → Faults bytes i front (follow i fs b)
follow_faults bytes i fs b front f = cond_both (is_blank b) _ _ (Faults bytes i front) (λ _. tt) (λ _. follow_on_faults bytes i fs b front f)

after_faults : (bytes : List ℕ) (i : ℕ) (fs : List Frame) (t : Tree) (b : ℕ) (front : List ℕ) → BeginsFitting front → Faults bytes i front (after i fs t b)
unfolding after
after_faults bytes i [] t b front f = cond_both (is_blank b) _ _ (Faults bytes i front) (λ _. tt) (λ _. (refl, f))
after_faults bytes i (g ∷ fs) t b front f = follow_faults bytes i (with_value g t ∷ fs) b front f

whole_number : (negative : Bool) (digits : List ℕ) → IsInt digits → IsWhole (signed negative (number_from 0 digits)) (minus_if negative ++ digits)
whole_number negative digits h = record { negative = negative; digits = digits; is_int = h; value = refl; parts = refl }

out_of_range : (negative : Bool) (n v : ℕ) → n ≡ capped v → fits negative n ≡ false → InRange (signed negative v) → ⊥
out_of_range negative n v e no_fit h = false≢true (sym no_fit ∙ ap (fits negative) e ∙ in_range_fits negative v h)

-- a number that ends before the byte b: the bytes before it are those of its start and its digits
end_faults : (i : ℕ) (fs : List Frame) (negative : Bool) (n p b : ℕ) (front outer digits rest : List ℕ) → FramesFit fs → BeforeValue fs outer → p ≡ length outer → IsInt digits → n ≡ capped (number_from 0 digits) → front ≡ outer ++ (minus_if negative ++ digits)
    → (is_digit b ≡ false) ⊎ (fits negative n ≡ true) → (fits negative n ≡ true → BeginsFitting front) → Faults (front ++ b ∷ rest) i front (end_number i fs negative n p b)
unfolding end_number
end_faults i fs negative n p b front outer digits rest h s place is_int v e no_digit fitting =
    let before : Before fs p outer = record { stands = s; fitting = before_fitting fs outer h s; place = place } in
    let same : front ++ b ∷ rest ≡ outer ++ ((minus_if negative ++ digits) ++ b ∷ rest) = rw e (append_assoc outer (minus_if negative ++ digits) (b ∷ rest)) in
    cond_both (begins_part b) _ _ (Faults (front ++ b ∷ rest) i front)
    (λ f. (fs, outer, minus_if negative ++ digits, rest, signed negative (number_from 0 digits), b, before, whole_number negative digits is_int, f, same))
    (λ no_part. cond_both (fits negative n) _ _ (Faults (front ++ b ∷ rest) i front)
    (λ f. after_faults (front ++ b ∷ rest) i fs (whole (signed negative n)) b front (fitting f))
    (λ wide. (
      fs,
      outer,
      minus_if negative ++ digits,
      b ∷ rest,
      signed negative (number_from 0 digits),
      before,
      whole_number negative digits is_int,
      out_of_range negative n (number_from 0 digits) v wide,
      (elim no_digit [ inl f ↦ f | inr f ↦ absurd (false≢true (sym wide ∙ f)) ], no_part),
      same,
    )))

digits_faults : (i : ℕ) (fs : List Frame) (negative : Bool) (n p b : ℕ) (front rest : List ℕ) → FramesFit fs → DigitsStand (BeforeValue fs) negative n p front → Faults (front ++ b ∷ rest) i front (step i fs (in_digits negative n p) b)
unfolding step
digits_faults i fs negative n p b front rest h s =
    cond_both (is_digit b) _ _ (Faults (front ++ b ∷ rest) i front) (λ _. tt)
    (λ no_digit. end_faults i fs negative n p b front s.outer s.digits rest h s.before s.first (inr s.positive) s.value s.parts (inl no_digit) (λ f. stands_fitting fs (in_digits negative n p) front h tt f s))

word_faults : (bytes : List ℕ) (i : ℕ) (fs : List Frame) (word : List ℕ) (t : Tree) (b : ℕ) (front : List ℕ) → BeginsFitting front → Faults bytes i front (word_step i fs word t b)
word_faults bytes i fs [] t b front f = (refl, f)
word_faults bytes i fs (c ∷ []) t b front f = cond_both (b == c) _ _ (Faults bytes i front) (λ _. tt) (λ _. (refl, f))
word_faults bytes i fs (c ∷ d ∷ ds) t b front f = cond_both (b == c) _ _ (Faults bytes i front) (λ _. tt) (λ _. (refl, f))

empty_faults : (bytes : List ℕ) (i : ℕ) (fs : List Frame) (t : Tree) (front : List ℕ) → BeginsFitting front → Faults bytes i front (close_empty i fs t)
empty_faults bytes i [] t front f = (refl, f)
empty_faults bytes i (g ∷ fs) t front f = tt

in_text_faults : (bytes : List ℕ) (i : ℕ) (fs : List Frame) (role : Role) (o : Option TextState) (front : List ℕ) → BeginsFitting front → Faults bytes i front (in_text_step i fs role o)
in_text_faults bytes i fs role None front f = (refl, f)
in_text_faults bytes i fs role (Some s) front f = tt

string_of : (t inner : List ℕ) → Spelled t inner → IsString t (34 ∷ (inner ++ 34 ∷ []))
string_of t inner s = record { chars = s.chars; inner = inner; spelled = s.spelled; value = s.value; parts = refl }

text_faults : (i : ℕ) (fs : List Frame) (role : Role) (t front rest : List ℕ) → FramesFit fs → RoleStands fs role t (Character Boundary) front → Faults (front ++ 34 ∷ rest) i front (end_text i fs role t)
text_faults i fs Role.Value t front rest h s = tt
text_faults i [] (Role.Name q) t front rest h s = absurd s
text_faults i (in_list ts ∷ fs) (Role.Name q) t front rest h s = absurd s
text_faults i (named ms other ∷ fs) (Role.Name q) t front rest h s = absurd s
text_faults i (in_object ms ∷ fs) (Role.Name q) t front rest h s =
    cond_both (has_name t ms) _ _ (Faults (front ++ 34 ∷ rest) i front)
    (λ e. (fs, ms, s.0, t, 34 ∷ (s.1 ++ 34 ∷ []), rest, s.2, before_name_fitting fs ms s.0 h s.2, s.3, string_of t s.1 s.4, not_new t ms e, rw s.5 (simp append_assoc)))
    (λ _. tt)

role_faults : (i : ℕ) (fs : List Frame) (role : Role) (t : List ℕ) (m : TextMode) (b : ℕ) (front rest : List ℕ) → FramesFit fs → RoleStands fs role t m front → BeginsFitting front → Faults (front ++ b ∷ rest) i front (step i fs (in_text role t m) b)
unfolding step
role_faults i fs role t m b front rest h s f =
    cond_both (closes m b) _ _ (Faults (front ++ b ∷ rest) i front)
    (λ e. let c = closes_at m b e in rw c.byte (text_faults i fs role t front rest h (subst (λ k. RoleStands fs role t k front) c.mode s)))
    (λ _. in_text_faults (front ++ b ∷ rest) i fs role (text_step t m b) front f)

first_faults : (i : ℕ) (fs : List Frame) (b : ℕ) (front rest : List ℕ) → i ≡ length front → FramesFit fs → FirstStands fs front → BeginsFitting front → Faults (front ++ b ∷ rest) i front (step i fs before_first b)
unfolding step
first_faults i [] b front rest place h s f = absurd s
first_faults i (in_list [] ∷ fs) b front rest place h s f =
    cond_both (is_blank b) _ _ (Faults (front ++ b ∷ rest) i front) (λ _. tt)
    (λ _. cond_both (b == 93) _ _ (Faults (front ++ b ∷ rest) i front) (λ _. tt) (λ _. begin_faults i (in_list [] ∷ fs) b front rest place h s))
first_faults i (in_list (t ∷ ts) ∷ fs) b front rest place h s f = absurd s
first_faults i (in_object ms ∷ fs) b front rest place h s f = absurd s
first_faults i (named ms name ∷ fs) b front rest place h s f = absurd s

pub step_faults : (i : ℕ) (fs : List Frame) (m : Mode) (b : ℕ) (front rest : List ℕ) → i ≡ length front → FramesFit fs → ModeFits m → Stands fs m front → Faults (front ++ b ∷ rest) i front (step i fs m b)
unfolding step
step_faults i fs before_value b front rest place h f s =
    cond_both (is_blank b) _ _ (Faults (front ++ b ∷ rest) i front) (λ _. tt) (λ _. begin_faults i fs b front rest place h s)
step_faults i fs before_first b front rest place h f s = first_faults i fs b front rest place h s (stands_fitting fs before_first front h f tt s)
step_faults i fs before_first_name b front rest place h f s =
    let g = stands_fitting fs before_first_name front h f tt s in
    cond_both (is_blank b) _ _ (Faults (front ++ b ∷ rest) i front) (λ _. tt)
    (λ _. cond_both (b == 34) _ _ (Faults (front ++ b ∷ rest) i front) (λ _. tt)
    (λ _. cond_both (b == 125) _ _ (Faults (front ++ b ∷ rest) i front) (λ _. empty_faults (front ++ b ∷ rest) i fs (members (entries [])) front g) (λ _. (refl, g))))
step_faults i fs before_name b front rest place h f s =
    cond_both (is_blank b) _ _ (Faults (front ++ b ∷ rest) i front) (λ _. tt) (λ _. cond_both (b == 34) _ _ (Faults (front ++ b ∷ rest) i front) (λ _. tt) (λ _. (refl, stands_fitting fs before_name front h f tt s)))
step_faults i fs before_colon b front rest place h f s =
    cond_both (is_blank b) _ _ (Faults (front ++ b ∷ rest) i front) (λ _. tt) (λ _. cond_both (b == 58) _ _ (Faults (front ++ b ∷ rest) i front) (λ _. tt) (λ _. (refl, stands_fitting fs before_colon front h f tt s)))
step_faults i fs (in_word word t) b front rest place h f s = word_faults (front ++ b ∷ rest) i fs word t b front (stands_fitting fs (in_word word t) front h f tt s)
step_faults i fs (after_minus p) b front rest place h f s =
    cond_both (b == 48) _ _ (Faults (front ++ b ∷ rest) i front) (λ _. tt) (λ _. cond_both (is_digit b) _ _ (Faults (front ++ b ∷ rest) i front) (λ _. tt) (λ _. (refl, stands_fitting fs (after_minus p) front h f tt s)))
step_faults i fs (after_zero negative p) b front rest place h f s =
    end_faults i fs negative 0 p b front s.0 (48 ∷ []) rest h s.1 s.2 (inl refl) refl s.3 (inr (zero_fits negative)) (λ _. stands_fitting fs (after_zero negative p) front h f tt s)
step_faults i fs (in_digits negative n p) b front rest place h f s = digits_faults i fs negative n p b front rest h s
step_faults i fs (in_text role t m) b front rest place h f s = role_faults i fs role t m b front rest h s (stands_fitting fs (in_text role t m) front h f tt s)
step_faults i fs after_item b front rest place h f s = follow_faults (front ++ b ∷ rest) i fs b front (stands_fitting fs after_item front h f tt s)
step_faults i fs (ended t) b front rest place h f s =
    cond_both (is_blank b) _ _ (Faults (front ++ b ∷ rest) i front) (λ _. tt) (λ _. (refl, stands_fitting fs (ended t) front h f tt s))

whole_faults : (bytes : List ℕ) (i : ℕ) (fs : List Frame) (t : Tree) (front : List ℕ) → BeginsFitting front → Faults bytes i front (whole_text i fs t)
whole_faults bytes i [] t front f = tt
whole_faults bytes i (g ∷ fs) t front f = (refl, f)

pub finish_faults : (i : ℕ) (fs : List Frame) (m : Mode) (front : List ℕ) → FramesFit fs → ModeFits m → Stands fs m front → Faults front i front (finish i fs m)
unfolding finish
finish_faults i fs (after_zero negative p) front h f s = whole_faults front i fs (whole (signed negative 0)) front (stands_fitting fs (after_zero negative p) front h f tt s)
finish_faults i fs (in_digits negative n p) front h f s =
    cond_both (fits negative n) _ _ (Faults front i front)
    (λ e. whole_faults front i fs (whole (signed negative n)) front (stands_fitting fs (in_digits negative n p) front h f e s))
    (λ wide. (
      fs,
      s.outer,
      minus_if negative ++ s.digits,
      [],
      signed negative (number_from 0 s.digits),
      record { stands = s.before; fitting = before_fitting fs s.outer h s.before; place = s.first },
      whole_number negative s.digits (inr s.positive),
      out_of_range negative n (number_from 0 s.digits) s.value wide,
      tt,
      s.parts ∙ ap (λ (l : List ℕ). s.outer ++ l) (sym (append-nil (minus_if negative ++ s.digits))),
    ))
finish_faults i fs (ended t) front h f s = tt
finish_faults i fs before_value front h f s = (refl, stands_fitting fs before_value front h f tt s)
finish_faults i fs before_first front h f s = (refl, stands_fitting fs before_first front h f tt s)
finish_faults i fs before_first_name front h f s = (refl, stands_fitting fs before_first_name front h f tt s)
finish_faults i fs before_name front h f s = (refl, stands_fitting fs before_name front h f tt s)
finish_faults i fs before_colon front h f s = (refl, stands_fitting fs before_colon front h f tt s)
finish_faults i fs (in_word word t) front h f s = (refl, stands_fitting fs (in_word word t) front h f tt s)
finish_faults i fs (after_minus p) front h f s = (refl, stands_fitting fs (after_minus p) front h f tt s)
finish_faults i fs (in_text role t m) front h f s = (refl, stands_fitting fs (in_text role t m) front h f tt s)
finish_faults i fs after_item front h f s = (refl, stands_fitting fs after_item front h f tt s)

-- the reading has come to the state after `front`, whatever follows
pub record Reached (front : List ℕ) (i : ℕ) (s : State) : Type 0 where
  pub over : (more : List ℕ) → reading (front ++ more) ≡ reads i s more

-- no JSON text has a syntax fault
no_syntax : (t : Tree) (bytes : List ℕ) (p : ℕ) → IsJson t bytes → reading bytes ≡ Err (Syntax p) → ⊥
no_syntax t bytes p h e = go (json_reads t bytes h)
  where
    go : Reads t (reading bytes) → ⊥
    go (value f) = let g : Ok t ≡ Err (Syntax p) = sym f ∙ e in cc
    go (fault k other bars f) = let g : Err k ≡ Err (Syntax p) = sym f ∙ e in let same : k ≡ Syntax p = cc in subst IsOther same other

pub take_past : (p q : List ℕ) (m k : ℕ) → m ≡ length p + k → take m (p ++ q) ≡ p ++ take k q
take_past [] q m k e = let same : m ≡ k = omega arith in ap (λ n. take n q) same
take_past (x ∷ xs) q zero k e = absurd (omega arith)
take_past (x ∷ xs) q (suc m) k e = ap (λ (l : List ℕ). x ∷ l) (take_past xs q m k (omega arith))

-- where the byte b can't follow, what was read is the longest prefix that begins a text
stuck : (front : List ℕ) (i b : ℕ) (bs : List ℕ) (s : State) → i ≡ length front → Reached front i s → BeginsFitting front → ((more : List ℕ) → reads i s (b ∷ more) ≡ Err (Syntax i)) → IsSyntax (front ++ b ∷ bs) i
stuck front i b bs s place reached fitting stops =
    (record { within = omega (arith, length-append front (b ∷ bs)); begins = subst Begins (sym front_is) (fitting_begins front fitting); longest = longest }, not_json, subst BeginsFitting (sym front_is) fitting)
  where
    front_is : take i (front ++ b ∷ bs) ≡ front
    front_is = take_at front (b ∷ bs) i (sym place)

    longest : (m : ℕ) → i < m → m ≤ length (front ++ b ∷ bs) → Begins (take m (front ++ b ∷ bs)) → ⊥
    longest m above within h =
        let k = m - suc (length front) in
        let e : take m (front ++ b ∷ bs) ≡ front ++ b ∷ take k bs = take_past front (b ∷ bs) m (suc k) (omega arith) in
        no_syntax h.1 (front ++ b ∷ (take k bs ++ h.0)) i (subst (IsJson h.1) (ap (λ (l : List ℕ). l ++ h.0) e ∙ append_assoc front (b ∷ take k bs) h.0) h.2) (reached.over (b ∷ (take k bs ++ h.0)) ∙ stops (take k bs ++ h.0))

    not_json : NotJson (front ++ b ∷ bs)
    not_json t h = no_syntax t (front ++ b ∷ bs) i h (reached.over (b ∷ bs) ∙ stops bs)

-- the same at the end of the bytes
stuck_at_end : (front : List ℕ) (i : ℕ) (s : State) → i ≡ length front → Reached front i s → BeginsFitting front → reads i s [] ≡ Err (Syntax i) → IsSyntax front i
stuck_at_end front i s place reached fitting stops =
    (record { within = omega arith; begins = subst Begins (sym front_is) (fitting_begins front fitting); longest = λ m above within h. absurd (omega arith) }, not_json, subst BeginsFitting (sym front_is) fitting)
  where
    front_is : take i front ≡ front
    front_is = ap (take i) (sym (append-nil front)) ∙ take_at front [] i (sym place)

    not_json : NotJson front
    not_json t h = no_syntax t front i h (ap reading (sym (append-nil front)) ∙ reached.over [] ∙ stops)

reads_step : (i : ℕ) (s : State) (b : ℕ) (bs : List ℕ) → reads i s (b ∷ bs) ≡ and_then (step i s.frames s.mode b) (λ next. reads (suc i) next bs)
unfolding reads
reads_step i s b bs = refl

reads_end : (i : ℕ) (s : State) → reads i s [] ≡ finish i s.frames s.mode
unfolding reads
reads_end i s = refl

from_step : (front : List ℕ) (i b : ℕ) (bs : List ℕ) (s : State) (f : JsonFault) → i ≡ length front → Reached front i s → step i s.frames s.mode b ≡ Err f → StepFault (front ++ b ∷ bs) i front f → IsFault (front ++ b ∷ bs) f
from_step front i b bs s (Syntax p) place reached e h =
    subst (IsSyntax (front ++ b ∷ bs)) (sym h.0)
    (stuck front i b bs s place reached h.1 (λ more. reads_step i s b more ∙ ap (λ r. and_then r (λ next. reads (suc i) next more)) (e ∙ ap (λ k. Err (Syntax k)) h.0)))
from_step front i b bs s (NotWhole p) place reached e h = h
from_step front i b bs s (TooWide p) place reached e h = h
from_step front i b bs s (TooDeep p) place reached e h = h
from_step front i b bs s (Repeated p) place reached e h = h
from_step front i b bs s NoMemory place reached e h = h

from_finish : (front : List ℕ) (i : ℕ) (s : State) (f : JsonFault) → i ≡ length front → Reached front i s → finish i s.frames s.mode ≡ Err f → StepFault front i front f → IsFault front f
from_finish front i s (Syntax p) place reached e h = subst (IsSyntax front) (sym h.0) (stuck_at_end front i s place reached h.1 (reads_end i s ∙ e ∙ ap (λ k. Err (Syntax k)) h.0))
from_finish front i s (NotWhole p) place reached e h = h
from_finish front i s (TooWide p) place reached e h = h
from_finish front i s (TooDeep p) place reached e h = h
from_finish front i s (Repeated p) place reached e h = h
from_finish front i s NoMemory place reached e h = h

pub reads_faults : (bytes front : List ℕ) (i : ℕ) (s : State) → i ≡ length front → StandsAt front s → StateFits s → Reached front i s → IfErr (reads i s bytes) (IsFault (front ++ bytes))
reads_faults [] front i s place h fit reached =
    subst (λ r. IfErr r (IsFault (front ++ []))) (sym (reads_end i s)) (subst (λ l. IfErr (finish i s.frames s.mode) (IsFault l)) (sym (append-nil front)) (go (finish i s.frames s.mode) refl (finish_faults i s.frames s.mode front fit.0 fit.1 h)))
  where
    go : (r : Result Tree JsonFault) → finish i s.frames s.mode ≡ r → Faults front i front r → IfErr r (IsFault front)
    go (Ok t) e k = tt
    go (Err f) e k = from_finish front i s f place reached e k
reads_faults (b ∷ bs) front i s place h fit reached =
    subst (λ r. IfErr r (IsFault (front ++ b ∷ bs))) (sym (reads_step i s b bs))
    (go (step i s.frames s.mode b) refl (step_keeps i s.frames s.mode b front place h) (step_fits i s.frames s.mode b fit.0 fit.1) (step_faults i s.frames s.mode b front bs place fit.0 fit.1 h)
    (λ next k j r. subst (λ l. IfErr (reads (suc i) next bs) (IsFault l)) (append_assoc front (b ∷ []) bs) (reads_faults bs (front ++ b ∷ []) (suc i) next (omega (arith, length-append front (b ∷ []))) k j r)))
  where
    go : (r : Result State JsonFault) → step i s.frames s.mode b ≡ r → Keeps (front ++ b ∷ []) r → IfOk r StateFits → Faults (front ++ b ∷ bs) i front r
        → ((next : State) → StandsAt (front ++ b ∷ []) next → StateFits next → Reached (front ++ b ∷ []) (suc i) next → IfErr (reads (suc i) next bs) (IsFault (front ++ b ∷ bs)))
        → IfErr (and_then r (λ next. reads (suc i) next bs)) (IsFault (front ++ b ∷ bs))
    go (Ok next) e k j faults ih =
        ih next k j (record { over = λ more. ap reading (append_assoc front (b ∷ []) more) ∙ reached.over (b ∷ more) ∙ reads_step i s b more ∙ ap (λ r. and_then r (λ t. reads (suc i) t more)) e })
    go (Err f) e k j faults ih = from_step front i b bs s f place reached e faults

-- each fault of the reading
pub reading_faults : (bytes : List ℕ) → IfErr (reading bytes) (IsFault bytes)
unfolding reading
reading_faults bytes = reads_faults bytes [] 0 (at [] before_value) refl tt (tt, tt) (record { over = λ more. refl })
