-- What the parts of the reading come to over some bytes.
use Rattle.std.proofs.Common.{slice_range, ◌≡◌, ℕ, suc, ◌+◌, ◌-◌, ◌*◌, ◌<◌, ◌≤◌, Bool, true, false, ◌==◌, List, [], ◌∷◌, ◌++◌, length, get_or, take, drop, Some, None, Result, Ok, Err, IsUtf8, inl, inr, refl, sym, ap, ◌∙◌, subst, arith, append_assoc, append-nil}
use Rattle.std.proofs.lemmas.List.{drop_more, take_more, drop_all, length-take-le, take-append-drop, length-drop, drop-drop, get_or-drop}
use Rattle.std.proofs.lemmas.Bool.{cond-true, cond-false, cases_lt, ne_eqb, eq-eqb, true≢false}
use Rattle.std.proofs.lemmas.Str.{encode_ascii}
use Rattle.std.specs.List.{AllByRecursion}
use lib.Utf8.{low_scalar}
use Rattle.lg_json.specs.Tree.{Tree}
use Rattle.lg_json.specs.Grammar.IsChar.{unescaped}
use Rattle.lg_json.specs.Reading.{Frame, Mode, Role, State, at, is_blank, is_digit, capped, fits, begins_part, complete, begin, end_text, closes, text_step, in_text_step, step, finish, and_then, reads}
use Rattle.lg_json.specs.Reading.Mode.{in_text, in_word, in_digits, after_minus, after_zero}
use Rattle.lg_json.specs.Grammar.{signed}
use Rattle.lg_json.specs.Tree.Tree.{whole}
use Rattle.lg_json.specs.Fault.{EndsNumber}
use Rattle.lg_json.specs.Tokens.{Skips, TextEnds, begins, DigitsTo, IsDigits, AfterSign}
use Rattle.lg_json.specs.Texts.{IsPlain, Spelled, StandsSome, TextMoves}
use Rattle.lg_json.specs.declared.json.JsonFault.{JsonFault}
use Rattle.lg_json.specs.declared.json.JsonFault.TheVariants.{Syntax}
use Rattle.lg_json.specs.declared.state.TextMode.{TextMode}
use Rattle.lg_json.specs.declared.state.TextMode.TheVariants.{Character}
use Rattle.lg_containers.specs.declared.utf8.Utf8State.TheVariants.{Boundary}
use Rattle.lg_json.proofs.Reaches.{reads_one, reads_stop, reads_none, reads_at, begins_at, number_ends, number_part, number_wide, zero_ends, zero_then, zero_part, one_digit, begin_digit, minus_zero, minus_digit, digit_test}
use Rattle.lg_json.proofs.TextRuns.{TextRuns, runs_one, one_step, ne_test, ascii_step, text_reads}
use Rattle.lg_json.proofs.Texts.{spelled_none, spelled_push, TextGoesOn, text_goes_on}
use Rattle.lg_json.proofs.Utf8Texts.{spelled_utf8}
use Rattle.lg_json.proofs.Lists.{all_snoc}
use Rattle.lg_json.proofs.Sound.{closes_at}

-- the byte at a place, and what is after it
pub one_byte : (bytes : List ℕ) (place : ℕ) (fs : List Frame) (m : Mode) (s : State) → place < length bytes → step place fs m (get_or bytes place 0) ≡ Ok s → reads place (at fs m) (drop place bytes) ≡ reads (place + 1) s (drop (place + 1) bytes)
one_byte bytes place fs m s h e =
    ap (reads place (at fs m)) (drop_more bytes place 0 h) ∙ reads_one place fs m (get_or bytes place 0) (drop (place + 1) bytes) s e ∙ reads_at (suc place) (place + 1) s _ (omega arith)

pub stop_byte : (bytes : List ℕ) (place : ℕ) (fs : List Frame) (m : Mode) (f : JsonFault) → place < length bytes → step place fs m (get_or bytes place 0) ≡ Err f → reads place (at fs m) (drop place bytes) ≡ Err f
stop_byte bytes place fs m f h e = ap (reads place (at fs m)) (drop_more bytes place 0 h) ∙ reads_stop place fs m (get_or bytes place 0) (drop (place + 1) bytes) f e

pub no_byte : (bytes : List ℕ) (place : ℕ) (s : State) → length bytes ≤ place → reads place s (drop place bytes) ≡ finish place s.frames s.mode
no_byte bytes place s h = ap (reads place s) (drop_all place bytes h) ∙ reads_none place s

-- blanks
pub skips_none : (bytes : List ℕ) (place : ℕ) → place ≤ length bytes → Skips bytes place place
skips_none bytes place h = record { above = omega arith; within = h; same = λ fs m p. refl }

pub skips_one : (bytes : List ℕ) (place next : ℕ) → Skips bytes place next → next < length bytes → is_blank (get_or bytes next 0) ≡ true → Skips bytes place (next + 1)
skips_one bytes place next s h e = record {
  above = omega arith;
  within = omega arith;
  same = λ fs m p. s.same fs m p ∙ one_byte bytes next fs m (at fs m) h (p.over next (get_or bytes next 0) e);
}

-- a run of plain bytes, as far as a place
pub record Plain (bytes : List ℕ) (place next : ℕ) : Type 0 where
  pub above : place ≤ next
  pub within : next ≤ length bytes
  pub plain : AllByRecursion IsPlain (slice_range bytes place next)

pub plain_none : (bytes : List ℕ) (place : ℕ) → place ≤ length bytes → Plain bytes place place
plain_none bytes place h = let e : place - place ≡ 0 = omega arith in record { above = omega arith; within = h; plain = rw e tt }

slice_more : (bytes : List ℕ) (i j : ℕ) → i ≤ j → j < length bytes → slice_range bytes i (j + 1) ≡ slice_range bytes i j ++ get_or bytes j 0 ∷ []
slice_more bytes i j h k =
    let e : (j + 1) - i ≡ (j - i) + 1 = omega arith in
    let f : i + (j - i) ≡ j = omega arith in
    ap (λ n. take n (drop i bytes)) e ∙ take_more (drop i bytes) (j - i) 0 (omega (arith, length-drop i bytes)) ∙ ap (λ b. take (j - i) (drop i bytes) ++ b ∷ []) (get_or-drop i bytes (j - i) 0 ∙ ap (λ n. get_or bytes n 0) f)

pub plain_one : (bytes : List ℕ) (place next : ℕ) → Plain bytes place next → next < length bytes → IsPlain (get_or bytes next 0) → Plain bytes place (next + 1)
plain_one bytes place next p h q = record {
  above = omega arith;
  within = omega arith;
  plain = subst (AllByRecursion IsPlain) (sym (slice_more bytes place next p.above h)) (all_snoc IsPlain (slice_range bytes place next) (get_or bytes next 0) p.plain q);
}

-- plain bytes are their own text
plain_runs : (xs t : List ℕ) → AllByRecursion IsPlain xs → TextRuns t (Character Boundary) xs (t ++ xs) (Character Boundary)
plain_runs [] t h = (sym (append-nil t), refl)
plain_runs (x ∷ xs) t h =
    let p = h.0 in
    runs_one t (Character Boundary) x xs (t ++ x ∷ xs) (Character Boundary) (t ++ x ∷ [], Character Boundary) (ne_test x 34 p.2) (ascii_step t x p.0 p.1 p.3)
    (subst (λ (l : List ℕ). TextRuns (t ++ x ∷ []) (Character Boundary) xs l (Character Boundary)) (append_assoc t (x ∷ []) xs) (plain_runs xs (t ++ x ∷ []) h.1))

plain_spelled : (xs t inner : List ℕ) → AllByRecursion IsPlain xs → Spelled t inner → Spelled (t ++ xs) (inner ++ xs)
plain_spelled [] t inner h s = subst (λ (l : List ℕ). Spelled l (inner ++ [])) (sym (append-nil t)) (subst (Spelled t) (sym (append-nil inner)) s)
plain_spelled (x ∷ xs) t inner h s =
    let p = h.0 in
    let low : 32 ≤ x = p.0 in
    let high : x < 128 = p.1 in
    let e = encode_ascii x high in
    let q = spelled_push t inner (x ∷ []) x s (unescaped x (x ∷ []) (low_scalar x (omega arith)) low p.2 p.3 (sym e)) in
    subst (λ (l : List ℕ). Spelled l (inner ++ x ∷ xs)) (append_assoc t (x ∷ []) xs)
    (subst (λ (l : List ℕ). Spelled ((t ++ x ∷ []) ++ xs) l) (append_assoc inner (x ∷ []) xs)
    (plain_spelled xs (t ++ x ∷ []) (inner ++ x ∷ []) h.1 (subst (λ (l : List ℕ). Spelled (t ++ l) (inner ++ x ∷ [])) e q)))

pub plain_stands : (t xs : List ℕ) → AllByRecursion IsPlain xs → StandsSome t (Character Boundary) → StandsSome (t ++ xs) (Character Boundary)
plain_stands t xs h s = (s.0 ++ xs, plain_spelled xs t s.0 h s.1)

pub plain_moves : (bytes : List ℕ) (place next : ℕ) (t : List ℕ) (fs : List Frame) (role : Role) → Plain bytes place next → reads place (at fs (in_text role t (Character Boundary))) (drop place bytes) ≡ reads next (at fs (in_text role (t ++ slice_range bytes place next) (Character Boundary))) (drop next bytes)
plain_moves bytes place next t fs role p =
    let above : place ≤ next = p.above in
    let within : next ≤ length bytes = p.within in
    let same : place + (next - place) ≡ next = omega arith in
    let all : drop place bytes ≡ slice_range bytes place next ++ drop next bytes = sym (take-append-drop (next - place) (drop place bytes)) ∙ ap (λ (l : List ℕ). slice_range bytes place next ++ l) (drop-drop (next - place) place bytes ∙ ap (λ n. drop n bytes) same) in
    let long : length (slice_range bytes place next) ≡ next - place = length-take-le (next - place) (drop place bytes) (omega (arith, length-drop place bytes)) in
    ap (reads place (at fs (in_text role t (Character Boundary)))) all
    ∙ text_reads (slice_range bytes place next) (drop next bytes) place next fs role t (t ++ slice_range bytes place next) (Character Boundary) (Character Boundary) (plain_runs (slice_range bytes place next) t p.plain) (omega arith)

-- one byte of a text
pub step_moves : (bytes : List ℕ) (place : ℕ) (t u : List ℕ) (m k : TextMode) (fs : List Frame) (role : Role) → place < length bytes → closes m (get_or bytes place 0) ≡ false → text_step t m (get_or bytes place 0) ≡ Some (u, k)
    → reads place (at fs (in_text role t m)) (drop place bytes) ≡ reads (place + 1) (at fs (in_text role u k)) (drop (place + 1) bytes)
step_moves bytes place t u m k fs role h more e = one_byte bytes place fs (in_text role t m) (at fs (in_text role u k)) h (one_step place fs role t m (get_or bytes place 0) (u, k) more e)

pub step_stands : (t u : List ℕ) (m k : TextMode) (b : ℕ) → StandsSome t m → closes m b ≡ false → text_step t m b ≡ Some (u, k) → StandsSome u k
step_stands t u m k b s more e = (s.0 ++ b ∷ [], subst (TextGoesOn (s.0 ++ b ∷ [])) e (text_goes_on t s.0 m b s.1 more))

no_text_step : (place : ℕ) (fs : List Frame) (role : Role) (t : List ℕ) (m : TextMode) (b : ℕ) → closes m b ≡ false → text_step t m b ≡ None → step place fs (in_text role t m) b ≡ Err (Syntax place)
unfolding step
no_text_step place fs role t m b more e = cond-false (closes m b) _ _ more ∙ ap (in_text_step place fs role) e

pub step_stops : (bytes : List ℕ) (place : ℕ) (t : List ℕ) (m : TextMode) (fs : List Frame) (role : Role) → place < length bytes → closes m (get_or bytes place 0) ≡ false → text_step t m (get_or bytes place 0) ≡ None → reads place (at fs (in_text role t m)) (drop place bytes) ≡ Err (Syntax place)
step_stops bytes place t m fs role h more e = stop_byte bytes place fs (in_text role t m) (Syntax place) h (no_text_step place fs role t m (get_or bytes place 0) more e)

text_finish : (i : ℕ) (fs : List Frame) (role : Role) (t : List ℕ) (m : TextMode) → finish i fs (in_text role t m) ≡ Err (Syntax i)
unfolding finish
text_finish i fs role t m = refl

-- a text as far as a place
pub record TextSoFar (bytes : List ℕ) (place : ℕ) (t : List ℕ) (m : TextMode) (next : ℕ) : Type 0 where
  pub above : place ≤ next
  pub within : next ≤ length bytes
  pub stands : StandsSome t m
  pub same : (fs : List Frame) (role : Role) → reads place (at fs (in_text role [] (Character Boundary))) (drop place bytes) ≡ reads next (at fs (in_text role t m)) (drop next bytes)

pub text_starts : (bytes : List ℕ) (place : ℕ) → place ≤ length bytes → TextSoFar bytes place [] (Character Boundary) place
text_starts bytes place h = record { above = omega arith; within = h; stands = ([], spelled_none); same = λ fs role. refl }

pub text_plain : (bytes : List ℕ) (place next : ℕ) → Plain bytes place next → TextSoFar bytes place (slice_range bytes place next) (Character Boundary) next
text_plain bytes place next p = record { above = p.above; within = p.within; stands = plain_stands [] (slice_range bytes place next) p.plain ([], spelled_none); same = λ fs role. plain_moves bytes place next [] fs role p }

pub text_moves : (bytes : List ℕ) (place next later : ℕ) (t u : List ℕ) (m k : TextMode) → TextSoFar bytes place t m next → TextMoves bytes next t m u (Some (k, later)) → TextSoFar bytes place u k later
text_moves bytes place next later t u m k s h =
    let above : next < later = h.0 in
    let before : place ≤ next = s.above in
    record { above = omega arith; within = h.1; stands = h.2; same = λ fs role. s.same fs role ∙ h.3 fs role }

closing : (i : ℕ) (fs : List Frame) (role : Role) (t : List ℕ) (m : TextMode) (b : ℕ) → closes m b ≡ true → step i fs (in_text role t m) b ≡ end_text i fs role t
unfolding step
closing i fs role t m b e = cond-true (closes m b) _ _ e

pub text_ends : (bytes : List ℕ) (place quote : ℕ) (t : List ℕ) (m : TextMode) → TextSoFar bytes place t m quote → quote < length bytes → closes m (get_or bytes quote 0) ≡ true → TextEnds bytes place t quote
unfolding reads
text_ends bytes place quote t m s h e = record {
  above = s.above;
  within = h;
  same = λ fs role. s.same fs role ∙ ap (reads quote (at fs (in_text role t m))) (drop_more bytes quote 0 h) ∙ ap (λ r. and_then r (λ next. reads (suc quote) next (drop (quote + 1) bytes))) (closing quote fs role t m (get_or bytes quote 0) e);
}

pub text_utf8 : (bytes : List ℕ) (place quote b : ℕ) (t : List ℕ) (m : TextMode) → TextSoFar bytes place t m quote → closes m b ≡ true → IsUtf8 t
text_utf8 bytes place quote b t m s e = let c = closes_at m b e in let q = subst (StandsSome t) c.mode s.stands in spelled_utf8 t q.0 q.1

-- no quote came
pub text_open : (bytes : List ℕ) (place next : ℕ) (t : List ℕ) (m : TextMode) (fs : List Frame) (role : Role) → TextSoFar bytes place t m next → length bytes ≤ next → reads place (at fs (in_text role [] (Character Boundary))) (drop place bytes) ≡ Err (Syntax (length bytes))
text_open bytes place next t m fs role s h =
    let within : next ≤ length bytes = s.within in
    let same : next ≡ length bytes = omega arith in
    s.same fs role ∙ no_byte bytes next (at fs (in_text role t m)) h ∙ text_finish next fs role t m ∙ ap (λ i. Err (Syntax i)) same

pub run_moved : (bytes : List ℕ) (place next : ℕ) (t u : List ℕ) (m : TextMode) → Plain bytes place next → place < next → m ≡ Character Boundary → u ≡ t ++ slice_range bytes place next → StandsSome t m → TextMoves bytes place t m u (Some (m, next))
run_moved bytes place next t u m p above e f s =
    subst (λ k. TextMoves bytes place t k u (Some (k, next))) (sym e)
    (subst (λ (l : List ℕ). TextMoves bytes place t (Character Boundary) l (Some (Character Boundary, next))) (sym f)
    (above, p.within, plain_stands t (slice_range bytes place next) p.plain (subst (StandsSome t) e s), λ fs role. plain_moves bytes place next t fs role p))

pub step_moved : (bytes : List ℕ) (place : ℕ) (t u : List ℕ) (m k : TextMode) → place < length bytes → closes m (get_or bytes place 0) ≡ false → Some (u, k) ≡ text_step t m (get_or bytes place 0) → StandsSome t m → TextMoves bytes place t m u (Some (k, place + 1))
step_moved bytes place t u m k h more e s = (omega arith, omega arith, step_stands t u m k (get_or bytes place 0) s more (sym e), λ fs role. step_moves bytes place t u m k fs role h more (sym e))

-- a text that goes on no further
pub text_stops : (bytes : List ℕ) (place next : ℕ) (t : List ℕ) (m : TextMode) → TextSoFar bytes place t m next → next < length bytes → closes m (get_or bytes next 0) ≡ false → text_step t m (get_or bytes next 0) ≡ None → (fs : List Frame) (role : Role) → reads place (at fs (in_text role [] (Character Boundary))) (drop place bytes) ≡ Err (Syntax next)
text_stops bytes place next t m s h more e fs role = s.same fs role ∙ step_stops bytes next t m fs role h more e

-- digits, as far as a place
pub record DigitsSoFar (bytes : List ℕ) (start n m end : ℕ) : Type 0 where
  pub above : start ≤ end
  pub within : end ≤ length bytes
  pub same : (fs : List Frame) (negative : Bool) (p : ℕ) → reads start (at fs (in_digits negative n p)) (drop start bytes) ≡ reads end (at fs (in_digits negative m p)) (drop end bytes)

pub digits_none : (bytes : List ℕ) (start n : ℕ) → start ≤ length bytes → DigitsSoFar bytes start n n start
digits_none bytes start n h = record { above = omega arith; within = h; same = λ fs negative p. refl }

pub digits_one : (bytes : List ℕ) (start n m k end : ℕ) → DigitsSoFar bytes start n m end → end < length bytes → is_digit (get_or bytes end 0) ≡ true → k ≡ capped (m * 10 + (get_or bytes end 0 - 48)) → DigitsSoFar bytes start n k (end + 1)
digits_one bytes start n m k end s h e f =
    let above : start ≤ end = s.above in
    record {
      above = omega arith;
      within = omega arith;
      same = λ fs negative p. s.same fs negative p ∙ one_byte bytes end fs (in_digits negative m p) _ h (one_digit end fs negative m p (get_or bytes end 0) e) ∙ ap (λ j. reads (end + 1) (at fs (in_digits negative j p)) (drop (end + 1) bytes)) (sym f);
    }

pub digits_end : (bytes : List ℕ) (start n m end : ℕ) → DigitsSoFar bytes start n m end → (end < length bytes → is_digit (get_or bytes end 0) ≡ false) → DigitsTo bytes start n m end
digits_end bytes start n m end s h = record { above = s.above; within = s.within; stops = h; same = s.same }

-- what is left is empty, or begins with the byte at the place
ends_at : (bytes : List ℕ) (end : ℕ) → end ≤ length bytes → (end < length bytes → is_digit (get_or bytes end 0) ≡ false) → (end < length bytes → begins_part (get_or bytes end 0) ≡ false) → EndsNumber (drop end bytes)
ends_at bytes end within no_digit no_part = elim (cases_lt end (length bytes)) [
  | inl h ↦ subst EndsNumber (sym (drop_more bytes end 0 h)) (no_digit h, no_part h)
  | inr h ↦ subst EndsNumber (sym (drop_all end bytes h)) tt
]

-- the number after its first digits
pub digits_stand : (bytes : List ℕ) (place at_digits : ℕ) (negative : Bool) (n m end : ℕ) → ((fs : List Frame) → begins place fs (drop place bytes) ≡ reads at_digits (at fs (in_digits negative n place)) (drop at_digits bytes)) → DigitsTo bytes at_digits n m end → IsDigits bytes place negative m end
digits_stand bytes place at_digits negative n m end h d = record {
  ends = λ fs no_part ok. h fs ∙ d.same fs negative place ∙ number_ends (drop end bytes) end fs negative m place (ends_at bytes end d.within d.stops no_part) ok;
  part = λ fs k e. h fs ∙ d.same fs negative place ∙ ap (reads end (at fs (in_digits negative m place))) (drop_more bytes end 0 k) ∙ number_part (get_or bytes end 0) (drop (end + 1) bytes) end fs negative m place e;
  wide = λ fs no_part w. h fs ∙ d.same fs negative place ∙ number_wide (drop end bytes) end fs negative m place (ends_at bytes end d.within d.stops no_part) w;
}

-- the number 0
zero_done : (bytes : List ℕ) (end : ℕ) (fs : List Frame) (negative : Bool) (p : ℕ) → end ≤ length bytes → (end < length bytes → begins_part (get_or bytes end 0) ≡ false) → reads end (at fs (after_zero negative p)) (drop end bytes) ≡ reads end (complete fs (whole (signed negative 0))) (drop end bytes)
zero_done bytes end fs negative p within no_part = elim (cases_lt end (length bytes)) [
  | inl h ↦ ap (reads end (at fs (after_zero negative p))) (drop_more bytes end 0 h) ∙ zero_then (get_or bytes end 0) (drop (end + 1) bytes) end fs negative p (no_part h) ∙ sym (ap (reads end (complete fs (whole (signed negative 0)))) (drop_more bytes end 0 h))
  | inr h ↦ ap (reads end (at fs (after_zero negative p))) (drop_all end bytes h) ∙ zero_ends [] end fs negative p tt ∙ sym (ap (reads end (complete fs (whole (signed negative 0)))) (drop_all end bytes h))
]

zero_fits : (negative : Bool) → fits negative 0 ≡ false → ⊥
zero_fits true w = cc
zero_fits false w = cc

pub zero_stands : (bytes : List ℕ) (place : ℕ) (negative : Bool) (end : ℕ) → end ≤ length bytes → ((fs : List Frame) → begins place fs (drop place bytes) ≡ reads end (at fs (after_zero negative place)) (drop end bytes)) → IsDigits bytes place negative 0 end
zero_stands bytes place negative end within h = record {
  ends = λ fs no_part ok. h fs ∙ zero_done bytes end fs negative place within no_part;
  part = λ fs k e. h fs ∙ ap (reads end (at fs (after_zero negative place))) (drop_more bytes end 0 k) ∙ zero_part (get_or bytes end 0) (drop (end + 1) bytes) end fs negative place e;
  wide = λ fs no_part w. absurd (zero_fits negative w);
}

-- a number from its first byte on
pub begins_byte : (bytes : List ℕ) (place : ℕ) (fs : List Frame) (s : State) → place < length bytes → begin place fs (get_or bytes place 0) ≡ Ok s → begins place fs (drop place bytes) ≡ reads (place + 1) s (drop (place + 1) bytes)
begins_byte bytes place fs s h e = ap (begins place fs) (drop_more bytes place 0 h) ∙ begins_at place fs (get_or bytes place 0) (drop (place + 1) bytes) s e ∙ reads_at (suc place) (place + 1) s _ (omega arith)

pub begins_stop : (bytes : List ℕ) (place : ℕ) (fs : List Frame) (f : JsonFault) → place < length bytes → begin place fs (get_or bytes place 0) ≡ Err f → begins place fs (drop place bytes) ≡ Err f
begins_stop bytes place fs f h e = ap (begins place fs) (drop_more bytes place 0 h) ∙ ap (λ r. and_then r (λ next. reads (suc place) next (drop (place + 1) bytes))) e

begin_minus : (i : ℕ) (fs : List Frame) (b : ℕ) → b ≡ 45 → begin i fs b ≡ Ok (at fs (after_minus i))
unfolding begin
begin_minus i fs b e = rw e refl

begin_zero : (i : ℕ) (fs : List Frame) (b : ℕ) → b ≡ 48 → begin i fs b ≡ Ok (at fs (after_zero false i))
unfolding begin
begin_zero i fs b e = rw e refl

minus_end : (i : ℕ) (fs : List Frame) (p : ℕ) → finish i fs (after_minus p) ≡ Err (Syntax i)
unfolding finish
minus_end i fs p = refl

minus_other : (i : ℕ) (fs : List Frame) (p b : ℕ) → is_digit b ≡ false → step i fs (after_minus p) b ≡ Err (Syntax i)
unfolding step
minus_other i fs p b e = cond-false (b == 48) _ _ (ne_eqb b 48 (λ f. true≢false (sym (ap is_digit f) ∙ e))) ∙ cond-false (is_digit b) _ _ e

minus_is_zero : (i : ℕ) (fs : List Frame) (p b : ℕ) → b ≡ 48 → step i fs (after_minus p) b ≡ Ok (at fs (after_zero true p))
minus_is_zero i fs p b e = rw e (minus_zero i fs p)

pub after_minus_sign : (bytes : List ℕ) (place : ℕ) → place < length bytes → get_or bytes place 0 ≡ 45 → AfterSign bytes place true (place + 1)
after_minus_sign bytes place h e =
    let to : (fs : List Frame) → begins place fs (drop place bytes) ≡ reads (place + 1) (at fs (after_minus place)) (drop (place + 1) bytes) = λ fs. begins_byte bytes place fs (at fs (after_minus place)) h (begin_minus place fs _ e) in
    record {
      ended = λ fs k. to fs ∙ no_byte bytes (place + 1) (at fs (after_minus place)) (omega arith) ∙ minus_end (place + 1) fs place;
      other = λ fs k w. to fs ∙ stop_byte bytes (place + 1) fs (after_minus place) (Syntax (place + 1)) k (minus_other (place + 1) fs place _ w);
      zero = λ fs k z. to fs ∙ one_byte bytes (place + 1) fs (after_minus place) _ k (minus_is_zero (place + 1) fs place _ z);
      digit = λ fs k low high. to fs ∙ one_byte bytes (place + 1) fs (after_minus place) _ k (minus_digit (place + 1) fs place _ low high);
    }

pub no_sign : (bytes : List ℕ) (place : ℕ) → place < length bytes → (48 ≤ get_or bytes place 0) × (get_or bytes place 0 ≤ 57) → AfterSign bytes place false place
no_sign bytes place h d = record {
  ended = λ fs k. absurd (omega arith);
  other = λ fs k w. absurd (true≢false (sym (digit_test (get_or bytes place 0) d) ∙ w));
  zero = λ fs k z. begins_byte bytes place fs _ h (begin_zero place fs _ z);
  digit = λ fs k low high. begins_byte bytes place fs _ h (begin_digit place fs _ low high);
}

-- in a word, of which the bytes are left
abbrev pub word_state : List Frame → List ℕ → Tree → State
word_state fs [] t = complete fs t
word_state fs (c ∷ cs) t = at fs (in_word (c ∷ cs) t)

-- a word, as far as a place
pub record WordSoFar (bytes : List ℕ) (place : ℕ) (rest : List ℕ) (n end : ℕ) : Type 0 where
  pub above : place ≤ end
  pub within : end ≤ length bytes
  pub same : (fs : List Frame) (t : Tree) → reads place (word_state fs rest t) (drop place bytes) ≡ reads end (word_state fs (drop n rest) t) (drop end bytes)

pub word_none : (bytes : List ℕ) (place : ℕ) (rest : List ℕ) → place ≤ length bytes → WordSoFar bytes place rest 0 place
word_none bytes place rest h = record { above = omega arith; within = h; same = λ fs t. refl }

word_byte : (i : ℕ) (fs : List Frame) (c : ℕ) (cs : List ℕ) (t : Tree) (b : ℕ) → b ≡ c → step i fs (in_word (c ∷ cs) t) b ≡ Ok (word_state fs cs t)
unfolding step
word_byte i fs c [] t b e = cond-true (b == c) _ _ (eq-eqb b c e)
word_byte i fs c (d ∷ ds) t b e = cond-true (b == c) _ _ (eq-eqb b c e)

word_other : (i : ℕ) (fs : List Frame) (c : ℕ) (cs : List ℕ) (t : Tree) (b : ℕ) → (b ≡ c → ⊥) → step i fs (in_word (c ∷ cs) t) b ≡ Err (Syntax i)
unfolding step
word_other i fs c [] t b e = cond-false (b == c) _ _ (ne_eqb b c e)
word_other i fs c (d ∷ ds) t b e = cond-false (b == c) _ _ (ne_eqb b c e)

word_finish : (i : ℕ) (fs : List Frame) (c : ℕ) (cs : List ℕ) (t : Tree) → finish i fs (in_word (c ∷ cs) t) ≡ Err (Syntax i)
unfolding finish
word_finish i fs c cs t = refl

pub word_one : (bytes : List ℕ) (place : ℕ) (rest : List ℕ) (n end : ℕ) → WordSoFar bytes place rest n end → n < length rest → (end ≡ length bytes → ⊥) → get_or bytes end 0 ≡ get_or rest n 0 → WordSoFar bytes place rest (n + 1) (end + 1)
word_one bytes place rest n end s k more e =
    let above : place ≤ end = s.above in
    let within : end ≤ length bytes = s.within in
    let h : end < length bytes = omega arith in
    record {
      above = omega arith;
      within = omega arith;
      same = λ fs t. s.same fs t ∙ ap (λ (l : List ℕ). reads end (word_state fs l t) (drop end bytes)) (drop_more rest n 0 k)
          ∙ one_byte bytes end fs (in_word (get_or rest n 0 ∷ drop (n + 1) rest) t) _ h (word_byte end fs (get_or rest n 0) (drop (n + 1) rest) t (get_or bytes end 0) e);
    }

-- a word that goes on otherwise, or not at all
pub word_stops : (bytes : List ℕ) (place : ℕ) (rest : List ℕ) (n end : ℕ) → WordSoFar bytes place rest n end → n < length rest → end < length bytes → (get_or bytes end 0 ≡ get_or rest n 0 → ⊥) → (fs : List Frame) (t : Tree) → reads place (word_state fs rest t) (drop place bytes) ≡ Err (Syntax end)
word_stops bytes place rest n end s k h e fs t =
    s.same fs t ∙ ap (λ (l : List ℕ). reads end (word_state fs l t) (drop end bytes)) (drop_more rest n 0 k)
    ∙ stop_byte bytes end fs (in_word (get_or rest n 0 ∷ drop (n + 1) rest) t) (Syntax end) h (word_other end fs (get_or rest n 0) (drop (n + 1) rest) t (get_or bytes end 0) e)

pub word_cut : (bytes : List ℕ) (place : ℕ) (rest : List ℕ) (n end : ℕ) → WordSoFar bytes place rest n end → n < length rest → end ≡ length bytes → (fs : List Frame) (t : Tree) → reads place (word_state fs rest t) (drop place bytes) ≡ Err (Syntax end)
word_cut bytes place rest n end s k h fs t =
    s.same fs t ∙ ap (λ (l : List ℕ). reads end (word_state fs l t) (drop end bytes)) (drop_more rest n 0 k)
    ∙ no_byte bytes end (at fs (in_word (get_or rest n 0 ∷ drop (n + 1) rest) t)) (omega arith) ∙ word_finish end fs (get_or rest n 0) (drop (n + 1) rest) t

pub word_done : (bytes : List ℕ) (place : ℕ) (rest : List ℕ) (n end : ℕ) → WordSoFar bytes place rest n end → length rest ≤ n → (fs : List Frame) (t : Tree) → reads place (word_state fs rest t) (drop place bytes) ≡ reads end (complete fs t) (drop end bytes)
word_done bytes place rest n end s k fs t = s.same fs t ∙ ap (λ (l : List ℕ). reads end (word_state fs l t) (drop end bytes)) (drop_all n rest k)

-- the same with the mode of a word that has bytes left
pub in_word_from : (fs : List Frame) (rest : List ℕ) (t : Tree) → 0 < length rest → word_state fs rest t ≡ at fs (in_word rest t)
in_word_from fs [] t h = absurd (omega arith)
in_word_from fs (c ∷ cs) t h = refl

as_word : (bytes : List ℕ) (place : ℕ) (rest : List ℕ) (r : Result Tree JsonFault) (fs : List Frame) (t : Tree) → 0 < length rest → reads place (word_state fs rest t) (drop place bytes) ≡ r → reads place (at fs (in_word rest t)) (drop place bytes) ≡ r
as_word bytes place rest r fs t some e = ap (λ w. reads place w (drop place bytes)) (sym (in_word_from fs rest t some)) ∙ e

pub word_cut_in : (bytes : List ℕ) (place : ℕ) (rest : List ℕ) (n end : ℕ) → 0 < length rest → WordSoFar bytes place rest n end → n < length rest → end ≡ length bytes → (fs : List Frame) (t : Tree) → reads place (at fs (in_word rest t)) (drop place bytes) ≡ Err (Syntax end)
word_cut_in bytes place rest n end some s k h fs t = as_word bytes place rest _ fs t some (word_cut bytes place rest n end s k h fs t)

pub word_stops_in : (bytes : List ℕ) (place : ℕ) (rest : List ℕ) (n end : ℕ) → 0 < length rest → WordSoFar bytes place rest n end → n < length rest → (end ≡ length bytes → ⊥) → (get_or bytes end 0 ≡ get_or rest n 0 → ⊥) → (fs : List Frame) (t : Tree) → reads place (at fs (in_word rest t)) (drop place bytes) ≡ Err (Syntax end)
word_stops_in bytes place rest n end some s k more e fs t =
    let within : end ≤ length bytes = s.within in
    as_word bytes place rest _ fs t some (word_stops bytes place rest n end s k (omega arith) e fs t)

pub word_done_in : (bytes : List ℕ) (place : ℕ) (rest : List ℕ) (n end : ℕ) → 0 < length rest → WordSoFar bytes place rest n end → length rest ≤ n → (fs : List Frame) (t : Tree) → reads place (at fs (in_word rest t)) (drop place bytes) ≡ reads end (complete fs t) (drop end bytes)
word_done_in bytes place rest n end some s k fs t = as_word bytes place rest _ fs t some (word_done bytes place rest n end s k fs t)
