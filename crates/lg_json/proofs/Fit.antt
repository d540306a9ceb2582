-- What the reading keeps open fits, and so does each value that it completes.
use Rattle.std.proofs.Common.{◌≡◌, ℕ, zero, suc, ◌-◌, ◌^◌, ◌<◌, ◌≤◌, Bool, true, false, nat_lt, ◌==◌, List, [], ◌∷◌, length, Option, Some, None, Result, Ok, Err, IfOk, refl, sym, subst, arith, ltb-true}
use Rattle.std.proofs.lemmas.Bool.{cond_both, leb-true}
use Rattle.lg_json.specs.Tree.{Tree, Entry, trees, entries}
use Rattle.lg_json.specs.Tree.Tree.{whole, text, list, members}
use Rattle.lg_json.specs.Grammar.{signed, InRange, Fits, AllFit, MembersFit}
use Rattle.lg_json.specs.Reading.{Frame, Mode, State, at, is_blank, is_digit, with_value, complete, begin, follow_on, follow, after, fits, begins_part, end_number, closes, has_name, with_name, end_text, text_step, in_text_step, TextState, word_step, close_empty, step, whole_text, finish, and_then, reads, reading}
use Rattle.lg_json.specs.Reading.Frame.{in_list, in_object, named}
use Rattle.lg_json.specs.Reading.Mode.{before_value, before_first, before_first_name, before_name, before_colon, in_word, after_minus, after_zero, in_digits, in_text, after_item, ended}
use Rattle.lg_json.specs.declared.json.JsonFault.{JsonFault}
use Rattle.lg_json.specs.Reading.{Role}
use Rattle.lg_json.proofs.Names.{all_fit_push, members_fit_push}

abbrev pub FramesFit : List Frame → Type 0
FramesFit [] = Unit {0}
FramesFit (in_list ts ∷ fs) = (length fs < 64) × AllFit (64 - suc (length fs)) (trees ts) × FramesFit fs
FramesFit (in_object ms ∷ fs) = (length fs < 64) × MembersFit (64 - suc (length fs)) (entries ms) × FramesFit fs
FramesFit (named ms name ∷ fs) = (length fs < 64) × MembersFit (64 - suc (length fs)) (entries ms) × (has_name name ms ≡ false) × FramesFit fs

abbrev pub ModeFits : Mode → Type 0
ModeFits (in_word rest t) = (room : ℕ) → Fits room t
ModeFits (ended t) = Fits 64 t
ModeFits _ = Unit {0}

abbrev pub StateFits : State → Type 0
StateFits s = FramesFit s.frames × ModeFits s.mode

abbrev Fitting : Result State JsonFault → Type 0
Fitting r = IfOk r StateFits

less : (n : ℕ) → (64 - n) - 1 ≡ 64 - suc n
less n = omega arith

pub complete_fits : (fs : List Frame) (t : Tree) → FramesFit fs → Fits (64 - length fs) t → StateFits (complete fs t)
complete_fits [] t h f = (tt, f)
complete_fits (in_list ts ∷ fs) t h f = ((h.0, all_fit_push _ ts t h.1 f, h.2), tt)
complete_fits (in_object ms ∷ fs) t h f = (h, tt)
complete_fits (named ms name ∷ fs) t h f = ((h.0, members_fit_push _ ms name t h.1 h.2 f, h.3), tt)

list_fits : (ts : List Tree) (fs : List Frame) → FramesFit (in_list ts ∷ fs) → Fits (64 - length fs) (list (trees ts))
list_fits ts fs h = let below : length fs < 64 = h.0 in (omega arith, subst (λ r. AllFit r (trees ts)) (sym (less (length fs))) h.1)

object_fits : (ms : List Entry) (fs : List Frame) → FramesFit (in_object ms ∷ fs) → Fits (64 - length fs) (members (entries ms))
object_fits ms fs h = let below : length fs < 64 = h.0 in (omega arith, subst (λ r. MembersFit r (entries ms)) (sym (less (length fs))) h.1)

pub fits_in_range : (negative : Bool) (n : ℕ) → fits negative n ≡ true → InRange (signed negative n)
fits_in_range false n e = ltb-true n (2 ^ 127) e
fits_in_range true zero e = omega arith
fits_in_range true (suc k) e = let h : suc k ≤ 2 ^ 127 = leb-true (suc k) (2 ^ 127) e in omega arith

begin_fits : (i : ℕ) (fs : List Frame) (b : ℕ) → FramesFit fs → Fitting (begin i fs b)
unfolding begin
begin_fits i fs b h =
    cond_both (b == 34) _ _ Fitting (λ _. (h, tt))
    (λ _. cond_both (b == 91) _ _ Fitting (λ _. cond_both (nat_lt (length fs) 64) _ _ Fitting (λ e. ((ltb-true _ 64 e, tt, h), tt)) (λ _. tt))
    (λ _. cond_both (b == 123) _ _ Fitting (λ _. cond_both (nat_lt (length fs) 64) _ _ Fitting (λ e. ((ltb-true _ 64 e, tt, h), tt)) (λ _. tt))
    (λ _. cond_both (b == 110) _ _ Fitting (λ _. (h, λ room. tt))
    (λ _. cond_both (b == 116) _ _ Fitting (λ _. (h, λ room. tt))
    (λ _. cond_both (b == 102) _ _ Fitting (λ _. (h, λ room. tt))
    (λ _. cond_both (b == 45) _ _ Fitting (λ _. (h, tt))
    (λ _. cond_both (b == 48) _ _ Fitting (λ _. (h, tt))
    (λ _. cond_both (is_digit b) _ _ Fitting (λ _. (h, tt)) (λ _. tt)))))))))

follow_on_fits : (i : ℕ) (fs : List Frame) (b : ℕ) → FramesFit fs → Fitting (follow_on i fs b)
follow_on_fits i [] b h = tt
follow_on_fits i (in_list ts ∷ fs) b h =
    cond_both (b == 44) _ _ Fitting (λ _. (h, tt)) (λ _. cond_both (b == 93) _ _ Fitting (λ _. complete_fits fs (list (trees ts)) h.2 (list_fits ts fs h)) (λ _. tt))
follow_on_fits i (in_object ms ∷ fs) b h =
    cond_both (b == 44) _ _ Fitting (λ _. (h, tt)) (λ _. cond_both (b == 125) _ _ Fitting (λ _. complete_fits fs (members (entries ms)) h.2 (object_fits ms fs h)) (λ _. tt))
follow_on_fits i (named ms name ∷ fs) b h = tt

follow_fits : (i : ℕ) (fs : List Frame) (b : ℕ) → FramesFit fs → Fitting (follow i fs b)
follow_fits i fs b h = cond_both (is_blank b) _ _ Fitting (λ _. (h, tt)) (λ _. follow_on_fits i fs b h)

after_fits : (i : ℕ) (fs : List Frame) (t : Tree) (b : ℕ) → FramesFit fs → Fits (64 - length fs) t → Fitting (after i fs t b)
unfolding after
after_fits i [] t b h f = cond_both (is_blank b) _ _ Fitting (λ _. (tt, f)) (λ _. tt)
after_fits i (g ∷ fs) t b h f = follow_fits i (with_value g t ∷ fs) b (complete_fits (g ∷ fs) t h f).0

end_fits : (i : ℕ) (fs : List Frame) (negative : Bool) (n p b : ℕ) → FramesFit fs → Fitting (end_number i fs negative n p b)
unfolding end_number
end_fits i fs negative n p b h =
    cond_both (begins_part b) _ _ Fitting (λ _. tt)
    (λ _. cond_both (fits negative n) _ _ Fitting (λ e. after_fits i fs (whole (signed negative n)) b h (fits_in_range negative n e)) (λ _. tt))

name_fits : (i q : ℕ) (fs : List Frame) (name : List ℕ) → FramesFit fs → Fitting (with_name i q fs name)
name_fits i q [] name h = tt
name_fits i q (in_list ts ∷ fs) name h = tt
name_fits i q (named ms other ∷ fs) name h = tt
name_fits i q (in_object ms ∷ fs) name h = cond_both (has_name name ms) _ _ Fitting (λ _. tt) (λ e. ((h.0, h.1, e, h.2), tt))

text_fits : (i : ℕ) (fs : List Frame) (role : Role) (t : List ℕ) → FramesFit fs → Fitting (end_text i fs role t)
text_fits i fs Role.Value t h = complete_fits fs (text t) h tt
text_fits i fs (Role.Name q) t h = name_fits i q fs t h

in_text_fits : (i : ℕ) (fs : List Frame) (role : Role) (o : Option TextState) → FramesFit fs → Fitting (in_text_step i fs role o)
in_text_fits i fs role None h = tt
in_text_fits i fs role (Some s) h = (h, tt)

word_fits : (i : ℕ) (fs : List Frame) (rest : List ℕ) (t : Tree) (b : ℕ) → FramesFit fs → ((room : ℕ) → Fits room t) → Fitting (word_step i fs rest t b)
word_fits i fs [] t b h f = tt
word_fits i fs (c ∷ []) t b h f = cond_both (b == c) _ _ Fitting (λ _. complete_fits fs t h (f _)) (λ _. tt)
word_fits i fs (c ∷ d ∷ ds) t b h f = cond_both (b == c) _ _ Fitting (λ _. (h, f)) (λ _. tt)

below_fits : (f : Frame) (fs : List Frame) → FramesFit (f ∷ fs) → (length fs < 64) × FramesFit fs
below_fits (in_list ts) fs h = (h.0, h.2)
below_fits (in_object ms) fs h = (h.0, h.2)
below_fits (named ms name) fs h = (h.0, h.3)

empty_fits : (i : ℕ) (fs : List Frame) (t : Tree) → FramesFit fs → ((room : ℕ) → 0 < room → Fits room t) → Fitting (close_empty i fs t)
empty_fits i [] t h f = tt
empty_fits i (g ∷ fs) t h f = let p = below_fits g fs h in let below : length fs < 64 = p.0 in complete_fits fs t p.1 (f (64 - length fs) (omega arith))

pub step_fits : (i : ℕ) (fs : List Frame) (m : Mode) (b : ℕ) → FramesFit fs → ModeFits m → Fitting (step i fs m b)
unfolding step
step_fits i fs before_value b h f = cond_both (is_blank b) _ _ Fitting (λ _. (h, tt)) (λ _. begin_fits i fs b h)
step_fits i fs before_first b h f =
    cond_both (is_blank b) _ _ Fitting (λ _. (h, tt))
    (λ _. cond_both (b == 93) _ _ Fitting (λ _. empty_fits i fs (list (trees [])) h (λ room some. (some, tt))) (λ _. begin_fits i fs b h))
step_fits i fs before_first_name b h f =
    cond_both (is_blank b) _ _ Fitting (λ _. (h, tt))
    (λ _. cond_both (b == 34) _ _ Fitting (λ _. (h, tt))
    (λ _. cond_both (b == 125) _ _ Fitting (λ _. empty_fits i fs (members (entries [])) h (λ room some. (some, tt))) (λ _. tt)))
step_fits i fs before_name b h f = cond_both (is_blank b) _ _ Fitting (λ _. (h, tt)) (λ _. cond_both (b == 34) _ _ Fitting (λ _. (h, tt)) (λ _. tt))
step_fits i fs before_colon b h f = cond_both (is_blank b) _ _ Fitting (λ _. (h, tt)) (λ _. cond_both (b == 58) _ _ Fitting (λ _. (h, tt)) (λ _. tt))
step_fits i fs (in_word rest t) b h f = word_fits i fs rest t b h f
step_fits i fs (after_minus p) b h f = cond_both (b == 48) _ _ Fitting (λ _. (h, tt)) (λ _. cond_both (is_digit b) _ _ Fitting (λ _. (h, tt)) (λ _. tt))
step_fits i fs (after_zero negative p) b h f = end_fits i fs negative 0 p b h
step_fits i fs (in_digits negative n p) b h f = cond_both (is_digit b) _ _ Fitting (λ _. (h, tt)) (λ _. end_fits i fs negative n p b h)
step_fits i fs (in_text role t m) b h f = cond_both (closes m b) _ _ Fitting (λ _. text_fits i fs role t h) (λ _. in_text_fits i fs role (text_step t m b) h)
step_fits i fs after_item b h f = follow_fits i fs b h
step_fits i fs (ended t) b h f = cond_both (is_blank b) _ _ Fitting (λ _. (h, f)) (λ _. tt)

abbrev pub FitsAs : Result Tree JsonFault → Type 0
FitsAs r = IfOk r (Fits 64)

whole_fits : (i : ℕ) (fs : List Frame) (t : Tree) → ((room : ℕ) → Fits room t) → FitsAs (whole_text i fs t)
whole_fits i [] t f = f 64
whole_fits i (g ∷ fs) t f = tt

pub finish_fits : (i : ℕ) (fs : List Frame) (m : Mode) → ModeFits m → FitsAs (finish i fs m)
unfolding finish
finish_fits i fs (after_zero negative p) f = whole_fits i fs (whole (signed negative 0)) (λ room. fits_in_range negative 0 (zero_fits negative))
  where
    zero_fits : (negative : Bool) → fits negative 0 ≡ true
    zero_fits true = refl
    zero_fits false = refl
finish_fits i fs (in_digits negative n p) f = cond_both (fits negative n) _ _ FitsAs (λ e. whole_fits i fs (whole (signed negative n)) (λ room. fits_in_range negative n e)) (λ _. tt)
finish_fits i fs (ended t) f = f
finish_fits i fs before_value f = tt
finish_fits i fs before_first f = tt
finish_fits i fs before_first_name f = tt
finish_fits i fs before_name f = tt
finish_fits i fs before_colon f = tt
finish_fits i fs (in_word rest t) f = tt
finish_fits i fs (after_minus p) f = tt
finish_fits i fs (in_text role t m) f = tt
finish_fits i fs after_item f = tt

pub reads_fits : (bytes : List ℕ) (i : ℕ) (s : State) → StateFits s → FitsAs (reads i s bytes)
unfolding reads
reads_fits [] i s h = finish_fits i s.frames s.mode h.1
reads_fits (b ∷ bs) i s h = go (step i s.frames s.mode b) (step_fits i s.frames s.mode b h.0 h.1) (reads_fits bs (suc i))
  where
    go : (r : Result State JsonFault) → Fitting r → ((next : State) → StateFits next → FitsAs (reads (suc i) next bs)) → FitsAs (and_then r (λ next. reads (suc i) next bs))
    go (Ok next) k ih = ih next k
    go (Err f) k ih = tt

pub reading_fits : (bytes : List ℕ) → FitsAs (reading bytes)
unfolding reading
reading_fits bytes = reads_fits bytes 0 (at [] before_value) (tt, tt)
