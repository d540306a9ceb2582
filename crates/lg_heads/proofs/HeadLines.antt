-- The lines of a head of the grammar: the request line and its fields, each ended by LF, and an empty line at the end.
use Rattle.std.proofs.Common.{◌≡◌, ℕ, zero, suc, ◌+◌, ◌≤◌, Bool, true, false, cond, ◌==◌, ◌||◌, List, [], ◌∷◌, ◌++◌, length, fold, flat_map, refl, sym, ap, ◌∙◌, subst, arith, append_assoc}
use Rattle.std.proofs.lemmas.List.Sums.{fold-append, AllPass-from_list_all}
use Rattle.std.specs.List.{list_all}
use Rattle.std.proofs.lemmas.List.Elements.{All-head, All-tail, All-append, All-cons, All-weaker}
use Rattle.std.proofs.lemmas.Bool.{ne_eqb, false≢true}
use Rattle.std.specs.Prelude.{All, not}
use Rattle.httparse.specs.Grammar.{is_token_byte, is_uri_byte, is_value_byte, IsToken, LineEnd, crlf, lf, print_end, print_blank, print_version, Field, IsField, print_field, RequestHead, IsRequestHead, print_request}
use Rattle.httparse.proofs.PieceLemmas.{token_is_no_newline}
use Rattle.httparse.proofs.GrammarLemmas.{cons-append}
use Rattle.lg_heads.specs.Lines.{Lines, line_step, no_lines, lines_of}

-- no line with text, or one that isn't ended, behind so many that are
abbrev pub between : ℕ → Lines
between n = record { has_text = false; ended = n }

abbrev pub inside : ℕ → Lines
inside n = record { has_text = true; ended = n }

-- a byte that ends no line
abbrev pub IsInLine : ℕ → Type 0
IsInLine b = (b == 10) ≡ false

or_false : (a b : Bool) → (a || b) ≡ false → (a ≡ false) × (b ≡ false)
or_false true b h = absurd (false≢true (sym h))
or_false false b h = (refl, h)

-- ---- counts only grow

step_grows : (l : Lines) (b : ℕ) → l.ended ≤ (line_step l b).ended
step_grows l b = by_test (b == 10) l.has_text
  where
    by_test : (t u : Bool) → l.ended ≤ (cond {A = Lines} t (record { has_text = false; ended = cond u (l.ended + 1) l.ended }) (record { has_text = l.has_text || not (b == 13); ended = l.ended })).ended
    by_test true true = omega arith
    by_test true false = omega arith
    by_test false u = omega arith

pub ended_grows : (l : Lines) (bytes : List ℕ) → l.ended ≤ (fold line_step l bytes).ended
ended_grows l [] = omega arith
ended_grows l (b ∷ bytes) = omega (arith, step_grows l b, ended_grows (line_step l b) bytes)

-- ---- one line

stays_inside : (n : ℕ) (bytes : List ℕ) → All IsInLine bytes → fold line_step (inside n) bytes ≡ inside n
stays_inside n [] all = refl
stays_inside n (b ∷ bytes) all =
    ap (λ (t : Bool). fold line_step (cond t (between (n + 1)) (inside n)) bytes) (All-head IsInLine b bytes all)
    ∙ stays_inside n bytes (All-tail IsInLine b bytes all)

enters : (n b : ℕ) → (b == 13) ≡ false → (b == 10) ≡ false → line_step (between n) b ≡ inside n
enters n b not_cr not_lf =
    ap (λ (t : Bool). cond t (between n) (record { has_text = not (b == 13); ended = n })) not_lf
    ∙ ap (λ (t : Bool). record { has_text = not t; ended = n }) not_cr

ends_line : (n : ℕ) (e : LineEnd) → fold line_step (inside n) (print_end e) ≡ between (n + 1)
ends_line n crlf = refl
ends_line n lf = refl

ends_empty : (n : ℕ) (e : LineEnd) → fold line_step (between n) (print_end e) ≡ between n
ends_empty n crlf = refl
ends_empty n lf = refl

-- a line that begins with a token
pub token_line : (word more : List ℕ) (e : LineEnd) (n : ℕ) → IsToken word → All IsInLine more
    → fold line_step (between n) ((word ++ more) ++ print_end e) ≡ between (n + 1)
token_line [] more e n token all = absurd (omega (arith, token.0))
token_line (b ∷ word) more e n token all =
    let is_token : All (λ v. is_token_byte v ≡ true) (b ∷ word) = token.1 in
    let first = or_false _ _ (token_is_no_newline b (All-head (λ v. is_token_byte v ≡ true) b word is_token)) in
    let rest : All IsInLine word = All-weaker (λ v. is_token_byte v ≡ true) IsInLine (λ v t. (or_false _ _ (token_is_no_newline v t)).1) word (All-tail (λ v. is_token_byte v ≡ true) b word is_token) in
    fold-append line_step (between n) ((b ∷ word) ++ more) (print_end e)
    ∙ ap (λ (l : Lines). fold line_step (fold line_step l (word ++ more)) (print_end e)) (enters n b first.0 first.1)
    ∙ ap (λ (l : Lines). fold line_step l (print_end e)) (stays_inside n (word ++ more) (All-append IsInLine word more rest all))
    ∙ ends_line n e

-- ---- the parts of a head

blank_lines : (es : List LineEnd) → fold line_step no_lines (print_blank es) ≡ no_lines
blank_lines [] = refl
blank_lines (e ∷ es) =
    fold-append line_step no_lines (print_end e) (print_blank es)
    ∙ ap (λ (l : Lines). fold line_step l (print_blank es)) (ends_empty 0 e)
    ∙ blank_lines es

uri_in_line : (b : ℕ) → is_uri_byte b ≡ true → IsInLine b
uri_in_line b h = ne_eqb b 10 λ e. false≢true (subst (λ (v : ℕ). is_uri_byte v ≡ true) e h)

value_in_line : (b : ℕ) → is_value_byte b ≡ true → IsInLine b
value_in_line b h = ne_eqb b 10 λ e. false≢true (subst (λ (v : ℕ). is_value_byte v ≡ true) e h)

not_true : (t : Bool) → not t ≡ true → t ≡ false
not_true true h = absurd (false≢true h)
not_true false h = refl

no_feeds : (bytes : List ℕ) → list_all (λ b. not (b == 10)) bytes ≡ true → All IsInLine bytes
no_feeds bytes h =
    All-weaker (λ (b : ℕ). not (b == 10) ≡ true) IsInLine (λ b t. not_true (b == 10) t) bytes (AllPass-from_list_all (λ b. not (b == 10)) bytes h)

version_in_line : (minor : ℕ) → minor ≤ 1 → All IsInLine (print_version minor)
version_in_line zero h = no_feeds (print_version 0) refl
version_in_line (suc zero) h = no_feeds (print_version 1) refl
version_in_line (suc (suc k)) h = absurd (omega arith)

field_line : (f : Field) (n : ℕ) → IsField f → fold line_step (between n) (print_field f) ≡ between (n + 1)
field_line f n is =
    let colon_raw : All IsInLine (58 ∷ f.raw) = All-cons IsInLine 58 f.raw refl (All-weaker (λ v. is_value_byte v ≡ true) IsInLine value_in_line f.raw is.raw) in
    token_line f.name (58 ∷ f.raw) f.end n is.name colon_raw

field_lines : (fs : List Field) (n : ℕ) → All IsField fs → fold line_step (between n) (flat_map print_field fs) ≡ between (n + length fs)
field_lines [] n all = ap between (omega arith)
field_lines (f ∷ fs) n all =
    fold-append line_step (between n) (print_field f) (flat_map print_field fs)
    ∙ ap (λ (l : Lines). fold line_step l (flat_map print_field fs)) (field_line f n (All-head IsField f fs all))
    ∙ field_lines fs (n + 1) (All-tail IsField f fs all)
    ∙ ap between (omega arith)

request_line : (h : RequestHead) → IsRequestHead h
    → fold line_step no_lines ((h.method ++ (32 ∷ (h.target ++ 32 ∷ print_version h.minor))) ++ print_end h.line_end) ≡ between 1
request_line h is =
    let target : All IsInLine h.target = All-weaker (λ v. is_uri_byte v ≡ true) IsInLine uri_in_line h.target is.target.1 in
    let more : All IsInLine (32 ∷ (h.target ++ 32 ∷ print_version h.minor)) =
    All-cons IsInLine 32 (h.target ++ 32 ∷ print_version h.minor) refl
    (All-append IsInLine h.target (32 ∷ print_version h.minor) target (All-cons IsInLine 32 (print_version h.minor) refl (version_in_line h.minor is.minor))) in
    token_line h.method (32 ∷ (h.target ++ 32 ∷ print_version h.minor)) h.line_end 0 is.method more

-- the bytes of an empty line before its LF
before_end : LineEnd → List ℕ
before_end crlf = 13 ∷ []
before_end lf = []

end_splits : (e : LineEnd) → print_end e ≡ before_end e ++ 10 ∷ []
unfolding before_end
end_splits crlf = refl
end_splits lf = refl

before_end_keeps : (n : ℕ) (e : LineEnd) → fold line_step (between n) (before_end e) ≡ between n
unfolding before_end
before_end_keeps n crlf = refl
before_end_keeps n lf = refl

-- what a head has before its last byte
front_of : RequestHead → List ℕ
front_of h =
    ((print_blank h.blank ++ ((h.method ++ (32 ∷ (h.target ++ 32 ∷ print_version h.minor))) ++ print_end h.line_end)) ++ flat_map print_field h.fields) ++ before_end h.last

-- a head ends with LF behind an empty line; before it stand the request line and a line for each field
pub record EndsWithLine (h : RequestHead) : Type 0 where
  pub front : List ℕ
  pub splits : print_request h ≡ front ++ 10 ∷ []
  pub lines : lines_of front ≡ between (length h.fields + 1)

head_splits : (h : RequestHead) → print_request h ≡ front_of h ++ 10 ∷ []
unfolding print_request front_of
head_splits h =
    regroup (print_blank h.blank) h.method h.target (print_version h.minor) (print_end h.line_end) (flat_map print_field h.fields) (print_end h.last) (before_end h.last) (end_splits h.last)
  where
    regroup : (a b c d e f g k : List ℕ) → g ≡ k ++ 10 ∷ []
        → a ++ b ++ 32 ∷ c ++ 32 ∷ d ++ e ++ (f ++ g) ≡ (((a ++ ((b ++ (32 ∷ (c ++ 32 ∷ d))) ++ e)) ++ f) ++ k) ++ 10 ∷ []
    regroup a b c d e f g k last = simp (last, append_assoc, cons-append)

front_lines : (h : RequestHead) → IsRequestHead h → lines_of (front_of h) ≡ between (length h.fields + 1)
unfolding front_of
front_lines h is =
    let line : List ℕ = (h.method ++ (32 ∷ (h.target ++ 32 ∷ print_version h.minor))) ++ print_end h.line_end in
    let fields : List ℕ = flat_map print_field h.fields in
    fold-append line_step no_lines ((print_blank h.blank ++ line) ++ fields) (before_end h.last)
    ∙ ap (λ (l : Lines). fold line_step l (before_end h.last))
    (fold-append line_step no_lines (print_blank h.blank ++ line) fields
    ∙ ap (λ (l : Lines). fold line_step l fields)
    (fold-append line_step no_lines (print_blank h.blank) line
    ∙ ap (λ (l : Lines). fold line_step l line) (blank_lines h.blank)
    ∙ request_line h is)
    ∙ field_lines h.fields 1 is.fields
    ∙ ap between (omega arith))
    ∙ before_end_keeps (length h.fields + 1) h.last

pub head_ends : (h : RequestHead) → IsRequestHead h → EndsWithLine h
head_ends h is = record { front = front_of h; splits = head_splits h; lines = front_lines h is }
