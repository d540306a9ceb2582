-- What the reading comes to over the characters of a text.
use Rattle.std.proofs.Common.{◌≡◌, ℕ, suc, ◌+◌, ◌*◌, ◌<◌, ◌≤◌, ◌⊎◌, true, false, nat_lt, nat_le, ◌==◌, List, [], ◌∷◌, ◌++◌, length, Option, Some, None, IsSomeAnd, Ok, refl, sym, ap, ◌∙◌, subst, inl, inr, arith, append_assoc, append-nil, mod-eq_of_lt}
use Rattle.std.proofs.lemmas.Bool.{cond-true, cond-false, lt-ltb, le-ltb, le-leb, ne_eqb, and_from, cases_lt, cases_Bool, and_parts, leb-true}
use Rattle.std.proofs.lemmas.Str.{encode_ascii}
use Rattle.std.specs.Char.{IsScalar, encode_utf8, digit_value}
use lib.Utf8.{encodes}
use Rattle.lg_containers.specs.Utf8.{utf8_step, lead_state, Finishes}
use Rattle.lg_containers.specs.Utf8Laws.{lead_of, lead_ascii}
use Rattle.lg_containers.specs.TextLaws.{step_at_boundary}
use Rattle.lg_containers.specs.declared.utf8.Utf8State.{Utf8State}
use Rattle.lg_containers.specs.declared.utf8.Utf8State.TheVariants.{Boundary, Inside}
use Rattle.lg_json.specs.Grammar.{hex_number, IsHigh, IsLow, IsShort, IsChar, AreChars}
use Rattle.lg_json.specs.Grammar.IsShort.{quote, backslash, slash, backspace, form_feed, line_feed, carriage_return, tab}
use Rattle.lg_json.specs.Grammar.IsChar.{unescaped, short, unit, surrogates}
use Rattle.lg_json.specs.Reading.{Frame, at, TextState, hex_more, joined, character_step, unit_step, low_step, text_step, closes, is_high, step, reads}
use Rattle.lg_json.specs.Reading.Mode.{in_text}
use Rattle.lg_json.specs.Reading.{Role}
use Rattle.lg_json.specs.declared.state.TextMode.{TextMode}
use Rattle.lg_json.specs.declared.state.TextMode.TheVariants.{Character, Escape, Unit as UnitMode, AfterHigh, AfterHighEscape, Low}
use Rattle.lg_json.proofs.Reaches.{reads_one, reads_at}
use Rattle.lg_json.proofs.Texts.{joined_is}

-- over the bytes the text t becomes u, and the mode m becomes k
abbrev pub TextRuns : List ℕ → TextMode → List ℕ → List ℕ → TextMode → Type 0
TextRuns t m [] u k = (t ≡ u) × (m ≡ k)
TextRuns t m (b ∷ bs) u k = (closes m b ≡ false) × IsSomeAnd (text_step t m b) (λ s. TextRuns s.0 s.1 bs u k)

pub runs_one : (t : List ℕ) (m : TextMode) (b : ℕ) (bs u : List ℕ) (k : TextMode) (s : TextState) → closes m b ≡ false → text_step t m b ≡ Some s → TextRuns s.0 s.1 bs u k → TextRuns t m (b ∷ bs) u k
runs_one t m b bs u k s open_still e h = (open_still, rw e h)

pub runs_then : (a b t u v : List ℕ) (m k l : TextMode) → TextRuns t m a u k → TextRuns u k b v l → TextRuns t m (a ++ b) v l
runs_then [] b t u v m k l h g = subst (λ (w : List ℕ). TextRuns w m b v l) (sym h.0) (subst (λ (j : TextMode). TextRuns u j b v l) (sym h.1) g)
runs_then (x ∷ xs) b t u v m k l h g = (h.0, go (text_step t m x) h.1 (λ s q. runs_then xs b s.0 u v s.1 k l q g))
  where
    go : (o : Option TextState) → IsSomeAnd o (λ s. TextRuns s.0 s.1 xs u k) → ((s : TextState) → TextRuns s.0 s.1 xs u k → TextRuns s.0 s.1 (xs ++ b) v l) → IsSomeAnd o (λ s. TextRuns s.0 s.1 (xs ++ b) v l)
    go None q f = absurd q
    go (Some s) q f = f s q

pub one_step : (i : ℕ) (fs : List Frame) (role : Role) (t : List ℕ) (m : TextMode) (b : ℕ) (s : TextState) → closes m b ≡ false → text_step t m b ≡ Some s → step i fs (in_text role t m) b ≡ Ok (at fs (in_text role s.0 s.1))
unfolding step
one_step i fs role t m b s open_still e = cond-false (closes m b) _ _ open_still ∙ rw e refl

pub text_reads : (bytes rest : List ℕ) (i j : ℕ) (fs : List Frame) (role : Role) (t u : List ℕ) (m k : TextMode) → TextRuns t m bytes u k → j ≡ i + length bytes → reads i (at fs (in_text role t m)) (bytes ++ rest) ≡ reads j (at fs (in_text role u k)) rest
text_reads [] rest i j fs role t u m k h e = ap (λ w. reads i (at fs (in_text role w m)) rest) h.0 ∙ ap (λ w. reads i (at fs (in_text role u w)) rest) h.1 ∙ reads_at i j _ rest (omega arith)
text_reads (b ∷ bs) rest i j fs role t u m k h e = go (text_step t m b) refl h.1 (λ s q. text_reads bs rest (suc i) j fs role s.0 u s.1 k q (omega arith))
  where
    go : (o : Option TextState) → text_step t m b ≡ o → IsSomeAnd o (λ s. TextRuns s.0 s.1 bs u k)
        → ((s : TextState) → TextRuns s.0 s.1 bs u k → reads (suc i) (at fs (in_text role s.0 s.1)) (bs ++ rest) ≡ reads j (at fs (in_text role u k)) rest)
        → reads i (at fs (in_text role t m)) (b ∷ (bs ++ rest)) ≡ reads j (at fs (in_text role u k)) rest
    go None f q ih = absurd q
    go (Some s) f q ih = reads_one i fs (in_text role t m) b (bs ++ rest) (at fs (in_text role s.0 s.1)) (one_step i fs role t m b s h.0 f) ∙ ih s q

-- a character that stands for itself
pub ascii_step : (t : List ℕ) (c : ℕ) → 32 ≤ c → c < 128 → (c ≡ 92 → ⊥) → text_step t (Character Boundary) c ≡ Some (t ++ c ∷ [], Character Boundary)
unfolding text_step
ascii_step t c low high ne =
    cond-false (c == 92) _ _ (ne_eqb c 92 ne) ∙ cond-false (nat_lt c 32) _ _ (le-ltb c 32 low) ∙ ap (character_step t c) (step_at_boundary c ∙ lead_ascii c high)

lead_step : (t : List ℕ) (b low high left : ℕ) → 128 ≤ b → lead_state b ≡ Some (Inside low high left) → text_step t (Character Boundary) b ≡ Some (t ++ b ∷ [], Character (Inside low high left))
unfolding text_step
lead_step t b low high left large e =
    cond-false (b == 92) _ _ (ne_eqb b 92 (λ f. omega arith)) ∙ cond-false (nat_lt b 32) _ _ (le-ltb b 32 (omega arith)) ∙ ap (character_step t b) (step_at_boundary b ∙ e)

inside_step : (t : List ℕ) (b low high left : ℕ) (next : Utf8State) → utf8_step (Inside low high left) b ≡ Some next → text_step t (Character (Inside low high left)) b ≡ Some (t ++ b ∷ [], Character next)
unfolding text_step
inside_step t b low high left next e = ap (character_step t b) e

part_runs : (others t : List ℕ) (state : Utf8State) → Finishes state others → TextRuns t (Character state) others (t ++ others) (Character Boundary)
part_runs others t Boundary h = subst (λ (l : List ℕ). TextRuns t (Character Boundary) l (t ++ l) (Character Boundary)) (sym h) (sym (append-nil t), refl)
part_runs [] t (Inside low high left) h = absurd h
part_runs (b ∷ bs) t (Inside low high left) h = go (utf8_step (Inside low high left) b) refl h (λ next. part_runs bs (t ++ b ∷ []) next)
  where
    go : (o : Option Utf8State) → utf8_step (Inside low high left) b ≡ o → IsSomeAnd o (λ next. Finishes next bs) → ((next : Utf8State) → Finishes next bs → TextRuns (t ++ b ∷ []) (Character next) bs ((t ++ b ∷ []) ++ bs) (Character Boundary)) → TextRuns t (Character (Inside low high left)) (b ∷ bs) (t ++ b ∷ bs) (Character Boundary)
    go None e q ih = absurd q
    go (Some next) e q ih =
        runs_one t (Character (Inside low high left)) b bs (t ++ b ∷ bs) (Character Boundary) (t ++ b ∷ [], Character next) refl (inside_step t b low high left next e)
        (subst (λ (l : List ℕ). TextRuns (t ++ b ∷ []) (Character next) bs l (Character Boundary)) (append_assoc t (b ∷ []) bs) (ih next q))

pub ne_test : (b k : ℕ) → (b ≡ k → ⊥) → (b == k) ≡ false
ne_test b k h = ne_eqb b k h

plain_runs : (t : List ℕ) (c : ℕ) → IsScalar c → 32 ≤ c → (c ≡ 34 → ⊥) → (c ≡ 92 → ⊥) → TextRuns t (Character Boundary) (encode_utf8 c) (t ++ encode_utf8 c) (Character Boundary)
plain_runs t c ok low ne_quote ne_backslash = elim (cases_lt c 128) [
  | inl small ↦ subst (λ (l : List ℕ). TextRuns t (Character Boundary) l (t ++ l) (Character Boundary)) (sym (encode_ascii c small))
      (runs_one t (Character Boundary) c [] (t ++ c ∷ []) (Character Boundary) (t ++ c ∷ [], Character Boundary) (ne_test c 34 ne_quote) (ascii_step t c low small ne_backslash) (refl, refl))
  | inr large ↦
      let l = lead_of c ok large in
      subst (λ (k : List ℕ). TextRuns t (Character Boundary) k (t ++ k) (Character Boundary)) (sym l.bytes)
      (runs_one t (Character Boundary) l.first l.others (t ++ l.first ∷ l.others) (Character Boundary) (t ++ l.first ∷ [], Character (Inside l.low l.high l.left))
      (let above : 128 ≤ l.first = l.above in ne_test l.first 34 (λ e. omega arith)) (lead_step t l.first l.low l.high l.left l.above l.state)
      (subst (λ (k : List ℕ). TextRuns (t ++ l.first ∷ []) (Character (Inside l.low l.high l.left)) l.others k (Character Boundary)) (append_assoc t (l.first ∷ []) l.others)
      (part_runs l.others (t ++ l.first ∷ []) (Inside l.low l.high l.left) l.finishes)))
]

-- an escape by one letter
backslash_step : (t : List ℕ) → text_step t (Character Boundary) 92 ≡ Some (t, Escape)
unfolding text_step
backslash_step t = refl

short_runs : (t : List ℕ) (c b : ℕ) → IsShort b c → TextRuns t (Character Boundary) (92 ∷ b ∷ []) (t ++ encode_utf8 c) (Character Boundary)
unfolding text_step
short_runs t _ _ quote = (refl, (refl, (ap (λ l. t ++ l) (sym (encode_ascii 34 (omega arith))), refl)))
short_runs t _ _ backslash = (refl, (refl, (ap (λ l. t ++ l) (sym (encode_ascii 92 (omega arith))), refl)))
short_runs t _ _ slash = (refl, (refl, (ap (λ l. t ++ l) (sym (encode_ascii 47 (omega arith))), refl)))
short_runs t _ _ backspace = (refl, (refl, (ap (λ l. t ++ l) (sym (encode_ascii 8 (omega arith))), refl)))
short_runs t _ _ form_feed = (refl, (refl, (ap (λ l. t ++ l) (sym (encode_ascii 12 (omega arith))), refl)))
short_runs t _ _ line_feed = (refl, (refl, (ap (λ l. t ++ l) (sym (encode_ascii 10 (omega arith))), refl)))
short_runs t _ _ carriage_return = (refl, (refl, (ap (λ l. t ++ l) (sym (encode_ascii 13 (omega arith))), refl)))
short_runs t _ _ tab = (refl, (refl, (ap (λ l. t ++ l) (sym (encode_ascii 9 (omega arith))), refl)))

-- the four digits of an escape
digit_step : (t : List ℕ) (n u b : ℕ) → digit_value b < 16 → text_step t (UnitMode n u) b ≡ unit_step t n (hex_more u (digit_value b))
unfolding text_step
digit_step t n u b h = cond-true (nat_lt (digit_value b) 16) _ _ (lt-ltb _ 16 h)

low_digit_step : (t : List ℕ) (h n u b : ℕ) → digit_value b < 16 → text_step t (Low h n u) b ≡ low_step t h n (hex_more u (digit_value b))
unfolding text_step
low_digit_step t h n u b d = cond-true (nat_lt (digit_value b) 16) _ _ (lt-ltb _ 16 d)

escape_u_step : (t : List ℕ) → text_step t Escape 117 ≡ Some (t, UnitMode 4 0)
unfolding text_step
escape_u_step t = refl

hex_value : (u d : ℕ) → u < 4096 → d < 16 → hex_more u d ≡ u * 16 + d
hex_value u d hu hd = mod-eq_of_lt (omega arith)

-- the second digit of a unit that is no low surrogate
second_digit : (t : List ℕ) (w : ℕ) → (w < 220) ⊎ (223 < w) → unit_step t 3 w ≡ Some (t, UnitMode 2 w)
second_digit t w h = elim h [
  | inl small ↦ cond-true (nat_lt w 220) _ _ (lt-ltb w 220 small)
  | inr large ↦ elim (cases_lt w 220) [
    | inl small ↦ cond-true (nat_lt w 220) _ _ (lt-ltb w 220 small)
    | inr above ↦ cond-false (nat_lt w 220) _ _ (le-ltb w 220 above) ∙ cond-true (nat_lt 223 w) _ _ (lt-ltb 223 w large)
  ]
]

no_low : (a b c d u : ℕ) → digit_value a < 16 → digit_value b < 16 → digit_value c < 16 → digit_value d < 16 → u ≡ hex_number a b c d → (IsLow u → ⊥) → (digit_value a * 16 + digit_value b < 220) ⊎ (223 < digit_value a * 16 + digit_value b)
no_low a b c d u ha hb hc hd e h = elim (cases_lt (digit_value a * 16 + digit_value b) 220) [
  | inl small ↦ inl small
  | inr above ↦ elim (cases_lt 223 (digit_value a * 16 + digit_value b)) [
    | inl large ↦ inr large
    | inr below ↦ absurd (h (omega arith, omega arith))
  ]
]

-- a unit's escape, up to its last digit
unit_starts : (t rest v : List ℕ) (k : TextMode) (a b c d : ℕ) → digit_value a < 16 → digit_value b < 16 → digit_value c < 16 → digit_value d < 16 → (digit_value a * 16 + digit_value b < 220) ⊎ (223 < digit_value a * 16 + digit_value b)
    → (s : TextState) → unit_step t 1 (hex_number a b c d) ≡ Some s → TextRuns s.0 s.1 rest v k → TextRuns t (Character Boundary) (92 ∷ 117 ∷ a ∷ b ∷ c ∷ d ∷ rest) v k
unit_starts t rest v k a b c d ha hb hc hd second s last h =
    let e1 : hex_more 0 (digit_value a) ≡ digit_value a = hex_value 0 (digit_value a) (omega arith) ha ∙ (omega arith) in
    let e2 : hex_more (digit_value a) (digit_value b) ≡ digit_value a * 16 + digit_value b = hex_value (digit_value a) (digit_value b) (omega arith) hb in
    let e3 : hex_more (digit_value a * 16 + digit_value b) (digit_value c) ≡ (digit_value a * 16 + digit_value b) * 16 + digit_value c = hex_value _ (digit_value c) (omega arith) hc in
    let e4 : hex_more ((digit_value a * 16 + digit_value b) * 16 + digit_value c) (digit_value d) ≡ hex_number a b c d = hex_value _ (digit_value d) (omega arith) hd in
    runs_one t (Character Boundary) 92 (117 ∷ a ∷ b ∷ c ∷ d ∷ rest) v k (t, Escape) refl (backslash_step t)
    (runs_one t Escape 117 (a ∷ b ∷ c ∷ d ∷ rest) v k (t, UnitMode 4 0) refl (escape_u_step t)
    (runs_one t (UnitMode 4 0) a (b ∷ c ∷ d ∷ rest) v k (t, UnitMode 3 (digit_value a)) refl (digit_step t 4 0 a ha ∙ ap (unit_step t 4) e1)
    (runs_one t (UnitMode 3 (digit_value a)) b (c ∷ d ∷ rest) v k (t, UnitMode 2 (digit_value a * 16 + digit_value b)) refl (digit_step t 3 _ b hb ∙ ap (unit_step t 3) e2 ∙ second_digit t _ second)
    (runs_one t (UnitMode 2 (digit_value a * 16 + digit_value b)) c (d ∷ rest) v k (t, UnitMode 1 ((digit_value a * 16 + digit_value b) * 16 + digit_value c)) refl (digit_step t 2 _ c hc ∙ ap (unit_step t 2) e3)
    (runs_one t (UnitMode 1 ((digit_value a * 16 + digit_value b) * 16 + digit_value c)) d rest v k s refl (digit_step t 1 _ d hd ∙ ap (unit_step t 1) e4 ∙ last) h)))))

high_test : (u : ℕ) → (IsHigh u → ⊥) → is_high u ≡ false
high_test u h = elim (cases_Bool (is_high u)) [
  | inl e ↦ (let p = and_parts (nat_le 55296 u) (nat_le u 56319) e in absurd (h (leb-true _ _ p.0, leb-true _ _ p.1)))
  | inr e ↦ e
]

unit_runs : (t : List ℕ) (u a b c d : ℕ) → digit_value a < 16 → digit_value b < 16 → digit_value c < 16 → digit_value d < 16 → u ≡ hex_number a b c d → (IsHigh u → ⊥) → (IsLow u → ⊥) → TextRuns t (Character Boundary) (92 ∷ 117 ∷ a ∷ b ∷ c ∷ d ∷ []) (t ++ encode_utf8 u) (Character Boundary)
unit_runs t u a b c d ha hb hc hd e high low =
    unit_starts t [] (t ++ encode_utf8 u) (Character Boundary) a b c d ha hb hc hd (no_low a b c d u ha hb hc hd e low)
    (t ++ encode_utf8 (hex_number a b c d), Character Boundary) (cond-false (is_high (hex_number a b c d)) _ _ (subst (λ k. is_high k ≡ false) e (high_test u high)))
    (ap (λ k. t ++ encode_utf8 k) (sym e), refl)

-- the escape of a low surrogate, after that of a high one
after_high_step : (t : List ℕ) (h : ℕ) → text_step t (AfterHigh h) 92 ≡ Some (t, AfterHighEscape h)
unfolding text_step
after_high_step t h = refl

after_high_escape_step : (t : List ℕ) (h : ℕ) → text_step t (AfterHighEscape h) 117 ≡ Some (t, Low h 4 0)
unfolding text_step
after_high_escape_step t h = refl

low_first : (t : List ℕ) (h w : ℕ) → w ≡ 13 → low_step t h 4 w ≡ Some (t, Low h 3 13)
low_first t h w e = rw e refl

low_second : (t : List ℕ) (h w : ℕ) → 220 ≤ w → low_step t h 3 w ≡ Some (t, Low h 2 w)
low_second t h w above = cond-false (nat_lt w 220) _ _ (le-ltb w 220 above)

low_runs : (t : List ℕ) (h l a b c d : ℕ) → digit_value a < 16 → digit_value b < 16 → digit_value c < 16 → digit_value d < 16 → l ≡ hex_number a b c d → IsLow l → TextRuns t (AfterHigh h) (92 ∷ 117 ∷ a ∷ b ∷ c ∷ d ∷ []) (t ++ encode_utf8 (joined h l)) (Character Boundary)
low_runs t h l a b c d ha hb hc hd e low =
    let l0 : 56320 ≤ l = low.0 in
    let l1 : l ≤ 57343 = low.1 in
    let is13 : digit_value a ≡ 13 = omega arith in
    let is12 : 12 ≤ digit_value b = omega arith in
    let e1 : hex_more 0 (digit_value a) ≡ 13 = hex_value 0 (digit_value a) (omega arith) ha ∙ (omega arith) in
    let e2 : hex_more 13 (digit_value b) ≡ 208 + digit_value b = hex_value 13 (digit_value b) (omega arith) hb ∙ (omega arith) in
    let e3 : hex_more (208 + digit_value b) (digit_value c) ≡ (208 + digit_value b) * 16 + digit_value c = hex_value _ (digit_value c) (omega arith) hc in
    let e4 : hex_more ((208 + digit_value b) * 16 + digit_value c) (digit_value d) ≡ l = hex_value _ (digit_value d) (omega arith) hd ∙ (omega arith) in
    let end = t ++ encode_utf8 (joined h l) in
    runs_one t (AfterHigh h) 92 (117 ∷ a ∷ b ∷ c ∷ d ∷ []) end (Character Boundary) (t, AfterHighEscape h) refl (after_high_step t h)
    (runs_one t (AfterHighEscape h) 117 (a ∷ b ∷ c ∷ d ∷ []) end (Character Boundary) (t, Low h 4 0) refl (after_high_escape_step t h)
    (runs_one t (Low h 4 0) a (b ∷ c ∷ d ∷ []) end (Character Boundary) (t, Low h 3 13) refl (low_digit_step t h 4 0 a ha ∙ low_first t h _ e1)
    (runs_one t (Low h 3 13) b (c ∷ d ∷ []) end (Character Boundary) (t, Low h 2 (208 + digit_value b)) refl (low_digit_step t h 3 13 b hb ∙ ap (low_step t h 3) e2 ∙ low_second t h _ (omega arith))
    (runs_one t (Low h 2 (208 + digit_value b)) c (d ∷ []) end (Character Boundary) (t, Low h 1 ((208 + digit_value b) * 16 + digit_value c)) refl (low_digit_step t h 2 _ c hc ∙ ap (low_step t h 2) e3)
    (runs_one t (Low h 1 ((208 + digit_value b) * 16 + digit_value c)) d [] end (Character Boundary) (end, Character Boundary) refl (low_digit_step t h 1 _ d hd ∙ ap (low_step t h 1) e4) (refl, refl))))))

high_runs : (t : List ℕ) (h a b c d : ℕ) → digit_value a < 16 → digit_value b < 16 → digit_value c < 16 → digit_value d < 16 → h ≡ hex_number a b c d → IsHigh h → TextRuns t (Character Boundary) (92 ∷ 117 ∷ a ∷ b ∷ c ∷ d ∷ []) t (AfterHigh h)
high_runs t h a b c d ha hb hc hd e high =
    let h0 : 55296 ≤ h = high.0 in
    let h1 : h ≤ 56319 = high.1 in
    let test : is_high (hex_number a b c d) ≡ true = subst (λ k. is_high k ≡ true) e (and_from (nat_le 55296 h) (nat_le h 56319) (le-leb 55296 h h0) (le-leb h 56319 h1)) in
    unit_starts t [] t (AfterHigh h) a b c d ha hb hc hd (no_low a b c d h ha hb hc hd e (λ l. let l0 = l.0 in omega arith))
    (t, AfterHigh (hex_number a b c d)) (cond-true (is_high (hex_number a b c d)) _ _ test) (refl, ap AfterHigh (sym e))

pub char_runs : (t : List ℕ) (c : ℕ) (bytes : List ℕ) → IsChar c bytes → TextRuns t (Character Boundary) bytes (t ++ encode_utf8 c) (Character Boundary)
char_runs t c bytes (unescaped _ _ ok low ne_quote ne_backslash e) = subst (λ (l : List ℕ). TextRuns t (Character Boundary) l (t ++ encode_utf8 c) (Character Boundary)) (sym e) (plain_runs t c ok low ne_quote ne_backslash)
char_runs t c bytes (short _ b _ h e) = subst (λ (l : List ℕ). TextRuns t (Character Boundary) l (t ++ encode_utf8 c) (Character Boundary)) (sym e) (short_runs t c b h)
char_runs t c bytes (unit _ _ u high low) =
    subst (λ (l : List ℕ). TextRuns t (Character Boundary) l (t ++ encode_utf8 c) (Character Boundary)) (sym u.parts) (unit_runs t c u.a u.b u.c u.d u.a_is_digit u.b_is_digit u.c_is_digit u.d_is_digit u.value high low)
char_runs t c bytes (surrogates _ h l front back _ high low uh ul e f) =
    subst (λ (k : List ℕ). TextRuns t (Character Boundary) k (t ++ encode_utf8 c) (Character Boundary)) (sym f)
    (runs_then front back t t (t ++ encode_utf8 c) (Character Boundary) (AfterHigh h) (Character Boundary)
    (subst (λ (k : List ℕ). TextRuns t (Character Boundary) k t (AfterHigh h)) (sym uh.parts) (high_runs t h uh.a uh.b uh.c uh.d uh.a_is_digit uh.b_is_digit uh.c_is_digit uh.d_is_digit uh.value high))
    (subst (λ (k : List ℕ). TextRuns t (AfterHigh h) k (t ++ encode_utf8 c) (Character Boundary)) (sym ul.parts)
    (subst (λ k. TextRuns t (AfterHigh h) (92 ∷ 117 ∷ ul.a ∷ ul.b ∷ ul.c ∷ ul.d ∷ []) (t ++ encode_utf8 k) (Character Boundary)) (joined_is h l high low ∙ sym e)
    (low_runs t h l ul.a ul.b ul.c ul.d ul.a_is_digit ul.b_is_digit ul.c_is_digit ul.d_is_digit ul.value low))))

pub chars_run : (cs : List ℕ) (t inner : List ℕ) → AreChars cs inner → TextRuns t (Character Boundary) inner (t ++ encodes cs) (Character Boundary)
chars_run [] t inner h = subst (λ (l : List ℕ). TextRuns t (Character Boundary) l (t ++ []) (Character Boundary)) (sym h) (sym (append-nil t), refl)
chars_run (c ∷ cs) t inner h =
    subst (λ (l : List ℕ). TextRuns t (Character Boundary) l (t ++ (encode_utf8 c ++ encodes cs)) (Character Boundary)) (sym h.4)
    (runs_then h.0 h.1 t (t ++ encode_utf8 c) (t ++ (encode_utf8 c ++ encodes cs)) (Character Boundary) (Character Boundary) (Character Boundary)
    (char_runs t c h.0 h.2)
    (subst (λ (l : List ℕ). TextRuns (t ++ encode_utf8 c) (Character Boundary) h.1 l (Character Boundary)) (append_assoc t (encode_utf8 c) (encodes cs)) (chars_run cs (t ++ encode_utf8 c) h.1 h.3)))
