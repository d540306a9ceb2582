-- What a step of the reader comes to.
use Rattle.std.proofs.Common.{◌≡◌, ◌≢◌, ℕ, suc, ◌+◌, ◌<◌, ◌≤◌, true, false, ◌==◌, List, [], ◌∷◌, length, get_or, drop, Result, Ok, Err, refl, sym, ap, ◌∙◌, subst, inl, inr, arith}
use Rattle.std.proofs.lemmas.List.{drop_more}
use Rattle.std.proofs.lemmas.Bool.{cond-false, ne_eqb, false_from_ne_true}
use Rattle.lg_json.specs.Tree.{Tree, tree, trees, entries}
use Rattle.lg_json.specs.Tree.Tree.{text, list, members}
use Rattle.lg_json.specs.Grammar.{IsDigit}
use Rattle.lg_json.specs.Reading.{Frame, Mode, Role, State, at, is_blank, is_digit, complete, close_empty, open_frame, begin, begin_name, follow_on, with_name, step, finish, and_then, reads, reading}
use Rattle.lg_json.specs.Reading.Frame.{in_list, in_object}
use Rattle.lg_json.specs.Reading.Mode.{before_value, before_first, before_first_name, before_name, before_colon, in_word, in_text, after_item, ended}
use Rattle.lg_json.specs.View.{standing, frames_view, next_view, Gives, Fails, placed}
use Rattle.lg_json.specs.Tokens.{Passes, Skips, TextEnds, Moves, IsNumberByte, IsOtherByte, begins}
use Rattle.lg_json.specs.declared.json.Json.{Json}
use Rattle.lg_json.specs.declared.json.JsonFault.{JsonFault}
use Rattle.lg_json.specs.declared.json.JsonFault.TheVariants.{Syntax, NotWhole, TooWide, TooDeep, Repeated, NoMemory}
use Rattle.lg_json.specs.declared.state.Frame.{Frame as OpenFrame}
use Rattle.lg_json.specs.declared.state.Next.{Next}
use Rattle.lg_json.specs.declared.state.TextMode.TheVariants.{Character}
use Rattle.lg_containers.specs.declared.utf8.Utf8State.TheVariants.{Boundary}
use Rattle.lg_json.proofs.Reaches.{reads_at, value_begins, first_begins, value_passes, first_passes, first_name_passes, name_passes, colon_passes, item_passes, end_passes}
use Rattle.lg_json.proofs.Lists.{digit_byte}
use Rattle.lg_json.proofs.Tokens.{stop_byte, no_byte, begins_byte, begins_stop}

-- faults along equations
pub fails_as : {A : Type 0} (f : JsonFault) (x y : Result A JsonFault) → x ≡ y → Fails f y → Fails f x
fails_as f x y e h = subst (Fails f) (sym e) h

fails_then : (f : JsonFault) (r : Result State JsonFault) (k : State → Result Tree JsonFault) → Fails f r → Fails f (and_then r k)
fails_then (Syntax p) r k h = ap (λ q. and_then q k) h
fails_then (NotWhole p) r k h = ap (λ q. and_then q k) h
fails_then (TooWide p) r k h = ap (λ q. and_then q k) h
fails_then (TooDeep p) r k h = ap (λ q. and_then q k) h
fails_then (Repeated p) r k h = ap (λ q. and_then q k) h
fails_then NoMemory r k h = tt

-- a step whose result is r, after which the reading goes on at `next`
pub moves_placed : (bytes : List ℕ) (place next : ℕ) (before : Result Tree JsonFault) (r : Result State JsonFault) (fs : List OpenFrame) (outcome : Result Next JsonFault) → place < next → next ≤ length bytes → before ≡ and_then r (λ s. reads next s (drop next bytes)) → Gives (standing fs) outcome r → Moves bytes place before fs (placed outcome next)
moves_placed bytes place next before r fs (Ok n) above within e g = (above, within, e ∙ ap (λ q. and_then q (λ t. reads next t (drop next bytes))) g)
moves_placed bytes place next before r fs (Err f) above within e g = fails_as f before _ e (fails_then f r (λ s. reads next s (drop next bytes)) g)

-- a byte whose step is known
pub byte_then : (bytes : List ℕ) (place : ℕ) (fs : List Frame) (m : Mode) (r : Result State JsonFault) → place < length bytes → step place fs m (get_or bytes place 0) ≡ r → reads place (at fs m) (drop place bytes) ≡ and_then r (λ s. reads (place + 1) s (drop (place + 1) bytes))
unfolding reads
byte_then bytes place fs m r h e =
    let same : suc place ≡ place + 1 = omega arith in
    ap (reads place (at fs m)) (drop_more bytes place 0 h) ∙ ap (λ q. and_then q (λ s. reads (suc place) s (drop (place + 1) bytes))) e ∙ ap (λ i. and_then r (λ s. reads i s (drop (place + 1) bytes))) same

pub begin_then : (bytes : List ℕ) (place : ℕ) (fs : List Frame) (r : Result State JsonFault) → place < length bytes → begin place fs (get_or bytes place 0) ≡ r → begins place fs (drop place bytes) ≡ and_then r (λ s. reads (place + 1) s (drop (place + 1) bytes))
begin_then bytes place fs r h e =
    let same : suc place ≡ place + 1 = omega arith in
    ap (begins place fs) (drop_more bytes place 0 h) ∙ ap (λ q. and_then q (λ s. reads (suc place) s (drop (place + 1) bytes))) e ∙ ap (λ i. and_then r (λ s. reads i s (drop (place + 1) bytes))) same

-- how a value begins
pub begins_list : (i : ℕ) (fs : List Frame) (b : ℕ) → b ≡ 91 → begin i fs b ≡ open_frame i fs (in_list []) before_first
unfolding begin
begins_list i fs b e = rw e refl

pub begins_object : (i : ℕ) (fs : List Frame) (b : ℕ) → b ≡ 123 → begin i fs b ≡ open_frame i fs (in_object []) before_first_name
unfolding begin
begins_object i fs b e = rw e refl

pub begins_null : (i : ℕ) (fs : List Frame) (b : ℕ) → b ≡ 110 → begin i fs b ≡ Ok (at fs (in_word (117 ∷ 108 ∷ 108 ∷ []) Tree.null))
unfolding begin
begins_null i fs b e = rw e refl

pub begins_true : (i : ℕ) (fs : List Frame) (b : ℕ) → b ≡ 116 → begin i fs b ≡ Ok (at fs (in_word (114 ∷ 117 ∷ 101 ∷ []) (Tree.truth true)))
unfolding begin
begins_true i fs b e = rw e refl

pub begins_false : (i : ℕ) (fs : List Frame) (b : ℕ) → b ≡ 102 → begin i fs b ≡ Ok (at fs (in_word (97 ∷ 108 ∷ 115 ∷ 101 ∷ []) (Tree.truth false)))
unfolding begin
begins_false i fs b e = rw e refl

begins_quote : (i : ℕ) (fs : List Frame) (b : ℕ) → b ≡ 34 → begin i fs b ≡ Ok (at fs (in_text Role.Value [] (Character Boundary)))
unfolding begin
begins_quote i fs b e = rw e refl

pub begins_other : (i : ℕ) (fs : List Frame) (b : ℕ) → b ≢ 34 → b ≢ 91 → b ≢ 123 → b ≢ 110 → b ≢ 116 → b ≢ 102 → b ≢ 45 → (IsDigit b → ⊥) → begin i fs b ≡ Err (Syntax i)
unfolding begin
begins_other i fs b n34 n91 n123 n110 n116 n102 n45 no_digit =
    let other : is_digit b ≡ false = false_from_ne_true (is_digit b) (λ e. no_digit (digit_byte b e)) in
    cond-false (b == 34) _ _ (ne_eqb b 34 n34) ∙ cond-false (b == 91) _ _ (ne_eqb b 91 n91) ∙ cond-false (b == 123) _ _ (ne_eqb b 123 n123) ∙ cond-false (b == 110) _ _ (ne_eqb b 110 n110)
    ∙ cond-false (b == 116) _ _ (ne_eqb b 116 n116) ∙ cond-false (b == 102) _ _ (ne_eqb b 102 n102) ∙ cond-false (b == 45) _ _ (ne_eqb b 45 n45) ∙ cond-false (b == 48) _ _ (ne_eqb b 48 (λ e. no_digit (omega arith, omega arith))) ∙ cond-false (is_digit b) _ _ other

-- a text that is a value
pub text_begins : (bytes : List ℕ) (place : ℕ) (fs : List Frame) → place < length bytes → get_or bytes place 0 ≡ 34 → begins place fs (drop place bytes) ≡ reads (place + 1) (at fs (in_text Role.Value [] (Character Boundary))) (drop (place + 1) bytes)
text_begins bytes place fs h e = begins_byte bytes place fs _ h (begins_quote place fs _ e)

pub text_value : (bytes : List ℕ) (place quote : ℕ) (t : List ℕ) (fs : List Frame) → place < length bytes → get_or bytes place 0 ≡ 34 → TextEnds bytes (place + 1) t quote → begins place fs (drop place bytes) ≡ and_then (Ok (complete fs (text t))) (λ s. reads (quote + 1) s (drop (quote + 1) bytes))
text_value bytes place quote t fs h e q = text_begins bytes place fs h e ∙ q.same fs Role.Value ∙ reads_at (suc quote) (quote + 1) (complete fs (text t)) _ (omega arith)

-- a text that is a name
pub text_name : (bytes : List ℕ) (place quote : ℕ) (t : List ℕ) (fs : List Frame) → TextEnds bytes (place + 1) t quote → reads (place + 1) (at fs (in_text (Role.Name place) [] (Character Boundary))) (drop (place + 1) bytes) ≡ and_then (with_name quote place fs t) (λ s. reads (quote + 1) s (drop (quote + 1) bytes))
text_name bytes place quote t fs q = let same : suc quote ≡ quote + 1 = omega arith in q.same fs (Role.Name place) ∙ ap (λ i. and_then (with_name quote place fs t) (λ s. reads i s (drop (quote + 1) bytes))) same

-- the rest of a word
pub word_value : (bytes : List ℕ) (place next : ℕ) (rest : List ℕ) (fs : List Frame) (t : Tree) → place < length bytes → begin place fs (get_or bytes place 0) ≡ Ok (at fs (in_word rest t)) → (r : Result Tree JsonFault) → reads (place + 1) (at fs (in_word rest t)) (drop (place + 1) bytes) ≡ r → begins place fs (drop place bytes) ≡ r
word_value bytes place next rest fs t h e r g = begins_byte bytes place fs _ h e ∙ g

pub word_fails : (bytes : List ℕ) (place : ℕ) (rest : List ℕ) (fs : List Frame) (t : Tree) (f : JsonFault) → place < length bytes → begin place fs (get_or bytes place 0) ≡ Ok (at fs (in_word rest t)) → Fails f (reads (place + 1) (at fs (in_word rest t)) (drop (place + 1) bytes)) → Fails f (begins place fs (drop place bytes))
word_fails bytes place rest fs t f h e g = fails_as f _ _ (begins_byte bytes place fs _ h e) g

-- the byte after the blanks, by what comes next
pub on_value : (bytes : List ℕ) (place : ℕ) (fs : List Frame) → place < length bytes → is_blank (get_or bytes place 0) ≡ false → reads place (at fs before_value) (drop place bytes) ≡ begins place fs (drop place bytes)
on_value bytes place fs h e = ap (reads place (at fs before_value)) (drop_more bytes place 0 h) ∙ value_begins place fs (get_or bytes place 0) (drop (place + 1) bytes) e ∙ sym (ap (begins place fs) (drop_more bytes place 0 h))

pub on_first : (bytes : List ℕ) (place : ℕ) (fs : List Frame) → place < length bytes → is_blank (get_or bytes place 0) ≡ false → (get_or bytes place 0 ≡ 93 → ⊥) → reads place (at fs before_first) (drop place bytes) ≡ begins place fs (drop place bytes)
on_first bytes place fs h e n = ap (reads place (at fs before_first)) (drop_more bytes place 0 h) ∙ first_begins place fs (get_or bytes place 0) (drop (place + 1) bytes) e (ne_eqb _ 93 n) ∙ sym (ap (begins place fs) (drop_more bytes place 0 h))

pub first_ends : (i : ℕ) (fs : List Frame) (b : ℕ) → b ≡ 93 → step i fs before_first b ≡ close_empty i fs (list (trees []))
unfolding step
first_ends i fs b e = rw e refl

pub first_name_ends : (i : ℕ) (fs : List Frame) (b : ℕ) → b ≡ 125 → step i fs before_first_name b ≡ close_empty i fs (members (entries []))
unfolding step
first_name_ends i fs b e = rw e refl

pub first_name_quote : (i : ℕ) (fs : List Frame) (b : ℕ) → b ≡ 34 → step i fs before_first_name b ≡ Ok (begin_name i fs)
unfolding step
first_name_quote i fs b e = rw e refl

pub first_name_other : (i : ℕ) (fs : List Frame) (b : ℕ) → is_blank b ≡ false → b ≢ 34 → b ≢ 125 → step i fs before_first_name b ≡ Err (Syntax i)
unfolding step
first_name_other i fs b e n34 n125 = cond-false (is_blank b) _ _ e ∙ cond-false (b == 34) _ _ (ne_eqb b 34 n34) ∙ cond-false (b == 125) _ _ (ne_eqb b 125 n125)

pub name_quote : (i : ℕ) (fs : List Frame) (b : ℕ) → b ≡ 34 → step i fs before_name b ≡ Ok (begin_name i fs)
unfolding step
name_quote i fs b e = rw e refl

pub name_other : (i : ℕ) (fs : List Frame) (b : ℕ) → is_blank b ≡ false → b ≢ 34 → step i fs before_name b ≡ Err (Syntax i)
unfolding step
name_other i fs b e n34 = cond-false (is_blank b) _ _ e ∙ cond-false (b == 34) _ _ (ne_eqb b 34 n34)

pub colon_byte : (i : ℕ) (fs : List Frame) (b : ℕ) → b ≡ 58 → step i fs before_colon b ≡ Ok (at fs before_value)
unfolding step
colon_byte i fs b e = rw e refl

pub colon_other : (i : ℕ) (fs : List Frame) (b : ℕ) → is_blank b ≡ false → b ≢ 58 → step i fs before_colon b ≡ Err (Syntax i)
unfolding step
colon_other i fs b e n = cond-false (is_blank b) _ _ e ∙ cond-false (b == 58) _ _ (ne_eqb b 58 n)

pub item_byte : (i : ℕ) (fs : List Frame) (b : ℕ) → is_blank b ≡ false → step i fs after_item b ≡ follow_on i fs b
unfolding step
item_byte i fs b e = cond-false (is_blank b) _ _ e

pub end_other : (i : ℕ) (fs : List Frame) (t : Tree) (b : ℕ) → is_blank b ≡ false → step i fs (ended t) b ≡ Err (Syntax i)
unfolding step
end_other i fs t b e = cond-false (is_blank b) _ _ e

-- blanks change no state of the reader
pub state_passes : (fs : List Frame) (n : Next) → Passes fs (next_view n)
state_passes fs Next.Value = value_passes fs
state_passes fs Next.First = first_passes fs
state_passes fs Next.FirstName = first_name_passes fs
state_passes fs Next.Name = name_passes fs
state_passes fs Next.Colon = colon_passes fs
state_passes fs Next.Comma = item_passes fs
state_passes fs (Next.End value) = end_passes fs (tree value)

pub skipped : (bytes : List ℕ) (place next : ℕ) (fs : List OpenFrame) (n : Next) → Skips bytes place next → reads place (standing fs n) (drop place bytes) ≡ reads next (standing fs n) (drop next bytes)
skipped bytes place next fs n k = k.same (frames_view fs) (next_view n) (state_passes (frames_view fs) n)

-- the end of the bytes
pub end_value : (bytes : List ℕ) (place : ℕ) (fs : List OpenFrame) (n : Next) → length bytes ≤ place → reads place (standing fs n) (drop place bytes) ≡ finish place (frames_view fs) (next_view n)
end_value bytes place fs n h = no_byte bytes place (standing fs n) h

-- a loop of steps
pub record OnTheWay (bytes : List ℕ) (place : ℕ) (fs : List OpenFrame) (n : Next) : Type 0 where
  pub within : place ≤ length bytes
  pub same : reads place (standing fs n) (drop place bytes) ≡ reading bytes

pub blanks_pass : (bytes : List ℕ) (place next : ℕ) (fs : List OpenFrame) (n : Next) → OnTheWay bytes place fs n → Skips bytes place next → OnTheWay bytes next fs n
blanks_pass bytes place next fs n w k = record { within = k.within; same = sym (skipped bytes place next fs n k) ∙ w.same }

starts : (bytes : List ℕ) (fs : List OpenFrame) (n : Next) → standing fs n ≡ at [] before_value → OnTheWay bytes 0 fs n
unfolding reading
starts bytes fs n e = record { within = omega arith; same = ap (λ w. reads 0 w bytes) e }

pub starts_after : (bytes : List ℕ) (place : ℕ) (fs : List OpenFrame) (n : Next) → standing fs n ≡ at [] before_value → Skips bytes 0 place → OnTheWay bytes place fs n
starts_after bytes place fs n e k = blanks_pass bytes 0 place fs n (starts bytes fs n e) k

pub is_done : (bytes : List ℕ) (place : ℕ) (fs : List OpenFrame) (n : Next) (result : Result Json JsonFault) → OnTheWay bytes place fs n → length bytes ≤ place → Gives tree result (finish (length bytes) (frames_view fs) (next_view n)) → Gives tree result (reading bytes)
is_done bytes place fs n result w h g =
    let within : place ≤ length bytes = w.within in
    let same : length bytes ≡ place = omega arith in
    subst (Gives tree result) (ap (λ i. finish i (frames_view fs) (next_view n)) same ∙ sym (end_value bytes place fs n h) ∙ w.same) g

goes_on : (bytes : List ℕ) (place : ℕ) (fs gs : List OpenFrame) (n : Next) (p : Next × ℕ) → OnTheWay bytes place fs n → Moves bytes place (reads place (standing fs n) (drop place bytes)) gs (Ok p) → OnTheWay bytes p.1 gs p.0
goes_on bytes place fs gs n p w m = record { within = m.1; same = sym m.2 ∙ w.same }

pub goes_after : (bytes : List ℕ) (place next : ℕ) (fs gs : List OpenFrame) (n : Next) (p : Next × ℕ) → OnTheWay bytes place fs n → Moves bytes place (reads place (standing fs n) (drop place bytes)) gs (Ok p) → Skips bytes p.1 next → OnTheWay bytes next gs p.0
goes_after bytes place next fs gs n p w m k = blanks_pass bytes p.1 next gs p.0 (goes_on bytes place fs gs n p w m) k

pub ends : (bytes : List ℕ) (place : ℕ) (fs : List OpenFrame) (n : Next) (f : JsonFault) → OnTheWay bytes place fs n → Fails f (reads place (standing fs n) (drop place bytes)) → Fails f (reading bytes)
ends bytes place fs n f w h = fails_as f _ _ (sym w.same) h

-- the same reading, told otherwise
pub moves_as : (bytes : List ℕ) (place : ℕ) (x y : Result Tree JsonFault) (gs : List OpenFrame) (r : Result (Next × ℕ) JsonFault) → x ≡ y → Moves bytes place y gs r → Moves bytes place x gs r
moves_as bytes place x y gs r e m = subst (λ z. Moves bytes place z gs r) (sym e) m

pub no_value_begins : (bytes : List ℕ) (place : ℕ) (fs : List Frame) → place < length bytes → IsOtherByte (get_or bytes place 0) → (IsNumberByte (get_or bytes place 0) → ⊥) → begins place fs (drop place bytes) ≡ Err (Syntax place)
no_value_begins bytes place fs h o n = begins_stop bytes place fs (Syntax place) h (begins_other place fs (get_or bytes place 0) o.0 o.1 o.2 o.3 o.4 o.5 (λ e. n (inl e)) (λ d. n (inr d)))

-- the state's parts
pub value_at : (bytes : List ℕ) (place : ℕ) (fs : List OpenFrame) (n : Next) (gs : List OpenFrame) (r : Result (Next × ℕ) JsonFault) → place < length bytes → is_blank (get_or bytes place 0) ≡ false → n ≡ Next.Value → Moves bytes place (begins place (frames_view fs) (drop place bytes)) gs r → Moves bytes place (reads place (standing fs n) (drop place bytes)) gs r
value_at bytes place fs n gs r h e same m = moves_as bytes place _ _ gs r (ap (λ k. reads place (standing fs k) (drop place bytes)) same ∙ on_value bytes place (frames_view fs) h e) m

pub end_at : (bytes : List ℕ) (place : ℕ) (fs : List OpenFrame) (n : Next) (v : Json) → place < length bytes → is_blank (get_or bytes place 0) ≡ false → n ≡ Next.End v → reads place (standing fs n) (drop place bytes) ≡ Err (Syntax place)
end_at bytes place fs n v h e same = ap (λ k. reads place (standing fs k) (drop place bytes)) same ∙ stop_byte bytes place (frames_view fs) (ended (tree v)) (Syntax place) h (end_other place (frames_view fs) (tree v) _ e)
