-- The reading takes the bytes of each value that fits to the state after it.
use Rattle.std.proofs.Common.{◌≡◌, ℕ, zero, suc, ◌+◌, ◌-◌, ◌^◌, ◌<◌, ◌≤◌, ◌⊎◌, Bool, true, false, cond, nat_lt, ◌==◌, List, [], ◌∷◌, ◌++◌, length, Result, Ok, Err, ℤ, refl, sym, ap, ◌∙◌, subst, inl, inr, arith, append_assoc, append-nil, ltb-true, ltb-false}
use Rattle.std.proofs.lemmas.Bool.{cond-true, cond-false, cases_Bool, lt-ltb, ne_eqb, leb-true, le-leb, false≢true}
use Rattle.std.proofs.lemmas.List.{length-append}
use lib.Utf8.{encodes}
use Rattle.lg_json.specs.Tree.{Tree, Trees, Members, Entry, trees, entries}
use Rattle.lg_json.specs.Tree.Tree.{null, truth, whole, part, text, list, members}
use Rattle.lg_json.specs.Tree.Trees.{none, item}
use Rattle.lg_json.specs.Tree.Members.{no_member, member}
use Rattle.lg_json.specs.Grammar.{IsBlank, IsBlankByte, IsInt, IsFraction, IsExponent, IsFractionAndExponent, number_from, signed, minus_if, Padded, IsString, IsMember, IsValue, AreItems, AreMembers, InRange, Fits, AllFit, MembersFit}
use Rattle.lg_json.specs.Reading.{Frame, Mode, at, is_blank, is_digit, complete, begin, capped, fits, begins_part, has_name, with_name, end_text, step, and_then, reads}
use Rattle.lg_json.specs.Reading.Frame.{in_list, in_object, named}
use Rattle.lg_json.specs.Reading.Mode.{before_value, before_first, before_first_name, before_name, before_colon, in_text, after_item}
use Rattle.lg_json.specs.Fault.{EndsNumber}
use Rattle.lg_json.specs.declared.json.JsonFault.{JsonFault}
use Rattle.lg_json.specs.declared.json.JsonFault.TheVariants.{NotWhole, TooWide, TooDeep, Repeated}
use Rattle.lg_json.specs.Reading.{Role}
use Rattle.lg_json.specs.declared.state.TextMode.TheVariants.{Character}
use Rattle.lg_containers.specs.declared.utf8.Utf8State.TheVariants.{Boundary}
use Rattle.lg_json.proofs.Meets.{Meets, Any, then_on, meets_from, meets_under, meets_before}
use Rattle.lg_json.proofs.Meets.Meets.{goes, stops}
use Rattle.lg_json.specs.Tokens.{Passes, begins}
use Rattle.lg_json.proofs.Reaches.{reads_one, reads_at, past_blanks, value_passes, first_passes, first_name_passes, name_passes, colon_passes, item_passes, begins_at, value_begins, first_begins, word_null, word_true, word_false, number_goes}
use Rattle.lg_json.proofs.TextRuns.{chars_run, text_reads}
use Rattle.lg_json.proofs.Names.{AllNew, new_to_none, all_new_push, list_of, entries_of, trees-list_of, entries-entries_of}

-- the room for what is in the innermost of what is open
abbrev pub room_in : List Frame → ℕ
room_in fs = 64 - length fs

-- every value begins with a byte that is no blank and no closing bracket
pub record Head (word : List ℕ) : Type 0 where
  pub first : ℕ
  pub others : List ℕ
  pub parts : word ≡ first ∷ others
  pub no_blank : is_blank first ≡ false
  pub no_bracket : (first == 93) ≡ false

digit_no_blank : (d : ℕ) → 48 ≤ d → d ≤ 57 → (is_blank d ≡ false) × ((d == 93) ≡ false)
digit_no_blank d low high =
    let n32 = ne_eqb d 32 (λ e. omega arith) in
    let n9 = ne_eqb d 9 (λ e. omega arith) in
    let n10 = ne_eqb d 10 (λ e. omega arith) in
    let n13 = ne_eqb d 13 (λ e. omega arith) in
    (rw (n32, n9, n10, n13) refl, ne_eqb d 93 (λ e. omega arith))

head_of_int : (negative : Bool) (digits more : List ℕ) → IsInt digits → Head ((minus_if negative ++ digits) ++ more)
head_of_int true digits more h = record { first = 45; others = digits ++ more; parts = refl; no_blank = refl; no_bracket = refl }
head_of_int false [] more h = elim h [ inl e ↦ absurd cc | inr e ↦ absurd e ]
head_of_int false (d ∷ ds) more h = elim h [
  | inl e ↦ record { first = 48; others = more; parts = ap (λ (l : List ℕ). l ++ more) e; no_blank = refl; no_bracket = refl }
  | inr p ↦ (let p0 : 49 ≤ d = p.0 in let p1 : d ≤ 57 = p.1 in let low : 48 ≤ d = omega arith in let t = digit_no_blank d low p1 in record { first = d; others = ds ++ more; parts = refl; no_blank = t.0; no_bracket = t.1 })
]

head_from : (a b : List ℕ) → a ≡ b → Head b → Head a
head_from a b e h = record { first = h.first; others = h.others; parts = e ∙ h.parts; no_blank = h.no_blank; no_bracket = h.no_bracket }

pub head_of : (t : Tree) (word : List ℕ) → IsValue t word → Head word
head_of null word h = record { first = 110; others = 117 ∷ 108 ∷ 108 ∷ []; parts = h; no_blank = refl; no_bracket = refl }
head_of (truth true) word h = record { first = 116; others = 114 ∷ 117 ∷ 101 ∷ []; parts = h; no_blank = refl; no_bracket = refl }
head_of (truth false) word h = record { first = 102; others = 97 ∷ 108 ∷ 115 ∷ 101 ∷ []; parts = h; no_blank = refl; no_bracket = refl }
head_of (whole n) word h = head_from word _ (h.parts ∙ sym (append-nil _)) (head_of_int h.negative h.digits [] h.is_int)
head_of part word h = head_from word _ (h.5 ∙ ap (λ (l : List ℕ). l ++ h.2) h.3.parts) (head_of_int h.3.negative h.3.digits h.2 h.3.is_int)
head_of (text t) word h = record { first = 34; others = h.inner ++ 34 ∷ []; parts = h.parts; no_blank = refl; no_bracket = refl }
head_of (list ts) word h = record { first = 91; others = h.0 ++ 93 ∷ []; parts = h.2; no_blank = refl; no_bracket = refl }
head_of (members ms) word h = record { first = 123; others = h.0 ++ 125 ∷ []; parts = h.2; no_blank = refl; no_bracket = refl }

-- where a value may begin, after blanks
pub record Ready (fs : List Frame) (m : Mode) : Type 0 where
  pub passes : Passes fs m
  pub starts : (i b : ℕ) (bs : List ℕ) → is_blank b ≡ false → (b == 93) ≡ false → reads i (at fs m) (b ∷ bs) ≡ begins i fs (b ∷ bs)

pub value_ready : (fs : List Frame) → Ready fs before_value
value_ready fs = record { passes = value_passes fs; starts = λ i b bs e f. value_begins i fs b bs e }

pub first_ready : (fs : List Frame) → Ready fs before_first
first_ready fs = record { passes = first_passes fs; starts = λ i b bs e f. first_begins i fs b bs e f }

pub starts_word : (fs : List Frame) (m : Mode) (word rest : List ℕ) (i : ℕ) → Ready fs m → Head word → reads i (at fs m) (word ++ rest) ≡ begins i fs (word ++ rest)
starts_word fs m word rest i r h = rw h.parts (r.starts i h.first (h.others ++ rest) h.no_blank h.no_bracket)

-- what the reading does with a value
abbrev pub Goes : Tree → Type 0
Goes t = (i j : ℕ) (fs : List Frame) (word : List ℕ) → IsValue t word → j ≡ i + length word → Meets (Fits (room_in fs) t) EndsNumber (λ rest. begins i fs (word ++ rest)) (λ rest. reads j (complete fs t) rest)

abbrev pub AllGo : Trees → Type 0
AllGo none = Unit {0}
AllGo (item t ts) = Goes t × AllGo ts

abbrev pub MembersGo : Members → Type 0
MembersGo no_member = Unit {0}
MembersGo (member name t ms) = Goes t × MembersGo ms

-- what may follow a value
pub record Delimits (e : ℕ) : Type 0 where
  pub no_digit : is_digit e ≡ false
  pub no_part : begins_part e ≡ false

pub comma : Delimits 44
comma = record { no_digit = refl; no_part = refl }

pub bracket : Delimits 93
bracket = record { no_digit = refl; no_part = refl }

pub brace : Delimits 125
brace = record { no_digit = refl; no_part = refl }

pub blank_ends : (b : ℕ) → IsBlankByte b → (is_digit b ≡ false) × (begins_part b ≡ false)
blank_ends b h = elim h [
  | inl e ↦ (rw e refl, rw e refl)
  | inr h1 ↦ elim h1 [ inl e ↦ (rw e refl, rw e refl) | inr h2 ↦ elim h2 [ inl e ↦ (rw e refl, rw e refl) | inr e ↦ (rw e refl, rw e refl) ] ]
]

pub ends_after : (blank : List ℕ) (e : ℕ) (rest : List ℕ) → IsBlank blank → Delimits e → EndsNumber ((blank ++ e ∷ []) ++ rest)
ends_after [] e rest h d = (d.no_digit, d.no_part)
ends_after (b ∷ bs) e rest h d = blank_ends b h.0

-- a value with blanks around it, where the state after it passes over blanks
pub padded_goes : (t : Tree) → Goes t → (i j : ℕ) (fs : List Frame) (m k : Mode) (gs : List Frame) (bytes : List ℕ) (e : ℕ) → Delimits e → Ready fs m → complete fs t ≡ at gs k → Passes gs k → Padded (IsValue t) bytes → j ≡ i + length bytes
    → Meets (Fits (room_in fs) t) Any (λ rest. reads i (at fs m) (bytes ++ e ∷ rest)) (λ rest. reads j (at gs k) (e ∷ rest))
padded_goes t g i j fs m k gs bytes e d ready same passes h place =
    let before = h.0 in
    let inner = h.1 in
    let after = h.2 in
    let total : length bytes ≡ length before + (length inner + length after) = ap length h.6 ∙ length-append before (inner ++ after) ∙ ap (λ n. length before + n) (length-append inner after) in
    let i1 = i + length before in
    let j1 = i1 + length inner in
    meets_from
    (λ rest _. ap (λ (l : List ℕ). reads i (at fs m) l) (regroup rest) ∙ past_blanks fs m before (inner ++ ((after ++ e ∷ []) ++ rest)) i i1 ready.passes h.3 refl ∙ starts_word fs m inner ((after ++ e ∷ []) ++ rest) i1 ready (head_of t inner h.4))
    (λ rest _. ap (λ (l : List ℕ). reads j1 (complete fs t) l) (append_assoc after (e ∷ []) rest) ∙ ap (λ s. reads j1 s (after ++ e ∷ rest)) same ∙ past_blanks gs k after (e ∷ rest) j1 j passes h.5 (omega arith))
    (meets_before (after ++ e ∷ []) (λ rest _. ends_after after e rest h.5 d) (g i1 j1 fs inner h.4 refl))
  where
    regroup : (rest : List ℕ) → bytes ++ e ∷ rest ≡ h.0 ++ (h.1 ++ ((h.2 ++ e ∷ []) ++ rest))
    regroup rest = rw h.6 (simp append_assoc)

-- after an item
pub comma_item : (i : ℕ) (ts : List Tree) (fs : List Frame) → step i (in_list ts ∷ fs) after_item 44 ≡ Ok (at (in_list ts ∷ fs) before_value)
unfolding step
comma_item i ts fs = refl

bracket_item : (i : ℕ) (ts : List Tree) (fs : List Frame) → step i (in_list ts ∷ fs) after_item 93 ≡ Ok (complete fs (list (trees ts)))
unfolding step
bracket_item i ts fs = refl

pub comma_member : (i : ℕ) (ms : List Entry) (fs : List Frame) → step i (in_object ms ∷ fs) after_item 44 ≡ Ok (at (in_object ms ∷ fs) before_name)
unfolding step
comma_member i ms fs = refl

brace_member : (i : ℕ) (ms : List Entry) (fs : List Frame) → step i (in_object ms ∷ fs) after_item 125 ≡ Ok (complete fs (members (entries ms)))
unfolding step
brace_member i ms fs = refl

first_bracket : (i : ℕ) (fs : List Frame) → step i (in_list [] ∷ fs) before_first 93 ≡ Ok (complete fs (list none))
unfolding step
first_bracket i fs = refl

first_brace : (i : ℕ) (fs : List Frame) → step i (in_object [] ∷ fs) before_first_name 125 ≡ Ok (complete fs (members no_member))
unfolding step
first_brace i fs = refl

-- the items that are left, up to the byte that ends them
pub items_go : (t : Tree) (us : Trees) → Goes t → AllGo us → (ts : List Tree) (i j : ℕ) (fs : List Frame) (m : Mode) (inner : List ℕ) (e : ℕ) → Delimits e → Ready (in_list ts ∷ fs) m → AreItems (item t us) inner → j ≡ i + length inner
    → Meets (AllFit (room_in (in_list ts ∷ fs)) (item t us)) Any (λ rest. reads i (at (in_list ts ∷ fs) m) (inner ++ e ∷ rest)) (λ rest. reads j (at (in_list (ts ++ list_of (item t us)) ∷ fs) after_item) (e ∷ rest))
items_go t none g gs ts i j fs m inner e d ready h place =
    meets_under (λ p. p.0) (padded_goes t g i j (in_list ts ∷ fs) m after_item (in_list (ts ++ t ∷ []) ∷ fs) inner e d ready refl (item_passes (in_list (ts ++ t ∷ []) ∷ fs)) h place)
items_go t (item u us) g gs ts i j fs m inner e d ready h place =
    let first = h.0 in
    let others = h.1 in
    let j1 = i + length first in
    let total : length inner ≡ length first + suc (length others) = ap length h.4 ∙ length-append first (44 ∷ others) in
    let frame = in_list (ts ++ t ∷ []) in
    meets_under (λ p. (p.0, p.1))
    (then_on
    (meets_from
    (λ rest _. ap (λ (l : List ℕ). reads i (at (in_list ts ∷ fs) m) l) (regroup rest))
    (λ rest _. reads_one j1 (frame ∷ fs) after_item 44 ((others ++ e ∷ []) ++ rest) (at (frame ∷ fs) before_value) (comma_item j1 (ts ++ t ∷ []) fs) ∙ ap (λ (l : List ℕ). reads (suc j1) (at (frame ∷ fs) before_value) l) (append_assoc others (e ∷ []) rest))
    (meets_before (others ++ e ∷ []) (λ rest _. tt)
    (padded_goes t g i j1 (in_list ts ∷ fs) m after_item (frame ∷ fs) first 44 comma ready refl (item_passes (in_list (ts ++ t ∷ []) ∷ fs)) h.2 refl)))
    (meets_from (λ rest _. refl) (λ rest _. ap (λ l. reads j (at (in_list l ∷ fs) after_item) (e ∷ rest)) (append_assoc ts (t ∷ []) (u ∷ list_of us)))
    (items_go u us gs.0 gs.1 (ts ++ t ∷ []) (suc j1) j fs before_value others e d (value_ready (frame ∷ fs)) h.3 (omega arith))))
  where
    regroup : (rest : List ℕ) → inner ++ e ∷ rest ≡ h.0 ++ 44 ∷ ((h.1 ++ e ∷ []) ++ rest)
    regroup rest = rw h.4 (simp append_assoc)

-- a text up to its closing quote
closing_quote : (i : ℕ) (fs : List Frame) (role : Role) (t : List ℕ) → step i fs (in_text role t (Character Boundary)) 34 ≡ end_text i fs role t
unfolding step
closing_quote i fs role t = refl

pub string_reads : (t quoted : List ℕ) (s : IsString t quoted) (i k : ℕ) (fs : List Frame) (role : Role) (rest : List ℕ) → k ≡ suc i + length s.inner
    → reads (suc i) (at fs (in_text role [] (Character Boundary))) ((s.inner ++ 34 ∷ []) ++ rest) ≡ and_then (end_text k fs role t) (λ next. reads (suc k) next rest)
unfolding reads
string_reads t quoted s i k fs role rest place =
    ap (λ (l : List ℕ). reads (suc i) (at fs (in_text role [] (Character Boundary))) l) (append_assoc s.inner (34 ∷ []) rest)
    ∙ text_reads s.inner (34 ∷ rest) (suc i) k fs role [] (encodes s.chars) (Character Boundary) (Character Boundary) (chars_run s.chars [] s.inner s.spelled) place
    ∙ ap (λ r. and_then r (λ next. reads (suc k) next rest)) (closing_quote k fs role (encodes s.chars) ∙ ap (end_text k fs role) (sym s.value))

-- where a name may begin, after blanks
pub record NameReady (fs : List Frame) (m : Mode) : Type 0 where
  pub passes : Passes fs m
  pub starts : (i : ℕ) → step i fs m 34 ≡ Ok (at fs (in_text (Role.Name i) [] (Character Boundary)))

pub first_name_ready : (fs : List Frame) → NameReady fs before_first_name
unfolding step
first_name_ready fs = record { passes = first_name_passes fs; starts = λ i. refl }

pub name_ready : (fs : List Frame) → NameReady fs before_name
unfolding step
name_ready fs = record { passes = name_passes fs; starts = λ i. refl }

pub colon_step : (i : ℕ) (fs : List Frame) → step i fs before_colon 58 ≡ Ok (at fs before_value)
unfolding step
colon_step i fs = refl

-- a name up to its closing quote
pub quoted_reads : (name quoted : List ℕ) → IsString name quoted → (i k : ℕ) (ms : List Entry) (fs : List Frame) (m : Mode) (rest : List ℕ) → NameReady (in_object ms ∷ fs) m → suc k ≡ i + length quoted
    → reads i (at (in_object ms ∷ fs) m) (quoted ++ rest) ≡ and_then (with_name k i (in_object ms ∷ fs) name) (λ next. reads (suc k) next rest)
quoted_reads name quoted s i k ms fs m rest ready place =
    let total : length quoted ≡ suc (length (s.inner ++ 34 ∷ [])) = ap length s.parts in
    let total2 : length (s.inner ++ 34 ∷ []) ≡ length s.inner + 1 = length-append s.inner (34 ∷ []) in
    ap (λ (l : List ℕ). reads i (at (in_object ms ∷ fs) m) (l ++ rest)) s.parts
    ∙ reads_one i (in_object ms ∷ fs) m 34 ((s.inner ++ 34 ∷ []) ++ rest) _ (ready.starts i)
    ∙ string_reads name quoted s i k (in_object ms ∷ fs) (Role.Name i) rest (omega arith)

pub name_goes : (name a : List ℕ) → Padded (IsString name) a → (i j : ℕ) (ms : List Entry) (fs : List Frame) (m : Mode) → NameReady (in_object ms ∷ fs) m → j ≡ i + suc (length a)
    → Meets (has_name name ms ≡ false) Any (λ rest. reads i (at (in_object ms ∷ fs) m) (a ++ 58 ∷ rest)) (λ rest. reads j (at (named ms name ∷ fs) before_value) rest)
name_goes name a h i j ms fs m ready place = elim (cases_Bool (has_name name ms)) [
  | inl twice ↦ stops (Repeated i1) tt (λ new. false≢true (sym new ∙ twice)) (λ rest _. to_quote rest ∙ ap (λ r. and_then r (λ next. reads (suc k) next (h.2 ++ 58 ∷ rest))) (cond-true (has_name name ms) (Err (Repeated i1)) (Ok (at (named ms name ∷ fs) before_colon)) twice))
  | inr new ↦ goes (λ rest _. to_quote rest
      ∙ ap (λ r. and_then r (λ next. reads (suc k) next (h.2 ++ 58 ∷ rest))) (cond-false (has_name name ms) (Err (Repeated i1)) (Ok (at (named ms name ∷ fs) before_colon)) new)
      ∙ past_blanks (named ms name ∷ fs) before_colon h.2 (58 ∷ rest) (suc k) (suc k + length h.2) (colon_passes _) h.5 refl
      ∙ reads_one (suc k + length h.2) (named ms name ∷ fs) before_colon 58 rest (at (named ms name ∷ fs) before_value) (colon_step _ _)
      ∙ reads_at _ j _ rest last_place)
]
  where
    i1 : ℕ
    i1 = i + length h.0

    k : ℕ
    k = i1 + length h.4.inner + 1

    total : length a ≡ length h.0 + (length h.1 + length h.2)
    total = ap length h.6 ∙ length-append h.0 (h.1 ++ h.2) ∙ ap (λ n. length h.0 + n) (length-append h.1 h.2)

    quoted_length : length h.1 ≡ length h.4.inner + 2
    quoted_length = let e : length h.1 ≡ suc (length (h.4.inner ++ 34 ∷ [])) = ap length h.4.parts in omega (arith, length-append h.4.inner (34 ∷ []))

    quote_place : suc k ≡ i1 + length h.1
    quote_place = omega (arith, quoted_length)

    last_place : suc (suc k + length h.2) ≡ j
    last_place = omega (arith, total, quoted_length)

    regroup : (rest : List ℕ) → a ++ 58 ∷ rest ≡ h.0 ++ (h.1 ++ (h.2 ++ 58 ∷ rest))
    regroup rest = rw h.6 (simp append_assoc)

    to_quote : (rest : List ℕ) → reads i (at (in_object ms ∷ fs) m) (a ++ 58 ∷ rest) ≡ and_then (with_name k i1 (in_object ms ∷ fs) name) (λ next. reads (suc k) next (h.2 ++ 58 ∷ rest))
    to_quote rest =
        ap (λ (l : List ℕ). reads i (at (in_object ms ∷ fs) m) l) (regroup rest)
        ∙ past_blanks (in_object ms ∷ fs) m h.0 (h.1 ++ (h.2 ++ 58 ∷ rest)) i i1 ready.passes h.3 refl
        ∙ quoted_reads name h.1 h.4 i1 k ms fs m (h.2 ++ 58 ∷ rest) ready quote_place

pub member_goes : (name : List ℕ) (t : Tree) → Goes t → (i j : ℕ) (ms : List Entry) (fs : List Frame) (m : Mode) (bytes : List ℕ) (e : ℕ) → Delimits e → NameReady (in_object ms ∷ fs) m → IsMember name (IsValue t) bytes → j ≡ i + length bytes
    → Meets ((has_name name ms ≡ false) × Fits (room_in (named ms name ∷ fs)) t) Any (λ rest. reads i (at (in_object ms ∷ fs) m) (bytes ++ e ∷ rest)) (λ rest. reads j (at (in_object (ms ++ (name, t) ∷ []) ∷ fs) after_item) (e ∷ rest))
member_goes name t g i j ms fs m bytes e d ready h place =
    let a = h.0 in
    let b = h.1 in
    let j1 = i + suc (length a) in
    let total : length bytes ≡ length a + suc (length b) = ap length h.4 ∙ length-append a (58 ∷ b) in
    then_on
    (meets_from
    (λ rest _. ap (λ (l : List ℕ). reads i (at (in_object ms ∷ fs) m) l) (regroup rest))
    (λ rest _. ap (λ (l : List ℕ). reads j1 (at (named ms name ∷ fs) before_value) l) (append_assoc b (e ∷ []) rest))
    (meets_before (b ++ e ∷ []) (λ rest _. tt) (name_goes name a h.2 i j1 ms fs m ready refl)))
    (padded_goes t g j1 j (named ms name ∷ fs) before_value after_item (in_object (ms ++ (name, t) ∷ []) ∷ fs) b e d (value_ready (named ms name ∷ fs)) refl (item_passes (in_object (ms ++ (name, t) ∷ []) ∷ fs)) h.3 (omega arith))
  where
    regroup : (rest : List ℕ) → bytes ++ e ∷ rest ≡ h.0 ++ 58 ∷ ((h.1 ++ e ∷ []) ++ rest)
    regroup rest = rw h.4 (simp append_assoc)

-- the members that are left, up to the byte that ends them
pub members_go : (name : List ℕ) (t : Tree) (us : Members) → Goes t → MembersGo us → (ms : List Entry) (i j : ℕ) (fs : List Frame) (m : Mode) (inner : List ℕ) (e : ℕ) → Delimits e → NameReady (in_object ms ∷ fs) m → AreMembers (member name t us) inner → j ≡ i + length inner
    → Meets (AllNew ms (member name t us) × MembersFit (room_in (in_object ms ∷ fs)) (member name t us)) Any (λ rest. reads i (at (in_object ms ∷ fs) m) (inner ++ e ∷ rest)) (λ rest. reads j (at (in_object (ms ++ entries_of (member name t us)) ∷ fs) after_item) (e ∷ rest))
members_go name t no_member g gs ms i j fs m inner e d ready h place =
    meets_under (λ p. (p.0.0, p.1.1)) (member_goes name t g i j ms fs m inner e d ready h place)
members_go name t (member other u us) g gs ms i j fs m inner e d ready h place =
    let first = h.0 in
    let others = h.1 in
    let j1 = i + length first in
    let total : length inner ≡ length first + suc (length others) = ap length h.4 ∙ length-append first (44 ∷ others) in
    let frame = in_object (ms ++ (name, t) ∷ []) in
    meets_under (λ p. ((p.0.0, p.1.1), (all_new_push ms name t (member other u us) p.0.1 p.1.0, p.1.2)))
    (then_on
    (meets_from
    (λ rest _. ap (λ (l : List ℕ). reads i (at (in_object ms ∷ fs) m) l) (regroup rest))
    (λ rest _. reads_one j1 (frame ∷ fs) after_item 44 ((others ++ e ∷ []) ++ rest) (at (frame ∷ fs) before_name) (comma_member j1 (ms ++ (name, t) ∷ []) fs) ∙ ap (λ (l : List ℕ). reads (suc j1) (at (frame ∷ fs) before_name) l) (append_assoc others (e ∷ []) rest))
    (meets_before (others ++ e ∷ []) (λ rest _. tt) (member_goes name t g i j1 ms fs m first 44 comma ready h.2 refl)))
    (meets_from (λ rest _. refl) (λ rest _. ap (λ l. reads j (at (in_object l ∷ fs) after_item) (e ∷ rest)) (append_assoc ms ((name, t) ∷ []) ((other, u) ∷ entries_of us)))
    (members_go other u us gs.0 gs.1 (ms ++ (name, t) ∷ []) (suc j1) j fs before_name others e d (name_ready (frame ∷ fs)) h.3 (omega arith))))
  where
    regroup : (rest : List ℕ) → inner ++ e ∷ rest ≡ h.0 ++ 44 ∷ ((h.1 ++ e ∷ []) ++ rest)
    regroup rest = rw h.4 (simp append_assoc)

-- before fewer rests
meets_weaken : {P : Type 0} {G : List ℕ → Type 0} {x y : List ℕ → Result Tree JsonFault} → Meets P Any x y → Meets P G x y
meets_weaken (goes f) = goes (λ rest h. f rest tt)
meets_weaken (stops fault other bars f) = stops fault other bars (λ rest h. f rest tt)

-- numbers
pub in_range_fits : (negative : Bool) (m : ℕ) → InRange (signed negative m) → fits negative (capped m) ≡ true
in_range_fits false m h = lt-ltb (capped m) (2 ^ 127) (omega arith)
in_range_fits true zero h = refl
in_range_fits true (suc k) h = le-leb (capped (suc k)) (2 ^ 127) (omega arith)

pub fits_uncapped : (negative : Bool) (m : ℕ) → fits negative (capped m) ≡ true → capped m ≡ m
fits_uncapped true m e = let k : capped m ≤ 2 ^ 127 = leb-true (capped m) (2 ^ 127) e in omega arith
fits_uncapped false m e = let k : capped m < 2 ^ 127 = ltb-true (capped m) (2 ^ 127) e in omega arith

whole_goes : (n : ℤ) → Goes (whole n)
whole_goes n i j fs word h place =
    let v = number_from 0 h.digits in
    let digits = minus_if h.negative ++ h.digits in
    let number = number_goes i j fs h.negative h.digits h.is_int (let e : length word ≡ length digits = ap length h.parts in omega arith) in
    elim (cases_Bool (fits h.negative (capped v))) [
      | inl ok ↦ goes (λ rest r. ap (λ (l : List ℕ). begins i fs (l ++ rest)) h.parts ∙ number.ends rest r ok ∙ ap (λ k. reads j (complete fs (whole k)) rest) (ap (signed h.negative) (fits_uncapped h.negative v ok) ∙ sym h.value))
      | inr wide ↦ stops (TooWide i) tt (λ p. false≢true (sym wide ∙ in_range_fits h.negative v (subst InRange h.value p))) (λ rest r. ap (λ (l : List ℕ). begins i fs (l ++ rest)) h.parts ∙ number.wide rest r wide)
    ]

-- the byte with which a fraction or an exponent begins
pub record PartHead (more : List ℕ) : Type 0 where
  pub first : ℕ
  pub others : List ℕ
  pub parts : more ≡ first ∷ others
  pub begins_one : begins_part first ≡ true

pub part_head : (more : List ℕ) → IsFraction more ⊎ IsExponent more ⊎ IsFractionAndExponent more → PartHead more
part_head more h = elim h [
  | inl f ↦ record { first = 46; others = f.0; parts = f.2; begins_one = refl }
  | inr h1 ↦ elim h1 [
    | inl x ↦ record { first = x.0; others = x.1 ++ x.2; parts = x.6; begins_one = elim x.3 [ inl e ↦ rw e refl | inr e ↦ rw e refl ] }
    | inr b ↦ record { first = 46; others = b.2.0 ++ b.1; parts = b.4 ∙ ap (λ (l : List ℕ). l ++ b.1) b.2.2; begins_one = refl }
  ]
]

part_goes : Goes part
part_goes i j fs word h place =
    let n = h.3 in
    let digits = minus_if n.negative ++ n.digits in
    let more = part_head h.2 h.4 in
    let number = number_goes i (i + length digits) fs n.negative n.digits n.is_int refl in
    stops (NotWhole i) tt (λ p. p)
    (λ rest r. ap (λ (l : List ℕ). begins i fs (l ++ rest)) (h.5 ∙ ap (λ (l : List ℕ). l ++ h.2) n.parts) ∙ ap (λ (l : List ℕ). begins i fs l) (append_assoc digits h.2 rest ∙ ap (λ (l : List ℕ). digits ++ (l ++ rest)) more.parts) ∙ number.has_part more.first (more.others ++ rest) more.begins_one)

-- texts
begin_quote : (i : ℕ) (fs : List Frame) → begin i fs 34 ≡ Ok (at fs (in_text Role.Value [] (Character Boundary)))
unfolding begin
begin_quote i fs = refl

text_goes : (t : List ℕ) → Goes (text t)
text_goes t i j fs word h place =
    let total : length word ≡ suc (length (h.inner ++ 34 ∷ [])) = ap length h.parts in
    goes (λ rest r. ap (λ (l : List ℕ). begins i fs (l ++ rest)) h.parts ∙ begins_at i fs 34 ((h.inner ++ 34 ∷ []) ++ rest) _ (begin_quote i fs)
    ∙ string_reads t word h i (suc i + length h.inner) fs Role.Value rest refl ∙ reads_at _ j (complete fs (text t)) rest (omega (arith, length-append h.inner (34 ∷ []))))

-- lists
pub begin_list : (i : ℕ) (fs : List Frame) → begin i fs 91 ≡ cond (nat_lt (length fs) 64) (Ok (at (in_list [] ∷ fs) before_first)) (Err (TooDeep i))
unfolding begin
begin_list i fs = refl

pub begin_object : (i : ℕ) (fs : List Frame) → begin i fs 123 ≡ cond (nat_lt (length fs) 64) (Ok (at (in_object [] ∷ fs) before_first_name)) (Err (TooDeep i))
unfolding begin
begin_object i fs = refl

less_room : (f : Frame) (fs : List Frame) → room_in fs - 1 ≡ room_in (f ∷ fs)
less_room f fs = omega arith

list_inside : (ts : Trees) → AllGo ts → (i j : ℕ) (fs : List Frame) (inner : List ℕ) → AreItems ts inner → j ≡ i + suc (length inner)
    → Meets (AllFit (room_in (in_list [] ∷ fs)) ts) Any (λ rest. reads i (at (in_list [] ∷ fs) before_first) (inner ++ 93 ∷ rest)) (λ rest. reads j (complete fs (list ts)) rest)
list_inside none gs i j fs inner h place =
    goes (λ rest _. past_blanks (in_list [] ∷ fs) before_first inner (93 ∷ rest) i (i + length inner) (first_passes _) h refl ∙ reads_one (i + length inner) (in_list [] ∷ fs) before_first 93 rest (complete fs (list none)) (first_bracket _ fs) ∙ reads_at _ j _ rest (omega arith))
list_inside (item t us) gs i j fs inner h place =
    meets_from (λ rest _. refl)
    (λ rest _. reads_one (i + length inner) (in_list ([] ++ list_of (item t us)) ∷ fs) after_item 93 rest (complete fs (list (trees (list_of (item t us))))) (bracket_item _ (list_of (item t us)) fs)
    ∙ ap (λ k. reads (suc (i + length inner)) (complete fs (list k)) rest) (trees-list_of (item t us)) ∙ reads_at _ j _ rest (omega arith))
    (items_go t us gs.0 gs.1 [] i (i + length inner) fs before_first inner 93 bracket (first_ready (in_list [] ∷ fs)) h refl)

object_inside : (ms : Members) → MembersGo ms → (i j : ℕ) (fs : List Frame) (inner : List ℕ) → AreMembers ms inner → j ≡ i + suc (length inner)
    → Meets (MembersFit (room_in (in_object [] ∷ fs)) ms) Any (λ rest. reads i (at (in_object [] ∷ fs) before_first_name) (inner ++ 125 ∷ rest)) (λ rest. reads j (complete fs (members ms)) rest)
object_inside no_member gs i j fs inner h place =
    goes (λ rest _. past_blanks (in_object [] ∷ fs) before_first_name inner (125 ∷ rest) i (i + length inner) (first_name_passes _) h refl ∙ reads_one (i + length inner) (in_object [] ∷ fs) before_first_name 125 rest (complete fs (members no_member)) (first_brace _ fs) ∙ reads_at _ j _ rest (omega arith))
object_inside (member name t us) gs i j fs inner h place =
    meets_under (λ p. (new_to_none (member name t us), p))
    (meets_from (λ rest _. refl)
    (λ rest _. reads_one (i + length inner) (in_object ([] ++ entries_of (member name t us)) ∷ fs) after_item 125 rest (complete fs (members (entries (entries_of (member name t us))))) (brace_member _ (entries_of (member name t us)) fs)
    ∙ ap (λ k. reads (suc (i + length inner)) (complete fs (members k)) rest) (entries-entries_of (member name t us)) ∙ reads_at _ j _ rest (omega arith))
    (members_go name t us gs.0 gs.1 [] i (i + length inner) fs before_first_name inner 125 brace (first_name_ready (in_object [] ∷ fs)) h refl))

list_goes : (ts : Trees) → AllGo ts → Goes (list ts)
list_goes ts gs i j fs word h place =
    let inner = h.0 in
    let total : length word ≡ suc (length (inner ++ 93 ∷ [])) = ap length h.2 in
    elim (cases_Bool (nat_lt (length fs) 64)) [
      | inl open_still ↦ (let below : length fs < 64 = ltb-true (length fs) 64 open_still in
          meets_under (λ p. subst (λ r. AllFit r ts) (less_room (in_list []) fs) p.1)
          (meets_from
          (λ rest _. ap (λ (l : List ℕ). begins i fs (l ++ rest)) h.2 ∙ begins_at i fs 91 ((inner ++ 93 ∷ []) ++ rest) (at (in_list [] ∷ fs) before_first) (begin_list i fs ∙ cond-true (nat_lt (length fs) 64) _ _ open_still)
          ∙ ap (λ (l : List ℕ). reads (suc i) (at (in_list [] ∷ fs) before_first) l) (append_assoc inner (93 ∷ []) rest))
          (λ rest _. refl)
          (meets_weaken (list_inside ts gs (suc i) j fs inner h.1 (omega (arith, length-append inner (93 ∷ [])))))))
      | inr full ↦ (let above : 64 ≤ length fs = ltb-false (length fs) 64 full in
          stops (TooDeep i) tt (λ p. let some : 0 < 64 - length fs = p.0 in omega arith)
          (λ rest _. ap (λ (l : List ℕ). begins i fs (l ++ rest)) h.2 ∙ ap (λ r. and_then r (λ next. reads (suc i) next ((inner ++ 93 ∷ []) ++ rest))) (begin_list i fs ∙ cond-false (nat_lt (length fs) 64) _ _ full)))
    ]

object_goes : (ms : Members) → MembersGo ms → Goes (members ms)
object_goes ms gs i j fs word h place =
    let inner = h.0 in
    let total : length word ≡ suc (length (inner ++ 125 ∷ [])) = ap length h.2 in
    elim (cases_Bool (nat_lt (length fs) 64)) [
      | inl open_still ↦ (let below : length fs < 64 = ltb-true (length fs) 64 open_still in
          meets_under (λ p. subst (λ r. MembersFit r ms) (less_room (in_object []) fs) p.1)
          (meets_from
          (λ rest _. ap (λ (l : List ℕ). begins i fs (l ++ rest)) h.2 ∙ begins_at i fs 123 ((inner ++ 125 ∷ []) ++ rest) (at (in_object [] ∷ fs) before_first_name) (begin_object i fs ∙ cond-true (nat_lt (length fs) 64) _ _ open_still)
          ∙ ap (λ (l : List ℕ). reads (suc i) (at (in_object [] ∷ fs) before_first_name) l) (append_assoc inner (125 ∷ []) rest))
          (λ rest _. refl)
          (meets_weaken (object_inside ms gs (suc i) j fs inner h.1 (omega (arith, length-append inner (125 ∷ [])))))))
      | inr full ↦ (let above : 64 ≤ length fs = ltb-false (length fs) 64 full in
          stops (TooDeep i) tt (λ p. let some : 0 < 64 - length fs = p.0 in omega arith)
          (λ rest _. ap (λ (l : List ℕ). begins i fs (l ++ rest)) h.2 ∙ ap (λ r. and_then r (λ next. reads (suc i) next ((inner ++ 125 ∷ []) ++ rest))) (begin_object i fs ∙ cond-false (nat_lt (length fs) 64) _ _ full)))
    ]

truth_goes : (b : Bool) → Goes (truth b)
truth_goes true i j fs word h place = goes (λ rest r. ap (λ (l : List ℕ). begins i fs (l ++ rest)) h ∙ word_true i fs rest ∙ reads_at _ j _ rest (let e : length word ≡ 4 = ap length h in omega arith))
truth_goes false i j fs word h place = goes (λ rest r. ap (λ (l : List ℕ). begins i fs (l ++ rest)) h ∙ word_false i fs rest ∙ reads_at _ j _ rest (let e : length word ≡ 5 = ap length h in omega arith))

mutual
  pub value_goes : (t : Tree) → Goes t
  value_goes null = λ i j fs word h place. goes (λ rest r. ap (λ (l : List ℕ). begins i fs (l ++ rest)) h ∙ word_null i fs rest ∙ reads_at _ j _ rest (let e : length word ≡ 4 = ap length h in omega arith))
  value_goes (truth b) = truth_goes b
  value_goes (whole n) = whole_goes n
  value_goes part = part_goes
  value_goes (text t) = text_goes t
  value_goes (list ts) = list_goes ts (all_go ts)
  value_goes (members ms) = object_goes ms (members_all_go ms)

  pub all_go : (ts : Trees) → AllGo ts
  all_go none = tt
  all_go (item t ts) = (value_goes t, all_go ts)

  pub members_all_go : (ms : Members) → MembersGo ms
  members_all_go no_member = tt
  members_all_go (member name t ms) = (value_goes t, members_all_go ms)
