-- The lines of a script stand in order.
use Rattle.std.proofs.Common.{◌≡◌, ◌⊎◌, inl, inr, ℕ, ℤ, pos, negsuc, ◌+◌, ◌<◌, ◌≤◌, Bool, true, false, cond, ◌&&◌, List, [], ◌∷◌, Option, Some, None, refl, sym, ap, subst, ◌∙◌, arith}
use Rattle.std.specs.Prelude.{Ok, Err, nat_le, if◌then◌else◌, codes}
use Rattle.std.specs.List.{filter, enumerate_from}
use Rattle.std.specs.Str.Lines.{lines}
use Rattle.std.proofs.lemmas.Bool.Decides.{nat_tests}
use Rattle.lg_json.specs.Tree.{Tree, Members}
use Rattle.lg_json.specs.Tree.Tree.{null, truth, whole, part, text, list, members}
use Rattle.lg_types.specs.declared.refusals.Reason.TheVariants.{Kind, Form}
use Rattle.lg_types.specs.declared.refusals.Refusal.{Refusal}
use Rattle.lg_types.specs.declared.refusals.Refusal.TheVariants.{LineMember}
use Rattle.lg_types.specs.Lists.{Each, Pairs}
use Rattle.lg_types.proofs.Eachs.{each-map}
use Rattle.lg_views.specs.declared.lines.ScriptLine.{ScriptLine}
use Rattle.lg_readings.specs.Answers.{Answer, Then, GoesOn}
use Rattle.lg_readings.specs.Checked.{has_bytes}
use Rattle.lg_readings.specs.Script.{LineContent, ContentIn, ContentBy, LineAnswer, between, number_member, bad_member, line_of, AreScript, script_lines}
use Rattle.lg_readings.specs.Values.{under}
use Rattle.lg_readings.specs.ReadingLaws.{IsWithinCounts, IsLaterLine, ScriptsInOrder}
use Rattle.lg_views.proofs.Walks.{pairs-filter}

-- ---- readings

-- a reading that gives a value has gone on after the first
record Went {A B : Type 0} (first : Answer A → Type 0) (next : A → Answer B → Type 0) (b : B) : Type 0 where
  value : A
  is_first : first (Ok value)
  goes_on : next value (Ok b)

went-by : {A B : Type 0} (first : Answer A → Type 0) (next : A → Answer B → Type 0) (b : B) (r : Answer A) → first r → GoesOn r next (Ok b) → Went first next b
went-by first next b (Ok a) f n = record { value = a; is_first = f; goes_on = n }
went-by {A = A} {B = B} first next b (Err refusal) f n = absurd (let e : ◌≡◌ {A = Answer B} (Ok b) (Err refusal) = n in cc)

went : {A B : Type 0} {first : Answer A → Type 0} {next : A → Answer B → Type 0} {b : B} → Then first next (Ok b) → Went first next b
went {first = first} {next = next} {b = b} h = went-by first next b h.answer h.is_first h.goes_on

abbrev value_or : {A : Type 0} → A → Answer A → A
value_or a (Ok x) = x
value_or a (Err refusal) = a

same_value : {A : Type 0} (a b : A) → ◌≡◌ {A = Answer A} (Ok a) (Ok b) → a ≡ b
same_value a b e = ap (value_or a) e

-- ---- numbers between two ends

record IsBetween (least most n : ℕ) : Type 0 where
  above : least ≤ n
  below : n ≤ most

between-by : (name : List ℕ) (least most n k : ℕ) (b : Bool) → (nat_le least n && nat_le n most) ≡ b → ◌≡◌ {A = Answer ℕ} (if b then Ok n else bad_member name Form) (Ok k) → IsBetween least most k
between-by name least most n k true t e = subst (IsBetween least most) (same_value n k e) (record { above = grind (arith, nat_tests, t); below = grind (arith, nat_tests, t) })
between-by name least most n k false t e = absurd (let f : ◌≡◌ {A = Answer ℕ} (Err (LineMember name Form)) (Ok k) = e in cc)

between-bounds : (name : List ℕ) (least most : ℕ) (n : ℤ) (k : ℕ) → between name least most n ≡ Ok k → IsBetween least most k
between-bounds name least most (pos n) k e = between-by name least most n k (nat_le least n && nat_le n most) refl e
between-bounds name least most (negsuc n) k e = absurd (let f : ◌≡◌ {A = Answer ℕ} (Err (LineMember name Form)) (Ok k) = e in cc)

no_kind : (name : List ℕ) (k : ℕ) (P : Type 0) → ◌≡◌ {A = Answer ℕ} (Err (LineMember name Kind)) (Ok k) → P
no_kind name k P e = absurd (let f : ◌≡◌ {A = Answer ℕ} (Err (LineMember name Kind)) (Ok k) = e in cc)

number-bounds : (name : List ℕ) (least most : ℕ) (value : Option Tree) (k : ℕ) → number_member name least most value ≡ Ok k → IsBetween least most k
number-bounds name least most None k e = between-bounds name least most (pos 0) k e
number-bounds name least most (Some (whole n)) k e = between-bounds name least most n k e
number-bounds name least most (Some null) k e = no_kind name k (IsBetween least most k) e
number-bounds name least most (Some (truth b)) k e = no_kind name k (IsBetween least most k) e
number-bounds name least most (Some part) k e = no_kind name k (IsBetween least most k) e
number-bounds name least most (Some (text t)) k e = no_kind name k (IsBetween least most k) e
number-bounds name least most (Some (list ts)) k e = no_kind name k (IsBetween least most k) e
number-bounds name least most (Some (members ms)) k e = no_kind name k (IsBetween least most k) e

-- ---- a line

record InBounds (lowest : ℕ) (c : LineContent) : Type 0 where
  caller : IsBetween 0 63 c.caller
  phase : IsBetween lowest 999999 c.phase

content-in : (lowest : ℕ) (ms : Members) (c : LineContent) → ContentIn lowest ms (Ok c) → InBounds lowest c
content-in lowest ms c h =
    let now = went h in
    let moment = went now.goes_on in
    let caller = went moment.goes_on in
    let phase = went caller.goes_on in
    let method = went phase.goes_on in
    let target = went method.goes_on in
    let key = went target.goes_on in
    let call = key.goes_on in
    subst (InBounds lowest) (sym (same_value c _ call.4)) (record {
      caller = number-bounds (codes "caller") 0 63 (under (codes "caller") ms) caller.value (sym caller.is_first);
      phase = number-bounds (codes "phase") lowest 999999 (under (codes "phase") ms) phase.value (sym phase.is_first);
    })

no_object : (c : LineContent) (P : Type 0) → ◌≡◌ {A = Answer LineContent} (Ok c) (Err (LineMember [] Kind)) → P
no_object c P e = absurd (let f : ◌≡◌ {A = Answer LineContent} (Ok c) (Err (LineMember [] Kind)) = e in cc)

content-by : (lowest : ℕ) (t : Tree) (c : LineContent) → ContentBy lowest t (Ok c) → InBounds lowest c
content-by lowest (members ms) c h = content-in lowest ms c h
content-by lowest null c h = no_object c (InBounds lowest c) h
content-by lowest (truth b) c h = no_object c (InBounds lowest c) h
content-by lowest (whole n) c h = no_object c (InBounds lowest c) h
content-by lowest part c h = no_object c (InBounds lowest c) h
content-by lowest (text u) c h = no_object c (InBounds lowest c) h
content-by lowest (list ts) c h = no_object c (InBounds lowest c) h

line-bounds : (lowest : ℕ) (bytes : List ℕ) (c : LineContent) → LineAnswer lowest bytes (Ok c) → InBounds lowest c
line-bounds lowest bytes c (inl found) = content-by lowest found.0 c found.2
line-bounds lowest bytes c (inr fault) = absurd (let f : ◌≡◌ {A = Answer LineContent} (Ok c) (Err fault.refusal) = fault.answer in cc)

-- a line in a phase that isn't earlier, within the counts
record InPlace (phase : ℕ) (l : ScriptLine) : Type 0 where
  within : IsWithinCounts l
  later : phase ≤ l.phase

line-in_place : (phase number : ℕ) (bytes : List ℕ) (r : Answer LineContent) → phase < 1000000 → LineAnswer phase bytes r → InPlace phase (line_of phase number r)
line-in_place phase number bytes (Ok c) few h =
    let bounds = line-bounds phase bytes c h in
    let caller = bounds.caller.below in
    let below = bounds.phase.below in
    record { within = record { caller = omega (arith, caller); phase = omega (arith, below) }; later = bounds.phase.above }
line-in_place phase number bytes (Err refusal) few h = record { within = record { caller = omega arith; phase = few }; later = omega arith }

line-number : (phase number : ℕ) (r : Answer LineContent) → (line_of phase number r).line ≡ number
line-number phase number (Ok c) = refl
line-number phase number (Err refusal) = refl

-- ---- scripts

in_places : (phase : ℕ) (ps : List (ℕ × List ℕ)) (ls : List ScriptLine) → phase < 1000000 → AreScript phase ps ls → Each (InPlace phase) ls
in_places phase [] [] few h = tt
in_places phase [] (l ∷ ls) few h = absurd h
in_places phase (p ∷ ps) [] few h = absurd h
in_places phase (p ∷ ps) (l ∷ ls) few h =
    let here : InPlace phase l = subst (InPlace phase) (sym h.2) (line-in_place phase p.0 p.1 h.0 few h.1) in
    let le = here.later in
    (here, each-map (λ m there. let later = there.later in record { within = there.within; later = omega (arith, le, later) }) ls (in_places l.phase ps ls here.within.phase h.3))

numbers-above : (n phase : ℕ) (ps : List (ℕ × List ℕ)) (ls : List ScriptLine) → Each (λ p. n < p.0) ps → AreScript phase ps ls → Each (λ l. n < l.line) ls
numbers-above n phase [] [] above h = tt
numbers-above n phase [] (l ∷ ls) above h = absurd h
numbers-above n phase (p ∷ ps) [] above h = absurd h
numbers-above n phase (p ∷ ps) (l ∷ ls) above h =
    (subst (λ k. n < k) (sym (ap (λ m. m.line) h.2 ∙ line-number phase p.0 h.0)) above.0, numbers-above n l.phase ps ls above.1 h.3)

later_lines : (n phase : ℕ) (l : ScriptLine) (ls : List ScriptLine) → l.line ≡ n → l.phase ≡ phase → Each (λ m. n < m.line) ls → Each (InPlace phase) ls → Each (IsLaterLine l) ls
later_lines n phase l [] is same above places = tt
later_lines n phase l (m ∷ ls) is same above places =
    let later = places.0.later in
    let number = above.0 in
    (record { number = omega (arith, is, number); phase = omega (arith, same, later) }, later_lines n phase l ls is same above.1 places.1)

in_order : (phase : ℕ) (ps : List (ℕ × List ℕ)) (ls : List ScriptLine) → phase < 1000000 → Pairs (λ p q. p.0 < q.0) ps → AreScript phase ps ls → Pairs IsLaterLine ls
in_order phase [] [] few rise h = tt
in_order phase [] (l ∷ ls) few rise h = absurd h
in_order phase (p ∷ ps) [] few rise h = absurd h
in_order phase (p ∷ ps) (l ∷ ls) few rise h =
    let here : InPlace phase l = subst (InPlace phase) (sym h.2) (line-in_place phase p.0 p.1 h.0 few h.1) in
    let number : l.line ≡ p.0 = ap (λ m. m.line) h.2 ∙ line-number phase p.0 h.0 in (
      later_lines p.0 l.phase l ls number refl (numbers-above p.0 l.phase ps ls rise.0 h.3) (in_places l.phase ps ls here.within.phase h.3),
      in_order l.phase ps ls here.within.phase rise.1 h.3,
    )

places-above : (n : ℕ) (xs : List (List ℕ)) → Each (λ p. n ≤ p.0) (enumerate_from n xs)
places-above n [] = tt
places-above n (x ∷ xs) = (omega arith, each-map (λ p le. let r : n ≤ p.0 = omega (arith, le) in r) (enumerate_from (n + 1) xs) (places-above (n + 1) xs))

places-rise : (n : ℕ) (xs : List (List ℕ)) → Pairs (λ p q. p.0 < q.0) (enumerate_from n xs)
places-rise n [] = tt
places-rise n (x ∷ xs) = (each-map (λ p le. let r : n < p.0 = omega (arith, le) in r) (enumerate_from (n + 1) xs) (places-above (n + 1) xs), places-rise (n + 1) xs)

pub scripts_in_order : ScriptsInOrder
scripts_in_order bytes ls h = (
  each-map (λ l place. place.within) ls (in_places 0 (script_lines bytes) ls (omega arith) h),
  in_order 0 (script_lines bytes) ls (omega arith) (pairs-filter (λ p q. p.0 < q.0) has_bytes (enumerate_from 1 (lines bytes)) (places-rise 1 (lines bytes))) h,
)
