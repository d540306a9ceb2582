-- A string's runs of plain bytes, and what stands between them.
use Rattle.std.proofs.Common.{◌≡◌, ℕ, ◌+◌, ◌-◌, ◌≤◌, ◌<◌, true, false, List, [], ◌∷◌, ◌++◌, length, take, drop, get_or, refl, sym, ◌∙◌, ap, append_assoc, arith}
use Rattle.std.specs.List.{flat_map}
use Rattle.std.proofs.lemmas.List.{take-append-drop, drop-drop, drop_more, take_more, get_or-drop, length-drop, take_all}
use Rattle.std.proofs.lemmas.List.Concat.{flat_map-append}
use Rattle.lg_base.specs.Texts.{is_plain, escape, escaped}

-- the bytes from one place up to another
abbrev pub run : List ℕ → ℕ → ℕ → List ℕ
run text start place = take (place - start) (drop start text)

pub plain_escaped : (b : ℕ) → is_plain b ≡ true → escaped b ≡ b ∷ []
plain_escaped b e = rw e refl

pub other_escaped : (b : ℕ) → is_plain b ≡ false → escaped b ≡ escape b
other_escaped b e = rw e refl

-- what is left from the run's start is the run and what is left from its end
pub run_splits : (text : List ℕ) (start place : ℕ) → start ≤ place → drop start text ≡ run text start place ++ drop place text
run_splits text start place le =
    let e : drop (place - start) (drop start text) ≡ drop place text = drop-drop (place - start) start text ∙ ap (λ (n : ℕ). drop n text) (omega arith) in
    sym (take-append-drop (place - start) (drop start text)) ∙ ap (λ (l : List ℕ). run text start place ++ l) e

-- a run, the byte that ends it, and what is left after that byte
pub run_ends : (text : List ℕ) (start place : ℕ) → start ≤ place → place < length text
    → flat_map escaped (run text start place) ≡ run text start place → is_plain (get_or text place 0) ≡ false
    → flat_map escaped (drop start text) ≡ (run text start place ++ escape (get_or text place 0)) ++ flat_map escaped (drop (place + 1) text)
run_ends text start place le lt plain other =
    ap (λ (l : List ℕ). flat_map escaped l) (run_splits text start place le)
    ∙ flat_map-append escaped (run text start place) (drop place text)
    ∙ ap (λ (l : List ℕ). l ++ flat_map escaped (drop place text)) plain
    ∙ ap (λ (l : List ℕ). run text start place ++ flat_map escaped l) (drop_more text place 0 lt)
    ∙ ap (λ (l : List ℕ). run text start place ++ (l ++ flat_map escaped (drop (place + 1) text))) (other_escaped (get_or text place 0) other)
    ∙ sym (append_assoc (run text start place) (escape (get_or text place 0)) (flat_map escaped (drop (place + 1) text)))

-- a run goes on by a plain byte
pub run_goes_on : (text : List ℕ) (start place : ℕ) → start ≤ place → place < length text
    → flat_map escaped (run text start place) ≡ run text start place → is_plain (get_or text place 0) ≡ true
    → flat_map escaped (run text start (place + 1)) ≡ run text start (place + 1)
run_goes_on text start place le lt plain more =
    let longer : run text start (place + 1) ≡ run text start place ++ get_or text place 0 ∷ [] =
    ap (λ (n : ℕ). take n (drop start text)) (let e : place + 1 - start ≡ place - start + 1 = omega arith in e)
    ∙ take_more (drop start text) (place - start) 0 (omega (arith, length-drop start text))
    ∙ ap (λ (x : ℕ). run text start place ++ x ∷ []) (get_or-drop start text (place - start) 0 ∙ ap (λ (n : ℕ). get_or text n 0) (let e : start + (place - start) ≡ place = omega arith in e)) in
    ap (λ (l : List ℕ). flat_map escaped l) longer
    ∙ flat_map-append escaped (run text start place) (get_or text place 0 ∷ [])
    ∙ ap (λ (l : List ℕ). l ++ flat_map escaped (get_or text place 0 ∷ [])) plain
    ∙ ap (λ (l : List ℕ). run text start place ++ (l ++ [])) (plain_escaped (get_or text place 0) more)
    ∙ sym longer

-- no run yet
pub run_empty : (text : List ℕ) (start : ℕ) → flat_map escaped (run text start start) ≡ run text start start
run_empty text start = let e : start - start ≡ 0 = omega arith in rw e refl

-- the last run
pub run_last : (text : List ℕ) (start place : ℕ) → start ≤ place → length text ≤ place
    → flat_map escaped (run text start place) ≡ run text start place
    → flat_map escaped (drop start text) ≡ take (length text - start) (drop start text)
run_last text start place le all plain =
    let whole : (n : ℕ) → length text ≤ start + n → take n (drop start text) ≡ drop start text = λ n h. take_all n (drop start text) (omega (arith, length-drop start text)) in
    let far : length text ≤ start + (place - start) = omega arith in
    let near : length text ≤ start + (length text - start) = omega arith in
    ap (λ (l : List ℕ). flat_map escaped l) (sym (whole (place - start) far)) ∙ plain ∙ whole (place - start) far ∙ sym (whole (length text - start) near)
