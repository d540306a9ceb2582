-- Lines that are read one after the other.
use Rattle.std.proofs.Common.{◌≡◌, ℕ, ◌==◌, Bool, true, false, cond, ◌+◌, ◌≤◌, List, [], ◌∷◌, ◌++◌, length, refl, ap, sym, subst, ◌∙◌, append_assoc, append-nil, arith, eqb-true}
use Rattle.std.specs.List.{filter, enumerate_from}
use Rattle.std.specs.Str.Lines.{lines}
use Rattle.std.proofs.lemmas.Grind.{common_steps}
use Rattle.lg_readings.specs.Checked.{has_bytes}
use Rattle.lg_views.specs.declared.lines.ScriptLine.{ScriptLine}
use Rattle.lg_batch.specs.Lines.{IsLine, AreLinesAfter, AreLines}
use Rattle.lg_batch.specs.Reads.{Appends}

abbrev numbered : ℕ → List ℕ → List (ℕ × List ℕ)
numbered first bytes = filter has_bytes (enumerate_from first (lines bytes))

-- the lines that were read, up to the line of this number, which begins what is left and follows a line of this phase
pub record Goes (bytes : List ℕ) (read : List ScriptLine) (number phase : ℕ) (left : List ℕ) : Type 0 where
  pub on : (more : List ScriptLine) → AreLinesAfter phase (numbered number left) more → AreLinesAfter 0 (numbered 1 bytes) (read ++ more)
  pub count : number + length left ≤ length bytes + 1

pub goes_from : (bytes : List ℕ) → Goes bytes [] 1 0 bytes
goes_from bytes = record { on = λ more are. are; count = omega arith }

some_bytes : (number b : ℕ) (bs : List ℕ) → has_bytes (number, b ∷ bs) ≡ true
some_bytes number b bs = grind (arith, common_steps)

-- one line, and those after it
with_line : (phase number : ℕ) (line : List ℕ) (places : List (ℕ × List ℕ)) (read new : List ScriptLine) (after : ℕ) (more : List ScriptLine)
    → Appends phase number line read new after → AreLinesAfter after (filter has_bytes places) more
    → (more' : List ScriptLine) × (new ++ more ≡ read ++ more') × AreLinesAfter phase (filter has_bytes ((number, line) ∷ places)) more'
with_line phase number [] places read new after more a rest =
    (more, ap (λ (ls : List ScriptLine). ls ++ more) a.0, subst (λ (p : ℕ). AreLinesAfter p (filter has_bytes places) more) a.1 rest)
with_line phase number (b ∷ bs) places read new after more a rest = (
  a.0 ∷ more,
  ap (λ (ls : List ScriptLine). ls ++ more) a.2 ∙ append_assoc read (a.0 ∷ []) more,
  subst (λ (v : Bool). AreLinesAfter phase (cond v ((number, b ∷ bs) ∷ filter has_bytes places) (filter has_bytes places)) (a.0 ∷ more)) (sym (some_bytes number b bs))
      (a.1, subst (λ (p : ℕ). AreLinesAfter p (filter has_bytes places) more) a.3 rest),
)

pub goes_on : (bytes left line after : List ℕ) (read new : List ScriptLine) (number phase next : ℕ) → Goes bytes read number phase left → lines left ≡ line ∷ lines after
    → number + 1 + length after ≤ length bytes + 1 → Appends phase number line read new next → Goes bytes new (number + 1) next after
goes_on bytes left line after read new number phase next before cut count adds = record {
  on = λ more are.
      let one = with_line phase number line (enumerate_from (number + 1) (lines after)) read new next more adds are in
      subst (λ (ls : List ScriptLine). AreLinesAfter 0 (numbered 1 bytes) ls) (sym one.1)
      (before.on one.0 (subst (λ (texts : List (List ℕ)). AreLinesAfter phase (filter has_bytes (enumerate_from number texts)) one.0) (sym cut) one.2));
  count = count;
}

no_bytes : (bs : List ℕ) → (length bs == 0) ≡ true → bs ≡ []
no_bytes [] e = refl
no_bytes (b ∷ bs) e = let z : length (b ∷ bs) ≡ 0 = eqb-true (length (b ∷ bs)) 0 e in absurd (omega arith)

-- what was read at the end of the bytes
pub goes_done : (bytes left : List ℕ) (read : List ScriptLine) (number phase : ℕ) → (length left == 0) ≡ true → Goes bytes read number phase left → AreLines bytes read
goes_done bytes left read number phase done before =
    subst (λ (ls : List ScriptLine). AreLinesAfter 0 (numbered 1 bytes) ls) (append-nil read)
    (before.on [] (subst (λ (bs : List ℕ). AreLinesAfter phase (numbered number bs) []) (sym (no_bytes left done)) tt))

-- a line without bytes is left out
pub appends_none : (phase number : ℕ) (bytes : List ℕ) (old : List ScriptLine) → (length bytes == 0) ≡ true → Appends phase number bytes old old phase
appends_none phase number [] old empty = (refl, refl)
appends_none phase number (b ∷ bs) old empty =
    let z : length (b ∷ bs) ≡ 0 = eqb-true (length (b ∷ bs)) 0 empty in absurd (omega arith)

pub appends_one : (phase number : ℕ) (bytes : List ℕ) (old new : List ScriptLine) (l : ScriptLine) → (length bytes == 0) ≡ false → IsLine phase (number, bytes) l → new ≡ old ++ l ∷ []
    → Appends phase number bytes old new l.phase
appends_one phase number [] old new l some is_line joined = cc
appends_one phase number (b ∷ bs) old new l some is_line joined = (l, is_line, joined, refl)
