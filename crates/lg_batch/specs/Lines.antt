-- The lines of a script, where the lines of imports aren't looked at yet.
use Rattle.std.specs.Prelude.{◌≡◌, ◌⊎◌, ℕ, ℤ, List, [], ◌∷◌, Option, Ok, codes}
use Rattle.lg_json.specs.Tree.{Tree, Members}
use Rattle.lg_json.specs.Tree.Tree.{members}
use Rattle.lg_types.specs.declared.calls.Call.{Call}
use Rattle.lg_types.specs.declared.refusals.Reason.TheVariants.{Kind}
use Rattle.lg_views.specs.declared.lines.ScriptLine.{ScriptLine}
use Rattle.lg_readings.specs.Answers.{Answer, known, ◌>>=◌}
use Rattle.lg_readings.specs.Checked.{Shows}
use Rattle.lg_readings.specs.Script.{LineContent, content, IsLineFault, NowIn, bad_member, text_member, number_member, key_member, line_of, script_lines}
use Rattle.lg_readings.specs.Values.{under}
use Rattle.lg_batch.specs.Imports.{IsCallOf}

-- the call of a line, with its moment, its caller and its phase
abbrev pub CallIn : ℤ → ℕ → ℕ → List ℕ → List ℕ → Option (List ℕ) → Option Tree → Answer LineContent → Type 0
CallIn moment caller phase method target key value r = (c : Call) × IsCallOf method target key value c × (r ≡ Ok (content moment caller phase c))

-- the members in their order, and the value of the body; a phase isn't below that of an earlier line that could be read
abbrev pub ContentWith : ℕ → Members → Option Tree → Answer LineContent → Type 0
ContentWith lowest ms body =
    known (text_member (codes "now") (under (codes "now") ms)) >>= (λ now.
    NowIn now >>= (λ moment.
    known (number_member (codes "caller") 0 63 (under (codes "caller") ms)) >>= (λ caller.
    known (number_member (codes "phase") lowest 999999 (under (codes "phase") ms)) >>= (λ phase.
    known (text_member (codes "method") (under (codes "method") ms)) >>= (λ method.
    known (text_member (codes "path") (under (codes "path") ms)) >>= (λ target.
    known (key_member (under (codes "key") ms)) >>= (λ key.
    CallIn moment caller phase method target key body)))))))

abbrev pub ContentIn : ℕ → Members → Answer LineContent → Type 0
ContentIn lowest ms = ContentWith lowest ms (under (codes "body") ms)

abbrev pub ContentBy : ℕ → Tree → Answer LineContent → Type 0
ContentBy lowest (members ms) = ContentIn lowest ms
ContentBy lowest t = known (bad_member [] Kind)

abbrev pub LineAnswer : ℕ → List ℕ → Answer LineContent → Type 0
LineAnswer lowest bytes r = ((t : Tree) × Shows bytes t × ContentBy lowest t r) ⊎ IsLineFault bytes r

-- the line of these bytes with this number, after one of a phase
abbrev pub IsLine : ℕ → ℕ × List ℕ → ScriptLine → Type 0
IsLine phase place l = (r : Answer LineContent) × LineAnswer phase place.1 r × (l ≡ line_of phase place.0 r)

-- the lines after one of a phase
abbrev pub AreLinesAfter : ℕ → List (ℕ × List ℕ) → List ScriptLine → Type 0
AreLinesAfter phase [] [] = Unit {0}
AreLinesAfter phase (p ∷ ps) (l ∷ ls) = IsLine phase p l × AreLinesAfter l.phase ps ls
AreLinesAfter phase [] (l ∷ ls) = ⊥
AreLinesAfter phase (p ∷ ps) [] = ⊥

-- the lines of a script's bytes
abbrev pub AreLines : List ℕ → List ScriptLine → Type 0
AreLines bytes ls = AreLinesAfter 0 (script_lines bytes) ls
