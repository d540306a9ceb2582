-- The lines of a script: each is a request with its moment, its caller and its phase.
use Rattle.std.specs.Prelude.{◌≡◌, ◌⊎◌, ℕ, ℤ, pos, negsuc, ◌&&◌, nat_le, Bool, MatchBool, true, false, if◌then◌else◌, List, [], ◌∷◌, Option, Some, None, Ok, Err, codes}
use Rattle.std.specs.List.{filter, enumerate_from, list_any}
use Rattle.std.specs.Str.Lines.{lines}
use Rattle.lg_json.specs.Tree.{Tree, Members}
use Rattle.lg_json.specs.Tree.Tree.{whole, text, members}
use Rattle.lg_json.specs.Fault.{IsFault}
use Rattle.lg_json.specs.declared.json.JsonFault.{JsonFault}
use Rattle.lg_json.specs.declared.json.JsonFault.TheVariants as faults
use Rattle.lg_time.specs.Moment.{IsMoment}
use Rattle.lg_types.specs.declared.calls.Batch.{Batch}
use Rattle.lg_types.specs.declared.calls.Call.{Call}
use Rattle.lg_types.specs.declared.calls.Call.TheVariants.{Unreadable}
use Rattle.lg_types.specs.declared.refusals.FaultKind.TheVariants as kinds
use Rattle.lg_types.specs.declared.refusals.Reason.{Reason}
use Rattle.lg_types.specs.declared.refusals.Reason.TheVariants.{Missing, Kind, Form}
use Rattle.lg_types.specs.declared.refusals.Refusal.{Refusal}
use Rattle.lg_types.specs.declared.refusals.Refusal.TheVariants.{LineJson, LineMember}
use Rattle.lg_views.specs.declared.lines.ScriptLine.{ScriptLine}
use Rattle.lg_readings.specs.Answers.{Answer, known, ◌>>=◌}
use Rattle.lg_readings.specs.Checked.{Shows, IsChecked, has_bytes}
use Rattle.lg_readings.specs.Parameters.{is_recompute}
use Rattle.lg_readings.specs.Requests.{Body, NoBody, ValueBody, LinesBody, IsRequest}
use Rattle.lg_readings.specs.Routes.{Route, BodyKind, ImportLines, body_kind, routes_at, has_method}
use Rattle.lg_readings.specs.Targets.{path_segments, parameters, first_value}
use Rattle.lg_readings.specs.Values.{under}

-- the lines that aren't empty, with their numbers from 1 on; a carriage return before a newline is dropped
abbrev pub script_lines : List ℕ → List (ℕ × List ℕ)
script_lines bytes = filter has_bytes (enumerate_from 1 (lines bytes))

-- ---- members of a line

abbrev pub bad_member : {A : Type 0} → List ℕ → Reason → Answer A
bad_member name reason = Err (LineMember name reason)

abbrev pub text_member : List ℕ → Option Tree → Answer (List ℕ)
text_member name None = bad_member name Missing
text_member name (Some (text t)) = Ok t
text_member name (Some _) = bad_member name Kind

abbrev pub NowIn : List ℕ → Answer ℤ → Type 0
NowIn t r = ((moment : ℤ) × IsMoment t moment × (r ≡ Ok moment)) ⊎ (((moment : ℤ) → ¬ (IsMoment t moment)) × (r ≡ bad_member (codes "now") Form))

abbrev pub between : List ℕ → ℕ → ℕ → ℤ → Answer ℕ
between name least most (pos n) = if nat_le least n && nat_le n most then Ok n else bad_member name Form
between name least most (negsuc n) = bad_member name Form

-- a whole number between two ends; 0 where it is absent
abbrev pub number_member : List ℕ → ℕ → ℕ → Option Tree → Answer ℕ
number_member name least most None = between name least most (pos 0)
number_member name least most (Some (whole n)) = between name least most n
number_member name least most (Some _) = bad_member name Kind

abbrev pub key_member : Option Tree → Answer (Option (List ℕ))
key_member None = Ok None
key_member (Some (text t)) = Ok (Some t)
key_member (Some _) = bad_member (codes "key") Kind

-- ---- the body of a line's request: for an import a text that holds the lines

abbrev pub takes_lines : BodyKind → Bool
takes_lines ImportLines = true
takes_lines kind = false

abbrev pub is_import_route : List ℕ → Route → Bool
is_import_route method route = has_method method route && takes_lines (body_kind route.row)

abbrev pub is_import : List ℕ → List ℕ → Bool
is_import method target = list_any (is_import_route method) (routes_at (path_segments target))

abbrev pub recomputes : List ℕ → Bool
recomputes target = is_recompute (first_value (codes "hashes") (parameters target))

abbrev pub IsLines : List ℕ → List ℕ → Body → Type 0
IsLines target t body = (batch : Batch) × IsChecked (recomputes target) t batch × (body ≡ LinesBody batch)

abbrev pub IsBodyOf : List ℕ → List ℕ → Option Tree → Body → Type 0
IsBodyOf method target None body = body ≡ NoBody
IsBodyOf method target (Some (text t)) body = MatchBool (is_import method target) (IsLines target t body) (body ≡ ValueBody (text t))
IsBodyOf method target (Some value) body = body ≡ ValueBody value

-- ---- a line

-- the moment, the caller, the phase and the call of a line that can be read
pub record LineContent : Type 0 where
  pub moment : ℤ
  pub caller : ℕ
  pub phase : ℕ
  pub call : Call

abbrev pub content : ℤ → ℕ → ℕ → Call → LineContent
content moment caller phase call = record { moment = moment; caller = caller; phase = phase; call = call }

abbrev pub IsCallIn : ℤ → ℕ → ℕ → List ℕ → List ℕ → Option (List ℕ) → Option Tree → Answer LineContent → Type 0
IsCallIn moment caller phase method target key value r =
    (body : Body) × (c : Call) × IsBodyOf method target value body × IsRequest method target key body c × (r ≡ Ok (content moment caller phase c))

-- the members in their order; a phase isn't below that of an earlier line that could be read
abbrev pub ContentIn : ℕ → Members → Answer LineContent → Type 0
ContentIn lowest ms =
    known (text_member (codes "now") (under (codes "now") ms)) >>= (λ now.
    NowIn now >>= (λ moment.
    known (number_member (codes "caller") 0 63 (under (codes "caller") ms)) >>= (λ caller.
    known (number_member (codes "phase") lowest 999999 (under (codes "phase") ms)) >>= (λ phase.
    known (text_member (codes "method") (under (codes "method") ms)) >>= (λ method.
    known (text_member (codes "path") (under (codes "path") ms)) >>= (λ target.
    known (key_member (under (codes "key") ms)) >>= (λ key.
    IsCallIn moment caller phase method target key (under (codes "body") ms))))))))

abbrev pub ContentBy : ℕ → Tree → Answer LineContent → Type 0
ContentBy lowest (members ms) = ContentIn lowest ms
ContentBy lowest t = known (bad_member [] Kind)

-- a fault of JSON, as the refusal of a line
abbrev pub line_fault : JsonFault → Option Refusal
line_fault (faults.Syntax place) = Some (LineJson kinds.Syntax place)
line_fault (faults.NotWhole place) = Some (LineJson kinds.NotWhole place)
line_fault (faults.TooWide place) = Some (LineJson kinds.TooWide place)
line_fault (faults.TooDeep place) = Some (LineJson kinds.TooDeep place)
line_fault (faults.Repeated place) = Some (LineJson kinds.Repeated place)
line_fault faults.NoMemory = None

pub record IsLineFault (bytes : List ℕ) (r : Answer LineContent) : Type 0 where
  pub fault : JsonFault
  pub is : IsFault bytes fault
  pub refusal : Refusal
  pub refuses : line_fault fault ≡ Some refusal
  pub answer : r ≡ Err refusal

abbrev pub LineAnswer : ℕ → List ℕ → Answer LineContent → Type 0
LineAnswer lowest bytes r = ((t : Tree) × Shows bytes t × ContentBy lowest t r) ⊎ IsLineFault bytes r

-- ---- a script

-- a line that can't be read is a call of caller 0 in the phase of the line before, at the moment 0
abbrev pub line_of : ℕ → ℕ → Answer LineContent → ScriptLine
line_of phase number (Ok c) = record { line = number; caller = c.caller; phase = c.phase; moment = c.moment; call = c.call }
line_of phase number (Err refusal) = record { line = number; caller = 0; phase = phase; moment = pos 0; call = Unreadable refusal }

-- the lines after one of a phase, each in no earlier phase
abbrev pub AreScript : ℕ → List (ℕ × List ℕ) → List ScriptLine → Type 0
AreScript phase [] [] = Unit {0}
AreScript phase (p ∷ ps) (l ∷ ls) = (r : Answer LineContent) × LineAnswer phase p.1 r × (l ≡ line_of phase p.0 r) × AreScript l.phase ps ls
AreScript phase [] (l ∷ ls) = ⊥
AreScript phase (p ∷ ps) [] = ⊥

-- the lines of a script's bytes
abbrev pub IsScript : List ℕ → List ScriptLine → Type 0
IsScript bytes ls = AreScript 0 (script_lines bytes) ls
