-- What one JSON value is read as.
use Rattle.std.specs.Prelude.{◌≡◌, ℕ, ◌^◌, ℤ, pos, negsuc, nat_lt, Bool, true, false, if◌then◌else◌, List, [], ◌∷◌, Option, Some, None, Result, Ok, Err, MatchResult}
use Rattle.std.specs.Str.{bytes_eq}
use Rattle.lg_json.specs.Tree.{Tree, Trees, Members}
use Rattle.lg_json.specs.Tree.Tree.{null, truth, whole, part, text, list, members}
use Rattle.lg_json.specs.Tree.Trees.{none, item}
use Rattle.lg_json.specs.Tree.Members.{no_member, member}
use Rattle.lg_time.specs.Moment.{IsMoment}
use Rattle.lg_types.specs.declared.refusals.Reason.TheVariants.{Missing, Kind, Form}
use Rattle.lg_types.specs.declared.refusals.Refusal.{Refusal}
use Rattle.lg_readings.specs.Paths.{Path}
use Rattle.lg_readings.specs.Answers.{Answer, wrong, known, gives, ◌>>=◌, IfForm}

-- the value under a name
abbrev pub value_of : List ℕ → Members → Option Tree
value_of name no_member = None
value_of name (member n value more) = if bytes_eq n name then Some value else value_of name more

-- null counts as absent
abbrev pub present : Tree → Option Tree
present null = None
present (truth b) = Some (truth b)
present (whole n) = Some (whole n)
present part = Some part
present (text t) = Some (text t)
present (list ts) = Some (list ts)
present (members ms) = Some (members ms)

abbrev pub present_in : Option Tree → Option Tree
present_in None = None
present_in (Some t) = present t

abbrev pub under : List ℕ → Members → Option Tree
under name ms = present_in (value_of name ms)

-- a text
abbrev pub text_of : Path → Option Tree → Answer (List ℕ)
text_of path None = wrong path Missing
text_of path (Some (text t)) = Ok t
text_of path (Some _) = wrong path Kind

-- an object
abbrev pub members_of : Path → Option Tree → Answer Members
members_of path None = wrong path Missing
members_of path (Some (members ms)) = Ok ms
members_of path (Some _) = wrong path Kind

-- a truth; false where it is absent
abbrev pub truth_of : Path → Option Tree → Answer Bool
truth_of path None = Ok false
truth_of path (Some (truth b)) = Ok b
truth_of path (Some _) = wrong path Kind

-- a whole number from 0 to below a limit
abbrev pub within : Path → ℕ → ℤ → Answer ℕ
within path limit (pos n) = if nat_lt n limit then Ok n else wrong path Form
within path limit (negsuc n) = wrong path Form

abbrev pub number_of : Path → ℕ → Option Tree → Answer ℕ
number_of path limit None = wrong path Missing
number_of path limit (Some (whole n)) = within path limit n
number_of path limit (Some _) = wrong path Kind

-- an amount: below 2 ^ 127
abbrev pub amount_of : Path → Option Tree → Answer ℕ
amount_of path value = number_of path (2 ^ 127) value

-- an id: below 2 ^ 64
abbrev pub id_of : Path → Option Tree → Answer ℕ
id_of path value = number_of path (2 ^ 64) value

-- a name of a grammar
abbrev pub Name : (List ℕ → Type 0) → Path → Option Tree → Answer (List ℕ) → Type 0
Name Names path value = known (text_of path value) >>= (λ t. IfForm (Names t) path t)

-- a name of a grammar, or none where it is absent or empty
abbrev pub SomeName : (List ℕ → Type 0) → Path → List ℕ → Answer (Option (List ℕ)) → Type 0
SomeName Names path [] = gives None
SomeName Names path (b ∷ bs) = IfForm (Names (b ∷ bs)) path (b ∷ bs) >>= (λ name. gives (Some name))

abbrev pub OptionalName : (List ℕ → Type 0) → Path → Option Tree → Answer (Option (List ℕ)) → Type 0
OptionalName Names path None = gives None
OptionalName Names path (Some (text t)) = SomeName Names path t
OptionalName Names path (Some _) = known (wrong path Kind)

-- a moment (RFC 3339), in microseconds since 1970-01-01T00:00:00Z
abbrev pub MomentText : Path → List ℕ → Answer ℤ → Type 0
MomentText path t r = MatchResult r (IsMoment t) (λ refusal. (wrong {A = ℤ} path Form ≡ Err refusal) × ((moment : ℤ) → ¬ (IsMoment t moment)))

abbrev pub Moment : Path → Option Tree → Answer ℤ → Type 0
Moment path None = known (wrong path Missing)
Moment path (Some (text t)) = MomentText path t
Moment path (Some _) = known (wrong path Kind)

abbrev pub SomeMoment : Path → Tree → Answer (Option ℤ) → Type 0
SomeMoment path value = Moment path (Some value) >>= (λ moment. gives (Some moment))

abbrev pub OptionalMoment : Path → Option Tree → Answer (Option ℤ) → Type 0
OptionalMoment path None = gives None
OptionalMoment path (Some value) = SomeMoment path value
