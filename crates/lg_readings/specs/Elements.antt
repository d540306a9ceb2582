-- What the elements of a list of writes ask for.
use Rattle.std.specs.Prelude.{◌≡◌, ℕ, ◌+◌, ◌<◌, ◌≤◌, ℤ, Bool, true, false, if◌then◌else◌, List, [], ◌∷◌, Option, Some, None, Ok, Err, MatchResult, codes}
use Rattle.std.specs.Str.{bytes_eq}
use Rattle.lg_containers.specs.AddressGrammar.{IsAddress}
use Rattle.lg_containers.specs.CountedGrammar.{IsKey}
use Rattle.lg_json.specs.Tree.{Tree, Trees, Members}
use Rattle.lg_json.specs.Tree.Tree.{list}
use Rattle.lg_json.specs.Tree.Trees.{none, item}
use Rattle.lg_types.specs.declared.calls.Element.{Element}
use Rattle.lg_types.specs.declared.calls.ElementWrite.TheVariants.{Good, Bad}
use Rattle.lg_types.specs.declared.calls.Write.{Write}
use Rattle.lg_types.specs.declared.calls.Write.TheVariants.{Revert, SetMeta, DropMeta}
use Rattle.lg_types.specs.declared.records.Target.{Target}
use Rattle.lg_types.specs.declared.records.Target.TheVariants as targets
use Rattle.lg_types.specs.declared.refusals.Reason.TheVariants.{Kind, Form}
use Rattle.lg_types.specs.declared.refusals.Refusal.TheVariants.{BulkSize}
use Rattle.lg_views.specs.declared.replies.Action.{Action}
use Rattle.lg_views.specs.declared.replies.Action.TheVariants.{CreateTransaction, AddMetadata, RevertTransaction, DeleteMetadata}
use Rattle.lg_readings.specs.Paths.{Path, top, below}
use Rattle.lg_readings.specs.Answers.{Answer, wrong, known, gives, ◌>>=◌}
use Rattle.lg_readings.specs.Values.{under, text_of, members_of, truth_of, id_of, Name, OptionalName}
use Rattle.lg_readings.specs.Bodies.{texts_of, CreationIn}
use Rattle.lg_views.specs.ReplyTexts.{action_text}

-- ---- what metadata are about: a type, and an address or an id

abbrev pub is_account_named : Path → List ℕ → Answer Bool
is_account_named path t = if bytes_eq t (codes "ACCOUNT") then Ok true else (if bytes_eq t (codes "TRANSACTION") then Ok false else wrong path Form)

abbrev pub is_account_if : Path → Answer (List ℕ) → Answer Bool
is_account_if path (Ok t) = is_account_named path t
is_account_if path (Err refusal) = Err refusal

abbrev pub is_account : Path → Option Tree → Answer Bool
is_account path value = is_account_if path (text_of path value)

abbrev pub AccountOf : Path → Option Tree → Answer Target → Type 0
AccountOf path value = Name IsAddress path value >>= (λ address. gives (targets.Account address))

abbrev pub TransactionOf : Path → Option Tree → Answer Target → Type 0
TransactionOf path value = known (id_of path value) >>= (λ id. gives (targets.Transaction id))

abbrev pub TargetOf : Path → Option Tree → Bool → Answer Target → Type 0
TargetOf path value true = AccountOf path value
TargetOf path value false = TransactionOf path value

abbrev pub TargetIn : Path → Members → Answer Target → Type 0
TargetIn path ms =
    known (is_account (below path (codes "targetType")) (under (codes "targetType") ms)) >>=
    TargetOf (below path (codes "targetId")) (under (codes "targetId") ms)

-- ---- an element: an action, a key or none, and the data of the action

abbrev pub action_named : Path → List ℕ → Answer Action
action_named path t =
    if bytes_eq t (action_text CreateTransaction) then Ok CreateTransaction
    else (if bytes_eq t (action_text AddMetadata) then Ok AddMetadata
    else (if bytes_eq t (action_text RevertTransaction) then Ok RevertTransaction
    else (if bytes_eq t (action_text DeleteMetadata) then Ok DeleteMetadata
    else wrong path Form)))

abbrev pub action_if : Path → Answer (List ℕ) → Answer Action
action_if path (Ok t) = action_named path t
action_if path (Err refusal) = Err refusal

abbrev pub action_of : Path → Option Tree → Answer Action
action_of path value = action_if path (text_of path value)

abbrev pub data_path : Path
data_path = below top (codes "data")

abbrev pub AdditionIn : Members → Answer Write → Type 0
AdditionIn ms =
    TargetIn data_path ms >>= (λ target.
    known (texts_of (below data_path (codes "metadata")) (under (codes "metadata") ms)) >>= (λ metadata.
    gives (SetMeta target metadata)))

abbrev pub RevertIn : Members → Answer Write → Type 0
RevertIn ms =
    known (id_of (below data_path (codes "id")) (under (codes "id") ms)) >>= (λ id.
    known (truth_of (below data_path (codes "force")) (under (codes "force") ms)) >>= (λ force.
    known (truth_of (below data_path (codes "atEffectiveDate")) (under (codes "atEffectiveDate") ms)) >>= (λ at_effective_date.
    gives (Revert id force at_effective_date))))

abbrev pub DeletionIn : Members → Answer Write → Type 0
DeletionIn ms =
    TargetIn data_path ms >>= (λ target.
    known (text_of (below data_path (codes "key")) (under (codes "key") ms)) >>= (λ name.
    gives (DropMeta target name)))

abbrev pub DataIn : Action → Members → Answer Write → Type 0
DataIn CreateTransaction ms = CreationIn data_path ms
DataIn AddMetadata ms = AdditionIn ms
DataIn RevertTransaction ms = RevertIn ms
DataIn DeleteMetadata ms = DeletionIn ms

abbrev pub DataOf : Action → Option Tree → Answer Write → Type 0
DataOf action value = known (members_of data_path value) >>= DataIn action

abbrev pub ElementIn : Members → Answer Element → Type 0
ElementIn ms =
    known (action_of (below top (codes "action")) (under (codes "action") ms)) >>= (λ action.
    OptionalName IsKey (below top (codes "ik")) (under (codes "ik") ms) >>= (λ key.
    DataOf action (under (codes "data") ms) >>= (λ write.
    gives (record { key = key; write = Good write }))))

-- the element itself is the whole body of its paths; a null item is of another type
abbrev pub ElementOf : Tree → Answer Element → Type 0
ElementOf value = known (members_of top (Some value)) >>= ElementIn

-- an element that can't be read stands with its refusal
abbrev pub read_or_bad : Answer Element → Element
read_or_bad (Ok element) = element
read_or_bad (Err refusal) = record { key = None; write = Bad refusal }

pub record IsElement (value : Tree) (element : Element) : Type 0 where
  pub answer : Answer Element
  pub is_answer : ElementOf value answer
  pub is_element : element ≡ read_or_bad answer

-- ---- a list: at most 1,000 elements, each read by itself

abbrev pub AreElements : Trees → List Element → Type 0
AreElements none [] = Unit {0}
AreElements (item value more) (element ∷ elements) = IsElement value element × AreElements more elements
AreElements none (element ∷ elements) = ⊥
AreElements (item value more) [] = ⊥

abbrev pub count : Trees → ℕ
count none = 0
count (item value more) = count more + 1

abbrev pub ElementsIn : Trees → Answer (List Element) → Type 0
ElementsIn values r = MatchResult r (λ elements. (count values ≤ 1000) × AreElements values elements) (λ refusal. (1000 < count values) × (refusal ≡ BulkSize (count values)))

abbrev pub items_of_body : Tree → Answer Trees
items_of_body (list values) = Ok values
items_of_body _ = wrong top Kind

abbrev pub ElementsOf : Tree → Answer (List Element) → Type 0
ElementsOf body = known (items_of_body body) >>= ElementsIn
