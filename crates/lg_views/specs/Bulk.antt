-- Lists of writes: the elements in order, with one moment, each over the log that the earlier ones leave.
use Rattle.std.specs.Prelude.{ℕ, ◌+◌, ℤ, Bool, if◌then◌else◌, List, [], ◌∷◌, ◌++◌, Option, Some, None}
use Rattle.lg_types.specs.declared.calls.Write.{Write}
use Rattle.lg_types.specs.declared.calls.Write.TheVariants.{Create, Revert, SetMeta, DropMeta}
use Rattle.lg_types.specs.declared.calls.Element.{Element}
use Rattle.lg_types.specs.declared.calls.ElementWrite.{ElementWrite}
use Rattle.lg_types.specs.declared.calls.ElementWrite.TheVariants.{Good as GoodWrite, Bad}
use Rattle.lg_types.specs.declared.records.Entry.{Entry}
use Rattle.lg_views.specs.declared.decided.Written.{Written}
use Rattle.lg_views.specs.declared.decided.Written.TheVariants.{Refuses, Finds, Appends}
use Rattle.lg_views.specs.declared.replies.Action.{Action}
use Rattle.lg_views.specs.declared.replies.Action.TheVariants.{CreateTransaction, AddMetadata, RevertTransaction, DeleteMetadata}
use Rattle.lg_views.specs.declared.replies.BulkItem.{BulkItem}
use Rattle.lg_views.specs.declared.replies.BulkItem.TheVariants.{Good, Failed}
use Rattle.lg_views.specs.declared.replies.Content.TheVariants.{Bulk}
use Rattle.lg_views.specs.declared.replies.Reply.{Reply}
use Rattle.lg_views.specs.Replies.{plain, shown_transaction}
use Rattle.lg_views.specs.Writes.{written, first_reply, up_to}

-- what became of a list of elements: a result for each that was tried, the entries to append, and the first failure
pub record Batched : Type 0 where
  pub results : List BulkItem
  pub entries : List Entry
  pub failure : Option BulkItem

abbrev pub nothing_left : Batched
nothing_left = record { results = []; entries = []; failure = None }

abbrev pub action_of : Write → Action
action_of (Create postings reference timestamp metadata accounts force) = CreateTransaction
action_of (Revert id force at_effective_date) = RevertTransaction
action_of (SetMeta target metadata) = AddMetadata
action_of (DropMeta target name) = DeleteMetadata

abbrev pub element_action : ElementWrite → Action
element_action (GoodWrite write) = action_of write
element_action (Bad refusal) = CreateTransaction

-- the result of an entry, over the log up to and with it
abbrev pub good_result : Element → List Entry → Entry → BulkItem
good_result x g e = Good (element_action x.write) e.id (shown_transaction (first_reply g e))

abbrev pub after_good : BulkItem → List Entry → Batched → Batched
after_good result entries rest = record { results = result ∷ rest.results; entries = entries ++ rest.entries; failure = rest.failure }

abbrev pub after_failed : BulkItem → Batched → Batched
after_failed result rest = record { results = result ∷ rest.results; entries = rest.entries; failure = Some result }

-- an element that can't be read fails with its refusal
abbrev pub try_write : List Entry → Option (List ℕ) → ElementWrite → ℤ → Written
try_write g key (GoodWrite write) now = written g key write now
try_write g key (Bad refusal) now = Refuses refusal

abbrev pub element_written : List Entry → Element → ℤ → Written
element_written g x now = try_write g x.key x.write now

-- one element, and what becomes of the rest over the log that it leaves
abbrev pub batch_step : List Entry → ℕ → Bool → Element → (List Entry → Batched) → Written → Batched
batch_step g k go_on x rest (Refuses refusal) = after_failed (Failed k refusal) (if go_on then rest g else nothing_left)
batch_step g k go_on x rest (Finds e) = after_good (good_result x (up_to g e) e) [] (rest g)
batch_step g k go_on x rest (Appends e) = after_good (good_result x (g ++ e ∷ []) e) (e ∷ []) (rest (g ++ e ∷ []))

-- the elements from the k-th on, over a log; unless the list goes on, it ends with the first that fails
abbrev pub batched : List Entry → ℕ → Bool → ℤ → List Element → Batched
batched g k go_on now [] = nothing_left
batched g k go_on now (x ∷ xs) = batch_step g k go_on x (λ h. batched h (k + 1) go_on now xs) (element_written g x now)

abbrev pub bulk_reply : List BulkItem → Reply
bulk_reply results = plain (Bulk (record { items = results }))

abbrev pub atomic_answer : Batched → Option BulkItem → Reply × List Entry
atomic_answer b None = (bulk_reply b.results, b.entries)
atomic_answer b (Some failure) = (bulk_reply (failure ∷ []), [])

-- an atomic list with a failure appends nothing, and its reply is the first failed element's result alone
abbrev pub bulk_answer : Bool → Batched → Reply × List Entry
bulk_answer atomic b = if atomic then atomic_answer b b.failure else (bulk_reply b.results, b.entries)
