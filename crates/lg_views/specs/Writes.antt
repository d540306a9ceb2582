-- What a write comes to: the refusals in their order, or the entry that it appends.
use Rattle.std.specs.Prelude.{ℕ, ℤ, Bool, List, [], ◌∷◌, ◌++◌, if◌then◌else◌, take, Option, Some, None, codes, decimal}
use Rattle.std.specs.Option.{option_map, unwrap_or}
use Rattle.std.specs.Str.{bytes_eq}
use Rattle.lg_containers.specs.NameTable as table
use Rattle.lg_types.specs.declared.calls.Write.{Write}
use Rattle.lg_types.specs.declared.calls.Write.TheVariants.{Create, Revert, SetMeta, DropMeta}
use Rattle.lg_types.specs.declared.records.Entry.{Entry}
use Rattle.lg_types.specs.declared.records.EntryBody.{EntryBody}
use Rattle.lg_types.specs.declared.records.EntryBody.TheVariants.{NewTransaction, SetMetadata, Reverted, DeleteMetadata}
use Rattle.lg_types.specs.declared.records.KeyMark.{KeyMark}
use Rattle.lg_types.specs.declared.records.Posting.{Posting}
use Rattle.lg_types.specs.declared.records.Transaction.{Transaction}
use Rattle.lg_types.specs.declared.records.Target.{Target}
use Rattle.lg_types.specs.declared.records.Target.TheVariants.{Account, Transaction as TransactionOf}
use Rattle.lg_types.specs.declared.refusals.Refusal.{Refusal}
use Rattle.lg_types.specs.declared.refusals.Refusal.TheVariants.{NoTransaction, Already, Used, KeyInput}
use Rattle.lg_types.specs.Lists.{or_else}
use Rattle.lg_types.specs.Chain.{own_hash, input_hash}
use Rattle.lg_types.specs.Changes.{MetaOf}
use Rattle.lg_types.specs.Known.{Dated, Undoing, kept, used, find_transaction, undone, next_entry, next_transaction, date}
use Rattle.lg_types.specs.Moves.{moves}
use Rattle.lg_types.specs.Trial.{trial, revert_trial, reverting}
use Rattle.lg_views.specs.declared.decided.Decided.{Decided}
use Rattle.lg_views.specs.declared.decided.Decided.TheVariants.{Denied, Granted}
use Rattle.lg_views.specs.declared.decided.Written.{Written}
use Rattle.lg_views.specs.declared.decided.Written.TheVariants.{Refuses, Finds, Appends}
use Rattle.lg_views.specs.declared.replies.Content.{Content}
use Rattle.lg_views.specs.declared.replies.Content.TheVariants as content
use Rattle.lg_views.specs.declared.replies.Reply.{Reply}
use Rattle.lg_views.specs.Replies.{plain, repeated, refused}
use Rattle.lg_views.specs.Views.{new_view}

-- what is granted unless there is a refusal
abbrev pub granted_unless : Option Refusal → EntryBody → Decided
granted_unless None body = Granted body
granted_unless (Some refusal) body = Denied refusal

-- a new transaction has the next id, and the entry's date where no timestamp is given
abbrev pub new_transaction : List Entry → ℤ → List Posting → MetaOf → Option (List ℕ) → Option ℤ → Transaction
new_transaction g date postings metadata reference timestamp = record {
  id = next_transaction g;
  postings = postings;
  metadata = metadata;
  reference = reference;
  timestamp = unwrap_or timestamp date;
}

-- the refusal of a reference that a transaction has
abbrev pub is_used : List Entry → Option (List ℕ) → Option Refusal
is_used g None = None
is_used g (Some reference) = option_map (Used reference) (used g reference)

-- the metadata of a revert: the id that it reverts
abbrev pub revert_name : List ℕ
revert_name = codes "com.formance.spec/state/reverts"

abbrev pub revert_metadata : ℕ → MetaOf
revert_metadata id = table.insert table.empty revert_name (decimal id)

-- a revert has the original's timestamp where that is asked
abbrev pub revert_timestamp : Bool → Dated → Option ℤ
revert_timestamp at_effective_date d = if at_effective_date then Some d.transaction.timestamp else None

abbrev pub revert_body : List Entry → ℤ → ℕ → Bool → Dated → EntryBody
revert_body g date id at_effective_date d = Reverted id (new_transaction g date (reverting d.transaction.postings) (revert_metadata id) None (revert_timestamp at_effective_date d))

abbrev pub revert_decided : List Entry → ℤ → ℕ → Bool → Bool → Option Dated → Option Undoing → Decided
revert_decided g date id force at_effective_date None undoing = Denied (NoTransaction id)
revert_decided g date id force at_effective_date (Some d) (Some undoing) = Denied (Already id undoing.by)
revert_decided g date id force at_effective_date (Some d) None = granted_unless (revert_trial g (reverting d.transaction.postings) force) (revert_body g date id at_effective_date d)

-- metadata can be set on any account, and on a transaction that is there
abbrev pub if_transaction : ℕ → Option Dated → EntryBody → Decided
if_transaction id None body = Denied (NoTransaction id)
if_transaction id (Some d) body = Granted body

abbrev pub if_target : List Entry → Target → EntryBody → Decided
if_target g (Account address) body = Granted body
if_target g (TransactionOf id) body = if_transaction id (find_transaction g id) body

-- what a ledger decides of a write without a key that it keeps; the new entry's date is given
abbrev pub decided : List Entry → ℤ → Write → Decided
decided g date (Create postings reference timestamp metadata accounts force) = granted_unless (or_else (trial g postings force) (is_used g reference)) (NewTransaction (new_transaction g date postings metadata reference timestamp) accounts)
decided g date (Revert id force at_effective_date) = revert_decided g date id force at_effective_date (find_transaction g id) (undone g id)
decided g date (SetMeta target metadata) = if_target g target (SetMetadata target metadata)
decided g date (DropMeta target name) = if_target g target (DeleteMetadata target name)

-- the key with the hash of what is asked
abbrev pub marked : Option (List ℕ) → Write → Option KeyMark
marked None write = None
marked (Some key) write = Some (record { key = key; input_hash = input_hash write })

abbrev pub unsealed : List Entry → ℤ → Option KeyMark → EntryBody → Entry
unsealed g date mark body = record { id = next_entry g; date = date; mark = mark; body = body; hash = [] }

abbrev pub sealed : List Entry → Entry → Entry
sealed g e = record e { hash = own_hash g e }

-- the new entry of a log: the next id, the date, the key with its hash, and the hash of the chain
abbrev pub new_entry : List Entry → ℤ → Option KeyMark → EntryBody → Entry
new_entry g date mark body = sealed g (unsealed g date mark body)

abbrev pub appended_if : List Entry → ℤ → Option KeyMark → Decided → Written
appended_if g date mark (Denied refusal) = Refuses refusal
appended_if g date mark (Granted body) = Appends (new_entry g date mark body)

-- a key that is kept stands for the request of its hash alone
abbrev pub found_if : Option KeyMark → List ℕ → Entry → Written
found_if None given e = Finds e
found_if (Some mark) given e = if bytes_eq mark.input_hash given then Finds e else Refuses (KeyInput mark.key mark.input_hash given)

abbrev pub found : List Entry → Option (List ℕ) → Option Entry
found g None = None
found g (Some key) = kept g key

abbrev pub written_by : List Entry → Option (List ℕ) → Write → ℤ → Option Entry → Written
written_by g key write date (Some e) = found_if e.mark (input_hash write) e
written_by g key write date None = appended_if g date (marked key write) (decided g date write)

-- what a write comes to on a log
abbrev pub written : List Entry → Option (List ℕ) → Write → ℤ → Written
written g key write now = written_by g key write (date g now) (found g key)

abbrev pub body_reply : List Entry → ℤ → EntryBody → Content
body_reply g date (NewTransaction t accounts) = content.Created (new_view (moves g) (record { date = date; transaction = t }))
body_reply g date (SetMetadata target metadata) = content.Empty
body_reply g date (Reverted id t) = content.Reverted (new_view (moves g) (record { date = date; transaction = t }))
body_reply g date (DeleteMetadata target name) = content.Empty

-- the first reply of an entry, over the log up to and with it
abbrev pub first_reply : List Entry → Entry → Content
first_reply g e = body_reply g e.date e.body

-- the log up to and with an entry: ids are places
abbrev pub up_to : List Entry → Entry → List Entry
up_to g e = take e.id g

abbrev pub write_answer : List Entry → Written → Reply × List Entry
write_answer g (Refuses refusal) = (refused refusal, [])
write_answer g (Finds e) = (repeated (first_reply (up_to g e) e), [])
write_answer g (Appends e) = (plain (first_reply (g ++ e ∷ []) e), e ∷ [])
