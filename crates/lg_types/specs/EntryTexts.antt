-- The canonical texts of the records: no blanks, members in one order, maps in the byte order of their names.
use Rattle.std.specs.Prelude.{ℕ, List, [], ◌∷◌, codes, decimal}
use Rattle.std.specs.List.{concat}
use Rattle.lg_base.specs.Texts.{quoted}
use Rattle.lg_containers.specs.CanonicalTexts.{list_text, members_text}
use Rattle.lg_containers.specs.NameTable.{NameTable, pairs_of}
use Rattle.lg_types.specs.PartTexts.{hash_text, date_text, optional_text}
use Rattle.lg_types.specs.declared.records.Posting.{Posting}
use Rattle.lg_types.specs.declared.records.Transaction.{Transaction}
use Rattle.lg_types.specs.declared.records.Target.{Target}
use Rattle.lg_types.specs.declared.records.Target.TheVariants as targets
use Rattle.lg_types.specs.declared.records.EntryBody.{EntryBody}
use Rattle.lg_types.specs.declared.records.EntryBody.TheVariants.{NewTransaction, SetMetadata, Reverted, DeleteMetadata}
use Rattle.lg_types.specs.declared.records.KeyMark.{KeyMark}
use Rattle.lg_types.specs.declared.records.Entry.{Entry}
use Rattle.lg_types.specs.declared.records.LedgerInfo.{LedgerInfo}
use Rattle.lg_types.specs.declared.records.Event.{Event}
use Rattle.lg_types.specs.declared.records.Event.TheVariants.{Made, Logged}
use Rattle.lg_types.specs.declared.forms.EntryForm.{EntryForm}
use Rattle.lg_types.specs.declared.forms.EntryForm.TheVariants.{Line, Chained, FirstLine, FirstChained}

-- a posting
abbrev pub posting_text : Posting → List ℕ
posting_text p =
    concat (codes "{\"source\":" ∷ quoted p.source ∷ codes ",\"destination\":" ∷ quoted p.destination ∷ codes ",\"amount\":" ∷ decimal p.amount ∷ codes ",\"asset\":" ∷ quoted p.asset ∷ codes "}" ∷ [])

-- metadata
abbrev pub meta_text : NameTable (List ℕ) → List ℕ
meta_text m = members_text quoted (pairs_of m)

-- metadata of accounts
abbrev pub account_meta_text : NameTable (NameTable (List ℕ)) → List ℕ
account_meta_text m = members_text meta_text (pairs_of m)

-- the member with a transaction's reference
abbrev pub reference_text : List ℕ → List ℕ
reference_text reference = concat (codes ",\"reference\":" ∷ quoted reference ∷ [])

-- a transaction; its reference is left out where it has none
abbrev pub transaction_text : Transaction → List ℕ
transaction_text t =
    concat (codes "{\"id\":" ∷ decimal t.id ∷ codes ",\"postings\":" ∷ list_text posting_text t.postings ∷ codes ",\"metadata\":" ∷ meta_text t.metadata ∷ optional_text reference_text t.reference ∷ codes ",\"timestamp\":" ∷ date_text t.timestamp ∷ codes "}" ∷ [])

-- what metadata are about, as two members
abbrev pub target_text : Target → List ℕ
target_text (targets.Account address) = concat (codes "\"targetType\":\"ACCOUNT\",\"targetId\":" ∷ quoted address ∷ [])
target_text (targets.Transaction id) = concat (codes "\"targetType\":\"TRANSACTION\",\"targetId\":" ∷ decimal id ∷ [])

-- the type of an entry and its data, as two members
abbrev pub body_text : EntryBody → List ℕ
body_text (NewTransaction transaction accounts) =
    concat (codes "\"type\":\"NEW_TRANSACTION\",\"data\":{\"transaction\":" ∷ transaction_text transaction ∷ codes ",\"accountMetadata\":" ∷ account_meta_text accounts ∷ codes "}" ∷ [])
body_text (SetMetadata target metadata) =
    concat (codes "\"type\":\"SET_METADATA\",\"data\":{" ∷ target_text target ∷ codes ",\"metadata\":" ∷ meta_text metadata ∷ codes "}" ∷ [])
body_text (Reverted reverted transaction) =
    concat (codes "\"type\":\"REVERTED_TRANSACTION\",\"data\":{\"revertedTransactionID\":" ∷ decimal reverted ∷ codes ",\"transaction\":" ∷ transaction_text transaction ∷ codes "}" ∷ [])
body_text (DeleteMetadata target name) =
    concat (codes "\"type\":\"DELETE_METADATA\",\"data\":{" ∷ target_text target ∷ codes ",\"key\":" ∷ quoted name ∷ codes "}" ∷ [])

-- the key of the request, and the hash of what it asked
abbrev pub mark_text : KeyMark → List ℕ
mark_text mark = concat (codes ",\"idempotencyKey\":" ∷ quoted mark.key ∷ codes ",\"idempotencyHash\":" ∷ hash_text mark.input_hash ∷ [])

-- the key alone
abbrev pub key_text : KeyMark → List ℕ
key_text mark = concat (codes ",\"idempotencyKey\":" ∷ quoted mark.key ∷ [])

-- an entry: its line, and the text that is hashed, in the log's form 2 and in its form 1
abbrev pub entry_text : Entry → EntryForm → List ℕ
entry_text e Line =
    concat (codes "{" ∷ body_text e.body ∷ codes ",\"date\":" ∷ date_text e.date ∷ optional_text mark_text e.mark ∷ codes ",\"form\":2,\"id\":" ∷ decimal e.id ∷ codes ",\"hash\":" ∷ hash_text e.hash ∷ codes "}" ∷ [])
entry_text e Chained =
    concat (codes "{" ∷ body_text e.body ∷ codes ",\"date\":" ∷ date_text e.date ∷ optional_text mark_text e.mark ∷ codes ",\"form\":2,\"id\":" ∷ decimal e.id ∷ codes "}" ∷ [])
entry_text e FirstLine =
    concat (codes "{" ∷ body_text e.body ∷ codes ",\"date\":" ∷ date_text e.date ∷ optional_text mark_text e.mark ∷ codes ",\"id\":" ∷ decimal e.id ∷ codes ",\"hash\":" ∷ hash_text e.hash ∷ codes "}" ∷ [])
entry_text e FirstChained =
    concat (codes "{" ∷ body_text e.body ∷ codes ",\"date\":" ∷ date_text e.date ∷ optional_text key_text e.mark ∷ codes ",\"id\":" ∷ decimal e.id ∷ codes "}" ∷ [])

-- a ledger
abbrev pub ledger_text : LedgerInfo → List ℕ
ledger_text l =
    concat (codes "{\"name\":" ∷ quoted l.name ∷ codes ",\"addedAt\":" ∷ date_text l.added ∷ codes ",\"bucket\":" ∷ quoted l.bucket ∷ codes ",\"metadata\":" ∷ meta_text l.metadata ∷ codes "}" ∷ [])

-- an event with its place, as a line without its end
abbrev pub event_text : ℕ → Event → List ℕ
event_text place (Made info) =
    concat (codes "{\"event\":" ∷ decimal place ∷ codes ",\"made\":" ∷ ledger_text info ∷ codes "}" ∷ [])
event_text place (Logged ledger entry) =
    concat (codes "{\"event\":" ∷ decimal place ∷ codes ",\"ledger\":" ∷ quoted ledger ∷ codes ",\"entry\":" ∷ entry_text entry Line ∷ codes "}" ∷ [])
