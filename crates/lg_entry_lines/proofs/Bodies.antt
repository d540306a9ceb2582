-- The texts of the bodies of entries, and what they are read as.
use Rattle.std.proofs.Common.{ℕ, ◌-◌, ◌^◌, ◌<◌, List, [], ◌∷◌, ◌++◌, refl, sym, subst, arith}
use Rattle.std.specs.Prelude.{pos, decimal, codes}
use Rattle.std.specs.List.{concat}
use Rattle.std.proofs.lemmas.List.{append-nil}
use Rattle.lg_base.specs.Texts.{quoted}
use Rattle.lg_containers.specs.AddressGrammar.{IsAddress}
use Rattle.lg_json.specs.Grammar.{IsValue, Fits}
use Rattle.lg_json.specs.Tree.{Tree, Members}
use Rattle.lg_json.specs.Tree.Tree.{whole, text, members}
use Rattle.lg_json.specs.Tree.Members.{no_member, member}
use Rattle.lg_types.specs.EntryTexts.{meta_text, account_meta_text, transaction_text, target_text, body_text}
use Rattle.lg_types.specs.declared.records.EntryBody.{EntryBody}
use Rattle.lg_types.specs.declared.records.EntryBody.TheVariants.{NewTransaction, SetMetadata, Reverted, DeleteMetadata}
use Rattle.lg_types.specs.declared.records.Target.{Target}
use Rattle.lg_types.specs.declared.records.Target.TheVariants.{Account, Transaction as TransactionOf}
use Rattle.lg_readings.specs.Paths.{Path, below}
use Rattle.lg_readings.specs.Elements.{data_path, TargetIn}
use Rattle.lg_readings.specs.EntryLines.{BodyIn}
use Rattle.lg_readings.specs.declared.readings.EntryType.TheVariants as types
use Rattle.lg_entry_lines.specs.Laws.{GivesOnly}
use Rattle.lg_types.specs.Records.{IsTarget, IsBody}
use Rattle.lg_entry_lines.proofs.Metadata.{meta_tree, meta_is_object, meta_fits, meta_reads, account_meta_tree, account_meta_is_object, account_meta_fits, accounts_read}
use Rattle.lg_entry_lines.proofs.Names.{address_utf8}
use Rattle.lg_entry_lines.proofs.Objects.{Follows, nothing_more, one_more, object, none_fits, one_fits, object_fits}
use Rattle.lg_entry_lines.proofs.Readings.{only_known, only_gives, only_then, only_name, only_number}
use Rattle.lg_entry_lines.proofs.Strings.{text_is_string, literal_is_string}
use Rattle.lg_entry_lines.proofs.Transactions.{transaction_members, transaction_is_object, transaction_fits, transaction_reads, id_is_whole, id_fits}

-- ---- what metadata are about

abbrev target_type : Target → List ℕ
target_type (Account address) = codes "ACCOUNT"
target_type (TransactionOf id) = codes "TRANSACTION"

abbrev target_id : Target → Tree
target_id (Account address) = text address
target_id (TransactionOf id) = whole (pos id)

abbrev target_members : Target → Members → Members
target_members target ms = member (codes "targetType") (text (target_type target)) (member (codes "targetId") (target_id target) ms)

target_object : (target : Target) {ms : Members} {bytes : List ℕ} → IsTarget target → Follows ms bytes (125 ∷ []) → IsValue (members (target_members target ms)) (123 ∷ (target_text target ++ bytes))
target_object (Account address) {ms = ms} {bytes = bytes} h f =
    subst (λ (l : List ℕ). IsValue (members (target_members (Account address) ms)) (123 ∷ (codes "\"targetType\":\"ACCOUNT\",\"targetId\":" ++ (l ++ bytes)))) (sym (append-nil (quoted address)))
    (object (codes "targetType") (text (codes "ACCOUNT")) (quoted (codes "ACCOUNT")) refl (literal_is_string (codes "ACCOUNT") refl)
    (one_more (codes "targetId") (text address) (quoted address) refl (text_is_string address (address_utf8 address h)) f))
target_object (TransactionOf id) {ms = ms} {bytes = bytes} h f =
    subst (λ (l : List ℕ). IsValue (members (target_members (TransactionOf id) ms)) (123 ∷ (codes "\"targetType\":\"TRANSACTION\",\"targetId\":" ++ (l ++ bytes)))) (sym (append-nil (decimal id)))
    (object (codes "targetType") (text (codes "TRANSACTION")) (quoted (codes "TRANSACTION")) refl (literal_is_string (codes "TRANSACTION") refl)
    (one_more (codes "targetId") (whole (pos id)) (decimal id) refl (id_is_whole id h) f))

target_id_fits : (room : ℕ) (target : Target) → IsTarget target → Fits room (target_id target)
target_id_fits room (Account address) h = tt
target_id_fits room (TransactionOf id) h = id_fits id h

target_reads : (path : Path) (target : Target) (ms : Members) → IsTarget target → GivesOnly (TargetIn path (target_members target ms)) target
target_reads path (Account address) ms h = only_then (only_known refl) (only_then (only_name IsAddress (below path (codes "targetId")) address h) (only_gives (Account address)))
target_reads path (TransactionOf id) ms h = only_then (only_known refl) (only_then (only_number (below path (codes "targetId")) (2 ^ 64) id h) (only_gives (TransactionOf id)))

-- ---- a body

abbrev pub type_name : EntryBody → List ℕ
type_name (NewTransaction transaction accounts) = codes "NEW_TRANSACTION"
type_name (SetMetadata target metadata) = codes "SET_METADATA"
type_name (Reverted reverted transaction) = codes "REVERTED_TRANSACTION"
type_name (DeleteMetadata target name) = codes "DELETE_METADATA"

abbrev pub data_members : EntryBody → Members
data_members (NewTransaction transaction accounts) =
    member (codes "transaction") (members (transaction_members transaction)) (member (codes "accountMetadata") (account_meta_tree accounts) no_member)
data_members (SetMetadata target metadata) = target_members target (member (codes "metadata") (meta_tree metadata) no_member)
data_members (Reverted reverted transaction) =
    member (codes "revertedTransactionID") (whole (pos reverted)) (member (codes "transaction") (members (transaction_members transaction)) no_member)
data_members (DeleteMetadata target name) = target_members target (member (codes "key") (text name) no_member)

abbrev pub body_members : EntryBody → Members → Members
body_members body ms = member (codes "type") (text (type_name body)) (member (codes "data") (members (data_members body)) ms)

abbrev data_text : EntryBody → List ℕ
data_text (NewTransaction transaction accounts) = concat (codes "{\"transaction\":" ∷ transaction_text transaction ∷ codes ",\"accountMetadata\":" ∷ account_meta_text accounts ∷ codes "}" ∷ [])
data_text (SetMetadata target metadata) = concat (codes "{" ∷ target_text target ∷ codes ",\"metadata\":" ∷ meta_text metadata ∷ codes "}" ∷ [])
data_text (Reverted reverted transaction) = concat (codes "{\"revertedTransactionID\":" ∷ decimal reverted ∷ codes ",\"transaction\":" ∷ transaction_text transaction ∷ codes "}" ∷ [])
data_text (DeleteMetadata target name) = concat (codes "{" ∷ target_text target ∷ codes ",\"key\":" ∷ quoted name ∷ codes "}" ∷ [])

data_is_object : (body : EntryBody) → IsBody body → IsValue (members (data_members body)) (data_text body)
data_is_object (NewTransaction transaction accounts) h =
    object (codes "transaction") (members (transaction_members transaction)) (transaction_text transaction) refl (transaction_is_object transaction h.0)
    (one_more (codes "accountMetadata") (account_meta_tree accounts) (account_meta_text accounts) refl (account_meta_is_object accounts h.1) (nothing_more (125 ∷ [])))
data_is_object (SetMetadata target metadata) h =
    target_object target h.0 (one_more (codes "metadata") (meta_tree metadata) (meta_text metadata) refl (meta_is_object metadata h.1) (nothing_more (125 ∷ [])))
data_is_object (Reverted reverted transaction) h =
    object (codes "revertedTransactionID") (whole (pos reverted)) (decimal reverted) refl (id_is_whole reverted h.0)
    (one_more (codes "transaction") (members (transaction_members transaction)) (transaction_text transaction) refl (transaction_is_object transaction h.1) (nothing_more (125 ∷ [])))
data_is_object (DeleteMetadata target name) h =
    target_object target h.0 (one_more (codes "key") (text name) (quoted name) refl (text_is_string name h.1) (nothing_more (125 ∷ [])))

-- the type and the data, and the members after them
pub body_object : (body : EntryBody) {ms : Members} {bytes : List ℕ} → IsBody body → Follows ms bytes (125 ∷ []) → IsValue (members (body_members body ms)) (123 ∷ (body_text body ++ bytes))
body_object (NewTransaction transaction accounts) h f =
    object (codes "type") (text (codes "NEW_TRANSACTION")) (quoted (codes "NEW_TRANSACTION")) refl (literal_is_string (codes "NEW_TRANSACTION") refl)
    (one_more (codes "data") (members (data_members (NewTransaction transaction accounts))) (data_text (NewTransaction transaction accounts)) refl (data_is_object (NewTransaction transaction accounts) h) f)
body_object (SetMetadata target metadata) h f =
    object (codes "type") (text (codes "SET_METADATA")) (quoted (codes "SET_METADATA")) refl (literal_is_string (codes "SET_METADATA") refl)
    (one_more (codes "data") (members (data_members (SetMetadata target metadata))) (data_text (SetMetadata target metadata)) refl (data_is_object (SetMetadata target metadata) h) f)
body_object (Reverted reverted transaction) h f =
    object (codes "type") (text (codes "REVERTED_TRANSACTION")) (quoted (codes "REVERTED_TRANSACTION")) refl (literal_is_string (codes "REVERTED_TRANSACTION") refl)
    (one_more (codes "data") (members (data_members (Reverted reverted transaction))) (data_text (Reverted reverted transaction)) refl (data_is_object (Reverted reverted transaction) h) f)
body_object (DeleteMetadata target name) h f =
    object (codes "type") (text (codes "DELETE_METADATA")) (quoted (codes "DELETE_METADATA")) refl (literal_is_string (codes "DELETE_METADATA") refl)
    (one_more (codes "data") (members (data_members (DeleteMetadata target name))) (data_text (DeleteMetadata target name)) refl (data_is_object (DeleteMetadata target name) h) f)

-- the levels of the data: themselves, and those of the transaction
pub data_fits : (room : ℕ) (body : EntryBody) → 3 < room → IsBody body → Fits room (members (data_members body))
data_fits room (NewTransaction transaction accounts) some h =
    object_fits room (data_members (NewTransaction transaction accounts)) (omega arith)
    (one_fits refl (transaction_fits (room - 1) transaction (omega arith) h.0) (one_fits refl (account_meta_fits (room - 1) accounts (omega arith) h.1) (none_fits (room - 1))))
data_fits room (SetMetadata target metadata) some h =
    object_fits room (data_members (SetMetadata target metadata)) (omega arith)
    (one_fits refl tt (one_fits refl (target_id_fits (room - 1) target h.0) (one_fits refl (meta_fits (room - 1) metadata (omega arith) h.1) (none_fits (room - 1)))))
data_fits room (Reverted reverted transaction) some h =
    object_fits room (data_members (Reverted reverted transaction)) (omega arith)
    (one_fits refl (id_fits reverted h.0) (one_fits refl (transaction_fits (room - 1) transaction (omega arith) h.1) (none_fits (room - 1))))
data_fits room (DeleteMetadata target name) some h =
    object_fits room (data_members (DeleteMetadata target name)) (omega arith)
    (one_fits refl tt (one_fits refl (target_id_fits (room - 1) target h.0) (one_fits refl tt (none_fits (room - 1)))))

pub body_reads : (body : EntryBody) (ms : Members) → IsBody body → GivesOnly (BodyIn (body_members body ms)) body
body_reads (NewTransaction transaction accounts) ms h =
    only_then (only_known {a = types.NewTransaction} refl)
    (only_then (only_known refl)
    (only_then (transaction_reads transaction h.0)
    (only_then (accounts_read (below data_path (codes "accountMetadata")) accounts h.1)
    (only_gives (NewTransaction transaction accounts)))))
body_reads (SetMetadata target metadata) ms h =
    only_then (only_known {a = types.SetMetadata} refl)
    (only_then (only_known refl)
    (only_then (target_reads data_path target (member (codes "metadata") (meta_tree metadata) no_member) h.0)
    (only_then (only_known (meta_reads (below data_path (codes "metadata")) metadata))
    (only_gives (SetMetadata target metadata)))))
body_reads (Reverted reverted transaction) ms h =
    only_then (only_known {a = types.Reverted} refl)
    (only_then (only_known refl)
    (only_then (only_number (below data_path (codes "revertedTransactionID")) (2 ^ 64) reverted h.0)
    (only_then (transaction_reads transaction h.1)
    (only_gives (Reverted reverted transaction)))))
body_reads (DeleteMetadata target name) ms h =
    only_then (only_known {a = types.DeleteMetadata} refl)
    (only_then (only_known refl)
    (only_then (target_reads data_path target (member (codes "key") (text name) no_member) h.0)
    (only_then (only_known refl)
    (only_gives (DeleteMetadata target name)))))
