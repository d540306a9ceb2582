-- What the line of an entry is read as, in both log forms: the members in their order, each with all that is in it
-- before the next, wherever they stand in the line.
use Rattle.std.specs.Prelude.{◌≡◌, ◌≢◌, ℕ, ◌==◌, ℤ, pos, negsuc, Bool, true, false, ◌||◌, if◌then◌else◌, List, [], ◌∷◌, length, replicate, Option, Some, None, Ok, Err, MatchResult, codes}
use Rattle.std.specs.Str.{bytes_eq}
use Rattle.base64.specs.GeneralPurpose.{encode_of, IsBytes}
use Rattle.base64.specs.Engines.{standard}
use Rattle.lg_containers.specs.CountedGrammar.{IsKey}
use Rattle.lg_containers.specs.ReferenceGrammar.{IsReference}
use Rattle.lg_json.specs.Tree.{Tree, Trees, Members}
use Rattle.lg_json.specs.Tree.Tree.{whole, list}
use Rattle.lg_types.specs.declared.records.Entry.{Entry}
use Rattle.lg_types.specs.declared.records.EntryBody.{EntryBody}
use Rattle.lg_types.specs.declared.records.EntryBody.TheVariants.{NewTransaction, SetMetadata, Reverted, DeleteMetadata}
use Rattle.lg_types.specs.declared.records.KeyMark.{KeyMark}
use Rattle.lg_types.specs.declared.records.Posting.{Posting}
use Rattle.lg_types.specs.declared.records.Transaction.{Transaction}
use Rattle.lg_types.specs.declared.refusals.Reason.TheVariants.{Missing, Kind, Form}
use Rattle.lg_readings.specs.Paths.{Path, top, below}
use Rattle.lg_readings.specs.Answers.{Answer, wrong, known, gives, ◌>>=◌}
use Rattle.lg_readings.specs.Values.{under, text_of, members_of, id_of, Name, OptionalName, Moment}
use Rattle.lg_readings.specs.Bodies.{texts_of, Accounts, WithPostings}
use Rattle.lg_readings.specs.Elements.{data_path, TargetIn}
use Rattle.lg_readings.specs.declared.readings.ReadEntry.{ReadEntry}
use Rattle.lg_readings.specs.declared.readings.EntryType.{EntryType}
use Rattle.lg_readings.specs.declared.readings.EntryType.TheVariants as types

-- ---- hashes: 32 bytes in base64 with padding (RFC 4648, section 4)

abbrev pub HashText : Path → List ℕ → Answer (List ℕ) → Type 0
HashText path t r = MatchResult r
    (λ hash. (length hash ≡ 32) × IsBytes hash × (t ≡ encode_of standard hash))
    (λ refusal. (wrong {A = List ℕ} path Form ≡ Err refusal) × ((hash : List ℕ) → length hash ≡ 32 → IsBytes hash → t ≢ encode_of standard hash))

abbrev pub Hash : Path → Option Tree → Answer (List ℕ) → Type 0
Hash path value = known (text_of path value) >>= HashText path

-- ---- a transaction

abbrev pub items_of : Path → Option Tree → Answer Trees
items_of path None = wrong path Missing
items_of path (Some (list items)) = Ok items
items_of path (Some _) = wrong path Kind

abbrev pub one_or_more : Path → List Posting → Answer (List Posting)
one_or_more path [] = wrong path Form
one_or_more path (p ∷ ps) = Ok (p ∷ ps)

abbrev pub PostingsIn : Path → Trees → Answer (List Posting) → Type 0
PostingsIn path items = WithPostings path [] items >>= (λ postings. known (one_or_more (below path (codes "postings")) postings))

abbrev pub PostingsOf : Path → Option Tree → Answer (List Posting) → Type 0
PostingsOf path value = known (items_of (below path (codes "postings")) value) >>= PostingsIn path

-- a reference is there or not, and never empty
abbrev pub ReferenceOf : Path → Option Tree → Answer (Option (List ℕ)) → Type 0
ReferenceOf path None = gives None
ReferenceOf path (Some value) = Name IsReference path (Some value) >>= (λ reference. gives (Some reference))

abbrev pub TransactionIn : Path → Members → Answer Transaction → Type 0
TransactionIn path ms =
    known (id_of (below path (codes "id")) (under (codes "id") ms)) >>= (λ id.
    PostingsOf path (under (codes "postings") ms) >>= (λ postings.
    known (texts_of (below path (codes "metadata")) (under (codes "metadata") ms)) >>= (λ metadata.
    ReferenceOf (below path (codes "reference")) (under (codes "reference") ms) >>= (λ reference.
    Moment (below path (codes "timestamp")) (under (codes "timestamp") ms) >>= (λ timestamp.
    gives (record { id = id; postings = postings; metadata = metadata; reference = reference; timestamp = timestamp }))))))

abbrev pub transaction_path : Path
transaction_path = below data_path (codes "transaction")

abbrev pub TransactionOf : Option Tree → Answer Transaction → Type 0
TransactionOf value = known (members_of transaction_path value) >>= TransactionIn transaction_path

-- ---- an entry's body: its type and its data

abbrev pub type_named : Path → List ℕ → Answer EntryType
type_named path t =
    if bytes_eq t (codes "NEW_TRANSACTION") then Ok types.NewTransaction
    else (if bytes_eq t (codes "SET_METADATA") then Ok types.SetMetadata
    else (if bytes_eq t (codes "REVERTED_TRANSACTION") then Ok types.Reverted
    else (if bytes_eq t (codes "DELETE_METADATA") then Ok types.DeleteMetadata
    else wrong path Form)))

abbrev pub type_if : Path → Answer (List ℕ) → Answer EntryType
type_if path (Ok t) = type_named path t
type_if path (Err refusal) = Err refusal

abbrev pub type_of : Path → Option Tree → Answer EntryType
type_of path value = type_if path (text_of path value)

abbrev pub NewIn : Members → Answer EntryBody → Type 0
NewIn ms =
    TransactionOf (under (codes "transaction") ms) >>= (λ transaction.
    Accounts (below data_path (codes "accountMetadata")) (under (codes "accountMetadata") ms) >>= (λ accounts.
    gives (NewTransaction transaction accounts)))

abbrev pub SetIn : Members → Answer EntryBody → Type 0
SetIn ms =
    TargetIn data_path ms >>= (λ target.
    known (texts_of (below data_path (codes "metadata")) (under (codes "metadata") ms)) >>= (λ metadata.
    gives (SetMetadata target metadata)))

abbrev pub RevertedIn : Members → Answer EntryBody → Type 0
RevertedIn ms =
    known (id_of (below data_path (codes "revertedTransactionID")) (under (codes "revertedTransactionID") ms)) >>= (λ reverted.
    TransactionOf (under (codes "transaction") ms) >>= (λ transaction.
    gives (Reverted reverted transaction)))

abbrev pub DeletedIn : Members → Answer EntryBody → Type 0
DeletedIn ms =
    TargetIn data_path ms >>= (λ target.
    known (text_of (below data_path (codes "key")) (under (codes "key") ms)) >>= (λ name.
    gives (DeleteMetadata target name)))

abbrev pub DataIn : EntryType → Members → Answer EntryBody → Type 0
DataIn types.NewTransaction ms = NewIn ms
DataIn types.SetMetadata ms = SetIn ms
DataIn types.Reverted ms = RevertedIn ms
DataIn types.DeleteMetadata ms = DeletedIn ms

abbrev pub DataOf : EntryType → Option Tree → Answer EntryBody → Type 0
DataOf type value = known (members_of data_path value) >>= DataIn type

abbrev pub BodyIn : Members → Answer EntryBody → Type 0
BodyIn ms =
    known (type_of (below top (codes "type")) (under (codes "type") ms)) >>= (λ type.
    DataOf type (under (codes "data") ms))

-- ---- a key with the hash of what it asked; without a key that hash isn't looked at

abbrev pub MarkOf : Option Tree → Option (List ℕ) → Answer (Option KeyMark) → Type 0
MarkOf value None = gives None
MarkOf value (Some key) = Hash (below top (codes "idempotencyHash")) value >>= (λ hash. gives (Some (record { key = key; input_hash = hash })))

abbrev pub MarkIn : Members → Answer (Option KeyMark) → Type 0
MarkIn ms =
    OptionalName IsKey (below top (codes "idempotencyKey")) (under (codes "idempotencyKey") ms) >>=
    MarkOf (under (codes "idempotencyHash") ms)

-- ---- the log form: 1 where it is absent, else 1 or 2

abbrev pub form_named : Path → ℤ → Answer ℕ
form_named path (pos n) = if (n == 1) || (n == 2) then Ok n else wrong path Form
form_named path (negsuc n) = wrong path Form

abbrev pub form_of : Path → Option Tree → Answer ℕ
form_of path None = Ok 1
form_of path (Some (whole n)) = form_named path n
form_of path (Some _) = wrong path Kind

-- ---- the hash of the line; where it is recomputed it may be absent, and is 32 bytes 0 then

abbrev pub LineHash : Bool → Path → Option Tree → Answer (List ℕ) → Type 0
LineHash true path None = gives (replicate 32 0)
LineHash true path (Some value) = Hash path (Some value)
LineHash false path value = Hash path value

abbrev pub LineIn : Bool → Members → Answer ReadEntry → Type 0
LineIn recompute ms =
    BodyIn ms >>= (λ body.
    Moment (below top (codes "date")) (under (codes "date") ms) >>= (λ date.
    MarkIn ms >>= (λ mark.
    known (form_of (below top (codes "form")) (under (codes "form") ms)) >>= (λ form.
    known (id_of (below top (codes "id")) (under (codes "id") ms)) >>= (λ id.
    LineHash recompute (below top (codes "hash")) (under (codes "hash") ms) >>= (λ hash.
    gives (record { entry = record { id = id; date = date; mark = mark; body = body; hash = hash }; form = form })))))))

-- a line that is no object is wrong as a whole
abbrev pub LineOf : Bool → Tree → Answer ReadEntry → Type 0
LineOf recompute line = known (members_of top (Some line)) >>= LineIn recompute
