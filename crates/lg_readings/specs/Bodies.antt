-- What the body of a request asks for: the members in their order, and the first refusal counts.
use Rattle.std.specs.Prelude.{ℕ, ◌<◌, ℤ, Bool, true, false, List, [], ◌∷◌, ◌++◌, length, Option, Some, None, Ok, Err, codes}
use Rattle.lg_containers.specs.NameTable as table
use Rattle.lg_containers.specs.AddressGrammar.{IsAddress}
use Rattle.lg_containers.specs.AssetGrammar.{IsAsset}
use Rattle.lg_containers.specs.CountedGrammar.{IsBucket}
use Rattle.lg_containers.specs.ReferenceGrammar.{IsReference}
use Rattle.lg_json.specs.Tree.{Tree, Trees, Members}
use Rattle.lg_json.specs.Tree.Tree.{null, text, list, members}
use Rattle.lg_json.specs.Tree.Trees.{none, item}
use Rattle.lg_json.specs.Tree.Members.{no_member, member}
use Rattle.lg_types.specs.Changes.{MetaOf}
use Rattle.lg_types.specs.declared.calls.Write.{Write}
use Rattle.lg_types.specs.declared.calls.Write.TheVariants.{Create}
use Rattle.lg_types.specs.declared.records.Posting.{Posting}
use Rattle.lg_types.specs.declared.refusals.Reason.TheVariants.{Missing, Kind, Form}
use Rattle.lg_types.specs.declared.refusals.Refusal.TheVariants.{Script, NoPostings}
use Rattle.lg_readings.specs.Paths.{Path, top, below, item_below}
use Rattle.lg_readings.specs.Answers.{Answer, wrong, known, gives, ◌>>=◌, IfForm}
use Rattle.lg_readings.specs.Values.{under, present, text_of, members_of, truth_of, amount_of, Name, OptionalName, OptionalMoment}

-- ---- metadata: an object of texts

-- the text of a member
abbrev pub text_in : Path → List ℕ → Tree → Answer (List ℕ)
text_in path name (text t) = Ok t
text_in path name _ = wrong (below path name) Kind

abbrev pub if_text : (List ℕ → Answer MetaOf) → Answer (List ℕ) → Answer MetaOf
if_text next (Ok t) = next t
if_text next (Err refusal) = Err refusal

-- the metadata with the texts of the members, in their order
abbrev pub with_texts : Path → MetaOf → Members → Answer MetaOf
with_texts path meta no_member = Ok meta
with_texts path meta (member name value more) = if_text (λ t. with_texts path (table.insert meta name t) more) (text_in path name value)

abbrev pub texts_in : Path → Answer Members → Answer MetaOf
texts_in path (Ok ms) = with_texts path table.empty ms
texts_in path (Err refusal) = Err refusal

abbrev pub texts_of : Path → Option Tree → Answer MetaOf
texts_of path value = texts_in path (members_of path value)

-- none where they are absent
abbrev pub optional_texts_of : Path → Option Tree → Answer MetaOf
optional_texts_of path None = Ok table.empty
optional_texts_of path (Some value) = texts_of path (Some value)

-- ---- metadata of accounts: an object from addresses to metadata

abbrev pub AccountMetaOf : Type 0
AccountMetaOf = table.NameTable MetaOf

-- a member's address is tested first, and then its metadata
abbrev pub AccountIn : Path → List ℕ → Tree → Answer (List ℕ × MetaOf) → Type 0
AccountIn path address value =
    IfForm (IsAddress address) (below path address) address >>= (λ name.
    known (texts_of (below path address) (Some value)) >>= (λ meta.
    gives (name, meta)))

abbrev pub WithAccounts : Path → AccountMetaOf → Members → Answer AccountMetaOf → Type 0
WithAccounts path accounts no_member = gives accounts
WithAccounts path accounts (member address value more) =
    AccountIn path address value >>= (λ pair. WithAccounts path (table.insert accounts pair.0 pair.1) more)

abbrev pub Accounts : Path → Option Tree → Answer AccountMetaOf → Type 0
Accounts path value = known (members_of path value) >>= WithAccounts path table.empty

abbrev pub OptionalAccounts : Path → Option Tree → Answer AccountMetaOf → Type 0
OptionalAccounts path None = gives table.empty
OptionalAccounts path (Some value) = Accounts path (Some value)

-- ---- postings

abbrev pub PostingIn : Path → Members → Answer Posting → Type 0
PostingIn path ms =
    Name IsAddress (below path (codes "source")) (under (codes "source") ms) >>= (λ source.
    Name IsAddress (below path (codes "destination")) (under (codes "destination") ms) >>= (λ destination.
    known (amount_of (below path (codes "amount")) (under (codes "amount") ms)) >>= (λ amount.
    Name IsAsset (below path (codes "asset")) (under (codes "asset") ms) >>= (λ asset.
    gives (record { source = source; destination = destination; asset = asset; amount = amount })))))

-- an item of a list: null is of another type
abbrev pub PostingOf : Path → Tree → Answer Posting → Type 0
PostingOf path value = known (members_of path (Some value)) >>= PostingIn path

-- the postings before, and those of the items
abbrev pub WithPostings : Path → List Posting → Trees → Answer (List Posting) → Type 0
WithPostings path postings none = gives postings
WithPostings path postings (item value more) =
    PostingOf (item_below path (codes "postings") (length postings)) value >>= (λ p. WithPostings path (postings ++ p ∷ []) more)

-- ---- a transaction

abbrev pub script_answer : Bool → Answer (Unit {0})
script_answer true = Ok tt
script_answer false = Err Script

-- a script is refused, but for one whose text is absent or empty
abbrev pub plain_of : Option Tree → Answer (Unit {0})
plain_of None = Ok tt
plain_of (Some (text [])) = Ok tt
plain_of (Some _) = Err Script

abbrev pub script_of : Option Tree → Answer (Unit {0})
script_of None = Ok tt
script_of (Some (members ms)) = plain_of (under (codes "plain") ms)
script_of (Some _) = Err Script

abbrev pub some_postings : List Posting → Answer (List Posting)
some_postings [] = Err NoPostings
some_postings (p ∷ ps) = Ok (p ∷ ps)

abbrev pub PostingsOfList : Path → Trees → Answer (List Posting) → Type 0
PostingsOfList path items = WithPostings path [] items >>= (λ postings. known (some_postings postings))

-- a list without items has no postings
abbrev pub SomePostings : Path → Option Tree → Answer (List Posting) → Type 0
SomePostings path None = known (Err NoPostings)
SomePostings path (Some (list items)) = PostingsOfList path items
SomePostings path (Some _) = known (wrong (below path (codes "postings")) Kind)

abbrev pub CreationIn : Path → Members → Answer Write → Type 0
CreationIn path ms =
    known (script_of (under (codes "script") ms)) >>= (λ _.
    SomePostings path (under (codes "postings") ms) >>= (λ postings.
    OptionalMoment (below path (codes "timestamp")) (under (codes "timestamp") ms) >>= (λ timestamp.
    OptionalName IsReference (below path (codes "reference")) (under (codes "reference") ms) >>= (λ reference.
    known (optional_texts_of (below path (codes "metadata")) (under (codes "metadata") ms)) >>= (λ metadata.
    OptionalAccounts (below path (codes "accountMetadata")) (under (codes "accountMetadata") ms) >>= (λ accounts.
    known (truth_of (below path (codes "force")) (under (codes "force") ms)) >>= (λ force.
    gives (Create postings reference timestamp metadata accounts force))))))))

abbrev pub Creation : Path → Option Tree → Answer Write → Type 0
Creation path value = known (members_of path value) >>= CreationIn path

-- ---- a revert: absent, or an object whose metadata have no name

abbrev pub no_members : Path → Members → Answer (Unit {0})
no_members path no_member = Ok tt
no_members path (member name value more) = wrong path Form

abbrev pub nothing_in : Path → Option Tree → Answer (Unit {0})
nothing_in path None = Ok tt
nothing_in path (Some (members ms)) = no_members path ms
nothing_in path (Some _) = wrong path Kind

abbrev pub revert_of : Option Tree → Answer (Unit {0})
revert_of None = Ok tt
revert_of (Some (members ms)) = nothing_in (below top (codes "metadata")) (under (codes "metadata") ms)
revert_of (Some _) = wrong top Kind

-- ---- a ledger: its bucket, which is `_default` where none is given, its metadata, and no features

abbrev pub OptionalBucket : Path → Option Tree → Answer (List ℕ) → Type 0
OptionalBucket path None = gives (codes "_default")
OptionalBucket path (Some value) = Name IsBucket path (Some value)

abbrev pub LedgerIn : Members → Answer (List ℕ × MetaOf) → Type 0
LedgerIn ms =
    OptionalBucket (below top (codes "bucket")) (under (codes "bucket") ms) >>= (λ bucket.
    known (optional_texts_of (below top (codes "metadata")) (under (codes "metadata") ms)) >>= (λ metadata.
    known (nothing_in (below top (codes "features")) (under (codes "features") ms)) >>= (λ _.
    gives (bucket, metadata))))

abbrev pub LedgerOf : Tree → Answer (List ℕ × MetaOf) → Type 0
LedgerOf null = gives (codes "_default", table.empty)
LedgerOf (members ms) = LedgerIn ms
LedgerOf _ = known (wrong top Kind)
