-- The texts of postings and transactions, and what they are read as.
use Rattle.std.proofs.Common.{◌≡◌, ℕ, ◌-◌, ◌^◌, ◌<◌, List, [], ◌∷◌, ◌++◌, length, Option, Some, None, refl, sym, subst, append_assoc, arith}
use Rattle.std.specs.Prelude.{Ok, ℤ, pos, decimal, codes, IfSome, true, not}
use Rattle.std.specs.Str.{bytes_eq}
use Rattle.std.proofs.lemmas.Bool.{and_parts}
use Rattle.std.specs.List.{AllByRecursion}
use Rattle.std.proofs.lemmas.List.{append-nil}
use Rattle.lg_base.specs.Texts.{quoted}
use Rattle.lg_containers.specs.AddressGrammar.{IsAddress}
use Rattle.lg_containers.specs.AssetGrammar.{IsAsset}
use Rattle.lg_containers.specs.ReferenceGrammar.{IsReference}
use Rattle.lg_containers.specs.CanonicalTexts.{list_text}
use Rattle.lg_json.specs.Grammar.{IsWhole, IsValue, InRange, Fits}
use Rattle.lg_json.specs.Tree.{Tree, Members}
use Rattle.lg_json.specs.Tree.Tree.{null, whole, text, list, members}
use Rattle.lg_json.specs.Tree.Members.{no_member, member}
use Rattle.lg_time.specs.Canonical.{moment_text}
use Rattle.lg_time.specs.Moment.{IsInMoments}
use Rattle.lg_types.specs.EntryTexts.{posting_text, meta_text, reference_text, transaction_text}
use Rattle.lg_types.specs.PartTexts.{date_text, optional_text}
use Rattle.lg_types.specs.declared.records.Posting.{Posting}
use Rattle.lg_types.specs.declared.records.Transaction.{Transaction}
use Rattle.lg_readings.specs.Paths.{Path, below, item_below}
use Rattle.lg_readings.specs.Answers.{gives}
use Rattle.lg_readings.specs.Values.{under, Moment}
use Rattle.lg_readings.specs.Bodies.{PostingOf, WithPostings}
use Rattle.lg_readings.specs.EntryLines.{one_or_more, PostingsOf, ReferenceOf, TransactionIn, TransactionOf, transaction_path}
use Rattle.lg_entry_lines.specs.Laws.{GivesOnly}
use Rattle.lg_types.specs.Records.{IsId, IsPosting, IsTransaction}
use Rattle.lg_entry_lines.proofs.Metadata.{meta_tree, meta_is_object, meta_fits, meta_reads}
use Rattle.lg_entry_lines.proofs.Moments.{date_is_string}
use Rattle.lg_entry_lines.proofs.Names.{address_utf8, asset_utf8}
use Rattle.lg_entry_lines.proofs.Numbers.{decimal_is_whole}
use Rattle.lg_entry_lines.proofs.Objects.{Follows, nothing_more, one_more, object, is_new, Fitting, none_fits, one_fits, object_fits, items, list_is, items_fit}
use Rattle.lg_entry_lines.proofs.Readings.{only_known, only_gives, only_then, only_name, only_number, only_moment}
use Rattle.lg_entry_lines.proofs.Strings.{text_is_string}

-- ---- a posting

abbrev posting_members : Posting → Members
posting_members p =
    member (codes "source") (text p.source) (member (codes "destination") (text p.destination) (member (codes "amount") (whole (pos p.amount)) (member (codes "asset") (text p.asset) no_member)))

abbrev pub posting_tree : Posting → Tree
posting_tree p = members (posting_members p)

posting_is_object : (p : Posting) → IsPosting p → IsValue (posting_tree p) (posting_text p)
posting_is_object p h =
    object (codes "source") (text p.source) (quoted p.source) refl (text_is_string p.source (address_utf8 p.source h.source))
    (one_more (codes "destination") (text p.destination) (quoted p.destination) refl (text_is_string p.destination (address_utf8 p.destination h.destination))
    (one_more (codes "amount") (whole (pos p.amount)) (decimal p.amount) refl (decimal_is_whole p.amount h.amount)
    (one_more (codes "asset") (text p.asset) (quoted p.asset) refl (text_is_string p.asset (asset_utf8 p.asset h.asset))
    (nothing_more (125 ∷ [])))))

posting_fits : (room : ℕ) (p : Posting) → 0 < room → IsPosting p → Fits room (posting_tree p)
posting_fits room p some h = object_fits room (posting_members p) some (one_fits refl tt (one_fits refl tt (one_fits refl h.amount (one_fits refl tt (none_fits (room - 1))))))

posting_reads : (path : Path) (p : Posting) → IsPosting p → GivesOnly (PostingOf path (posting_tree p)) p
posting_reads path p h =
    only_then (only_known refl)
    (only_then (only_name IsAddress (below path (codes "source")) p.source h.source)
    (only_then (only_name IsAddress (below path (codes "destination")) p.destination h.destination)
    (only_then (only_number (below path (codes "amount")) (2 ^ 127) p.amount h.amount)
    (only_then (only_name IsAsset (below path (codes "asset")) p.asset h.asset)
    (only_gives p)))))

-- ---- postings

postings_with : (path : Path) (before ps : List Posting) → AllByRecursion IsPosting ps → GivesOnly (WithPostings path before (items posting_tree ps)) (before ++ ps)
postings_with path before [] h = subst (GivesOnly (gives before)) (sym (append-nil before)) (only_gives before)
postings_with path before (p ∷ ps) h =
    only_then (posting_reads (item_below path (codes "postings") (length before)) p h.0) (subst (GivesOnly (WithPostings path (before ++ p ∷ []) (items posting_tree ps))) (append_assoc before (p ∷ []) ps) (postings_with path (before ++ p ∷ []) ps h.1))

some_of : (path : Path) (ps : List Posting) → 0 < length ps → one_or_more path ps ≡ Ok ps
some_of path [] h = absurd (omega arith)
some_of path (p ∷ ps) h = refl

postings_read : (path : Path) (ps : List Posting) → 0 < length ps → AllByRecursion IsPosting ps → GivesOnly (PostingsOf path (Some (list (items posting_tree ps)))) ps
postings_read path ps some h = only_then (only_known refl) (only_then (postings_with path [] ps h) (only_known (some_of (below path (codes "postings")) ps some)))

-- ---- a transaction

abbrev reference_members : Option (List ℕ) → Members → Members
reference_members None ms = ms
reference_members (Some reference) ms = member (codes "reference") (text reference) ms

abbrev timestamp_members : Transaction → Members
timestamp_members t = member (codes "timestamp") (text (moment_text t.timestamp)) no_member

abbrev pub transaction_members : Transaction → Members
transaction_members t =
    member (codes "id") (whole (pos t.id)) (member (codes "postings") (list (items posting_tree t.postings)) (member (codes "metadata") (meta_tree t.metadata) (reference_members t.reference (timestamp_members t))))

reference_follows : (r : Option (List ℕ)) {ms : Members} {bytes rest : List ℕ} → IfSome r IsReference → Follows ms bytes rest → Follows (reference_members r ms) (optional_text reference_text r ++ bytes) rest
reference_follows None h f = f
reference_follows (Some r) {ms = ms} {bytes = bytes} {rest = rest} h f =
    subst (λ (l : List ℕ). Follows (member (codes "reference") (text r) ms) (codes ",\"reference\":" ++ (l ++ bytes)) rest) (sym (append-nil (quoted r)))
    (one_more (codes "reference") (text r) (quoted r) refl (text_is_string r h.0) f)

pub id_is_whole : (n : ℕ) → IsId n → IsWhole (pos n) (decimal n)
id_is_whole n h = decimal_is_whole n (omega arith)

pub id_fits : (n : ℕ) → IsId n → InRange (pos n)
id_fits n h = omega arith

pub transaction_is_object : (t : Transaction) → IsTransaction t → IsValue (members (transaction_members t)) (transaction_text t)
transaction_is_object t h =
    object (codes "id") (whole (pos t.id)) (decimal t.id) refl (id_is_whole t.id h.id)
    (one_more (codes "postings") (list (items posting_tree t.postings)) (list_text posting_text t.postings) refl (list_is posting_tree IsPosting posting_text posting_is_object t.postings h.postings)
    (one_more (codes "metadata") (meta_tree t.metadata) (meta_text t.metadata) refl (meta_is_object t.metadata h.metadata)
    (reference_follows t.reference h.reference
    (one_more (codes "timestamp") (text (moment_text t.timestamp)) (date_text t.timestamp) refl (date_is_string t.timestamp h.timestamp)
    (nothing_more (125 ∷ []))))))

reference_fits : (room : ℕ) (r : Option (List ℕ)) (moment : List ℕ) → Fitting room (reference_members r (member (codes "timestamp") (text moment) no_member))
reference_fits room None moment = one_fits refl tt (none_fits room)
reference_fits room (Some r) moment = one_fits refl tt (one_fits refl tt (none_fits room))

reference_new : (name : List ℕ) (r : Option (List ℕ)) (ms : Members) → is_new name (member (codes "reference") null ms) ≡ true → is_new name (reference_members r ms) ≡ true
reference_new name None ms h = (and_parts (not (bytes_eq name (codes "reference"))) (is_new name ms) h).1
reference_new name (Some r) ms h = h

-- the three levels of a transaction: itself, its postings and its metadata, and each posting
pub transaction_fits : (room : ℕ) (t : Transaction) → 2 < room → IsTransaction t → Fits room (members (transaction_members t))
transaction_fits room t some h =
    object_fits room (transaction_members t) (omega arith)
    (one_fits (reference_new (codes "id") t.reference (timestamp_members t) refl) (id_fits t.id h.id)
    (one_fits (reference_new (codes "postings") t.reference (timestamp_members t) refl) (omega arith, items_fit posting_tree IsPosting (room - 1 - 1) (λ p q. posting_fits (room - 1 - 1) p (omega arith) q) t.postings h.postings)
    (one_fits (reference_new (codes "metadata") t.reference (timestamp_members t) refl) (meta_fits (room - 1) t.metadata (omega arith) h.metadata)
    (reference_fits (room - 1) t.reference (moment_text t.timestamp)))))

reference_reads : (path : Path) (r : Option (List ℕ)) (moment : List ℕ) → IfSome r IsReference → GivesOnly (ReferenceOf path (under (codes "reference") (reference_members r (member (codes "timestamp") (text moment) no_member)))) r
reference_reads path None moment h = only_gives None
reference_reads path (Some r) moment h = only_then (only_name IsReference path r h) (only_gives (Some r))

past_reference : (r : Option (List ℕ)) (moment : List ℕ) → under (codes "timestamp") (reference_members r (member (codes "timestamp") (text moment) no_member)) ≡ Some (text moment)
past_reference None moment = refl
past_reference (Some r) moment = refl

timestamp_reads : (path : Path) (r : Option (List ℕ)) (moment : ℤ) → IsInMoments moment → GivesOnly (Moment path (under (codes "timestamp") (reference_members r (member (codes "timestamp") (text (moment_text moment)) no_member)))) moment
timestamp_reads path r moment h = subst (λ (v : Option Tree). GivesOnly (Moment path v) moment) (sym (past_reference r (moment_text moment))) (only_moment path moment h)

transaction_in : (path : Path) (t : Transaction) → IsTransaction t → GivesOnly (TransactionIn path (transaction_members t)) t
transaction_in path t h =
    only_then (only_number (below path (codes "id")) (2 ^ 64) t.id h.id)
    (only_then (postings_read path t.postings h.some h.postings)
    (only_then (only_known (meta_reads (below path (codes "metadata")) t.metadata))
    (only_then (reference_reads (below path (codes "reference")) t.reference (moment_text t.timestamp) h.reference)
    (only_then (timestamp_reads (below path (codes "timestamp")) t.reference t.timestamp h.timestamp)
    (only_gives t)))))

pub transaction_reads : (t : Transaction) → IsTransaction t → GivesOnly (TransactionOf (Some (members (transaction_members t)))) t
transaction_reads t h = only_then (only_known refl) (transaction_in transaction_path t h)
