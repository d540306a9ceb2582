-- A line is refused for a member alone.
use Rattle.std.proofs.Common.{ℕ, ◌^◌, Bool, true, false, List, [], ◌∷◌, ◌++◌, length, Option, Some, None, inl, inr, refl, sym, subst}
use Rattle.std.specs.Prelude.{Ok, Err, ℤ, pos, negsuc, nat_lt, ◌==◌, ◌||◌, codes}
use Rattle.std.specs.Str.{bytes_eq}
use Rattle.std.proofs.lemmas.Bool.{cond_both}
use Rattle.lg_json.specs.Tree.{Tree, Trees, Members}
use Rattle.lg_json.specs.Tree.Tree.{whole, text, list, members}
use Rattle.lg_json.specs.Tree.Trees.{none, item}
use Rattle.lg_json.specs.Tree.Members.{no_member, member}
use Rattle.lg_types.specs.Changes.{MetaOf}
use Rattle.lg_types.specs.declared.records.Posting.{Posting}
use Rattle.lg_types.specs.declared.refusals.Reason.{Reason}
use Rattle.lg_types.specs.declared.refusals.Reason.TheVariants.{Missing, Kind, Form}
use Rattle.lg_types.specs.declared.refusals.Refusal.TheVariants.{Member}
use Rattle.lg_readings.specs.declared.readings.EntryType.{EntryType}
use Rattle.lg_readings.specs.declared.readings.EntryType.TheVariants as types
use Rattle.lg_containers.specs.AddressGrammar.{IsAddress}
use Rattle.lg_containers.specs.AssetGrammar.{IsAsset}
use Rattle.lg_containers.specs.CountedGrammar.{IsKey}
use Rattle.lg_containers.specs.NameTable as table
use Rattle.lg_containers.specs.ReferenceGrammar.{IsReference}
use Rattle.lg_readings.specs.Paths.{Path, path_text, top, below, item_below}
use Rattle.lg_readings.specs.Answers.{Answer, wrong, known, gives, Then, GoesOn, IfForm}
use Rattle.lg_readings.specs.Values as values
use Rattle.lg_readings.specs.Bodies as bodies
use Rattle.lg_readings.specs.Elements as elements
use Rattle.lg_readings.specs.EntryLines as lines
use Rattle.lg_entry_lines.specs.Laws.{IsMemberRefusal, LinesRefuseMembers}

-- a refusal, where the answer is one, is that of a member
abbrev RefusesMember : {A : Type 0} → Answer A → Type 0
RefusesMember (Ok a) = Unit {0}
RefusesMember (Err refusal) = IsMemberRefusal refusal

-- so it is for each answer of a reading
record RefusesMembers {A : Type 0} (reading : Answer A → Type 0) : Type 0 where
  each : (r : Answer A) → reading r → RefusesMember r

refused : (path : Path) (reason : Reason) → IsMemberRefusal (Member (path_text path) reason)
refused path reason = record { path = path_text path; reason = reason; same = refl }

-- ---- how readings compose

by_known : {A : Type 0} (answer : Answer A) → RefusesMember answer → RefusesMembers (known answer)
by_known answer p = record { each = λ r h. subst RefusesMember (sym h) p }

by_gives : {A : Type 0} (a : A) → RefusesMembers (gives a)
by_gives a = record { each = λ r h. subst RefusesMember (sym h) tt }

by_form : {A : Type 0} (P : Type 0) (path : Path) (a : A) → RefusesMembers (IfForm P path a)
by_form P path a = record { each = λ r h. elim h [ inl w ↦ subst RefusesMember (sym w.1) tt | inr w ↦ subst RefusesMember (sym w.1) (refused path Form) ] }

then_on : {A B : Type 0} (first : Answer A → Type 0) (next : A → Answer B → Type 0) → RefusesMembers first → ((a : A) → RefusesMembers (next a))
    → (r : Answer B) (answer : Answer A) → first answer → GoesOn answer next r → RefusesMember r
then_on first next p q r (Ok a) h g = (q a).each r g
then_on first next p q r (Err refusal) h g = subst RefusesMember (sym g) (p.each (Err refusal) h)

by_then : {A B : Type 0} {first : Answer A → Type 0} {next : A → Answer B → Type 0} → RefusesMembers first → ((a : A) → RefusesMembers (next a)) → RefusesMembers (Then first next)
by_then {first = first} {next = next} p q = record { each = λ r h. then_on first next p q r h.answer h.is_first h.goes_on }

-- ---- values

text_of : (path : Path) (value : Option Tree) → RefusesMember (values.text_of path value)
text_of path None = refused path Missing
text_of path (Some (text t)) = tt
text_of path (Some value) = refused path Kind

members_of : (path : Path) (value : Option Tree) → RefusesMember (values.members_of path value)
members_of path None = refused path Missing
members_of path (Some (members ms)) = tt
members_of path (Some value) = refused path Kind

within : (path : Path) (limit : ℕ) (n : ℤ) → RefusesMember (values.within path limit n)
within path limit (pos n) = cond_both (nat_lt n limit) (Ok n) (wrong path Form) RefusesMember (λ _. tt) (λ _. refused path Form)
within path limit (negsuc n) = refused path Form

number_of : (path : Path) (limit : ℕ) (value : Option Tree) → RefusesMember (values.number_of path limit value)
number_of path limit None = refused path Missing
number_of path limit (Some (whole n)) = within path limit n
number_of path limit (Some value) = refused path Kind

by_name : (Names : List ℕ → Type 0) (path : Path) (value : Option Tree) → RefusesMembers (values.Name Names path value)
by_name Names path value = by_then (by_known _ (text_of path value)) (λ t. by_form (Names t) path t)

by_some_name : (Names : List ℕ → Type 0) (path : Path) (t : List ℕ) → RefusesMembers (values.SomeName Names path t)
by_some_name Names path [] = by_gives None
by_some_name Names path (b ∷ bs) = by_then (by_form (Names (b ∷ bs)) path (b ∷ bs)) (λ name. by_gives (Some name))

by_optional_name : (Names : List ℕ → Type 0) (path : Path) (value : Option Tree) → RefusesMembers (values.OptionalName Names path value)
by_optional_name Names path None = by_gives None
by_optional_name Names path (Some (text t)) = by_some_name Names path t
by_optional_name Names path (Some value) = by_known _ (refused path Kind)

moment_text : (path : Path) (t : List ℕ) (r : Answer ℤ) → values.MomentText path t r → RefusesMember r
moment_text path t (Ok moment) h = tt
moment_text path t (Err refusal) h = subst (λ (r : Answer ℤ). RefusesMember r) h.0 (refused path Form)

by_moment : (path : Path) (value : Option Tree) → RefusesMembers (values.Moment path value)
by_moment path None = by_known _ (refused path Missing)
by_moment path (Some (text t)) = record { each = moment_text path t }
by_moment path (Some value) = by_known _ (refused path Kind)

-- ---- metadata

with_texts : (path : Path) (meta : MetaOf) (ms : Members) → RefusesMember (bodies.with_texts path meta ms)
with_texts path meta no_member = tt
with_texts path meta (member name (text t) more) = with_texts path (table.insert meta name t) more
with_texts path meta (member name value more) = refused (below path name) Kind

texts_of : (path : Path) (value : Option Tree) → RefusesMember (bodies.texts_of path value)
texts_of path None = refused path Missing
texts_of path (Some (members ms)) = with_texts path table.empty ms
texts_of path (Some value) = refused path Kind

by_account : (path : Path) (address : List ℕ) (value : Tree) → RefusesMembers (bodies.AccountIn path address value)
by_account path address value = by_then (by_form (IsAddress address) (below path address) address) (λ name. by_then (by_known _ (texts_of (below path address) (Some value))) (λ meta. by_gives (name, meta)))

by_accounts_with : (path : Path) (accounts : bodies.AccountMetaOf) (ms : Members) → RefusesMembers (bodies.WithAccounts path accounts ms)
by_accounts_with path accounts no_member = by_gives accounts
by_accounts_with path accounts (member address value more) = by_then (by_account path address value) (λ pair. by_accounts_with path (table.insert accounts pair.0 pair.1) more)

by_accounts : (path : Path) (value : Option Tree) → RefusesMembers (bodies.Accounts path value)
by_accounts path value = by_then (by_known _ (members_of path value)) (λ ms. by_accounts_with path table.empty ms)

-- ---- transactions

by_posting_in : (path : Path) (ms : Members) → RefusesMembers (bodies.PostingIn path ms)
by_posting_in path ms =
    by_then (by_name IsAddress (below path (codes "source")) (values.under (codes "source") ms)) (λ source.
    by_then (by_name IsAddress (below path (codes "destination")) (values.under (codes "destination") ms)) (λ destination.
    by_then (by_known _ (number_of (below path (codes "amount")) (2 ^ 127) (values.under (codes "amount") ms))) (λ amount.
    by_then (by_name IsAsset (below path (codes "asset")) (values.under (codes "asset") ms)) (λ asset.
    by_gives _))))

by_posting : (path : Path) (value : Tree) → RefusesMembers (bodies.PostingOf path value)
by_posting path value = by_then (by_known _ (members_of path (Some value))) (λ ms. by_posting_in path ms)

by_postings_with : (path : Path) (postings : List Posting) (items : Trees) → RefusesMembers (bodies.WithPostings path postings items)
by_postings_with path postings none = by_gives postings
by_postings_with path postings (item value more) = by_then (by_posting (item_below path (codes "postings") (length postings)) value) (λ p. by_postings_with path (postings ++ p ∷ []) more)

items_of : (path : Path) (value : Option Tree) → RefusesMember (lines.items_of path value)
items_of path None = refused path Missing
items_of path (Some (list items)) = tt
items_of path (Some value) = refused path Kind

one_or_more : (path : Path) (ps : List Posting) → RefusesMember (lines.one_or_more path ps)
one_or_more path [] = refused path Form
one_or_more path (p ∷ ps) = tt

by_postings : (path : Path) (value : Option Tree) → RefusesMembers (lines.PostingsOf path value)
by_postings path value = by_then (by_known _ (items_of (below path (codes "postings")) value)) (λ items. by_then (by_postings_with path [] items) (λ postings. by_known _ (one_or_more (below path (codes "postings")) postings)))

by_reference : (path : Path) (value : Option Tree) → RefusesMembers (lines.ReferenceOf path value)
by_reference path None = by_gives None
by_reference path (Some value) = by_then (by_name IsReference path (Some value)) (λ reference. by_gives (Some reference))

by_transaction_in : (path : Path) (ms : Members) → RefusesMembers (lines.TransactionIn path ms)
by_transaction_in path ms =
    by_then (by_known _ (number_of (below path (codes "id")) (2 ^ 64) (values.under (codes "id") ms))) (λ id.
    by_then (by_postings path (values.under (codes "postings") ms)) (λ postings.
    by_then (by_known _ (texts_of (below path (codes "metadata")) (values.under (codes "metadata") ms))) (λ metadata.
    by_then (by_reference (below path (codes "reference")) (values.under (codes "reference") ms)) (λ reference.
    by_then (by_moment (below path (codes "timestamp")) (values.under (codes "timestamp") ms)) (λ timestamp.
    by_gives _)))))

by_transaction : (value : Option Tree) → RefusesMembers (lines.TransactionOf value)
by_transaction value = by_then (by_known _ (members_of lines.transaction_path value)) (λ ms. by_transaction_in lines.transaction_path ms)

-- ---- what metadata are about

is_account_named : (path : Path) (t : List ℕ) → RefusesMember (elements.is_account_named path t)
is_account_named path t =
    cond_both (bytes_eq t (codes "ACCOUNT")) _ _ RefusesMember (λ _. tt) (λ _.
    cond_both (bytes_eq t (codes "TRANSACTION")) _ _ RefusesMember (λ _. tt) (λ _. refused path Form))

is_account : (path : Path) (value : Option Tree) → RefusesMember (elements.is_account path value)
is_account path None = refused path Missing
is_account path (Some (text t)) = is_account_named path t
is_account path (Some value) = refused path Kind

by_target_of : (path : Path) (value : Option Tree) (account : Bool) → RefusesMembers (elements.TargetOf path value account)
by_target_of path value true = by_then (by_name IsAddress path value) (λ address. by_gives _)
by_target_of path value false = by_then (by_known _ (number_of path (2 ^ 64) value)) (λ id. by_gives _)

by_target : (path : Path) (ms : Members) → RefusesMembers (elements.TargetIn path ms)
by_target path ms = by_then (by_known _ (is_account (below path (codes "targetType")) (values.under (codes "targetType") ms))) (λ account. by_target_of (below path (codes "targetId")) (values.under (codes "targetId") ms) account)

-- ---- bodies

type_named : (path : Path) (t : List ℕ) → RefusesMember (lines.type_named path t)
type_named path t =
    cond_both (bytes_eq t (codes "NEW_TRANSACTION")) _ _ RefusesMember (λ _. tt) (λ _.
    cond_both (bytes_eq t (codes "SET_METADATA")) _ _ RefusesMember (λ _. tt) (λ _.
    cond_both (bytes_eq t (codes "REVERTED_TRANSACTION")) _ _ RefusesMember (λ _. tt) (λ _.
    cond_both (bytes_eq t (codes "DELETE_METADATA")) _ _ RefusesMember (λ _. tt) (λ _. refused path Form))))

type_of : (path : Path) (value : Option Tree) → RefusesMember (lines.type_of path value)
type_of path None = refused path Missing
type_of path (Some (text t)) = type_named path t
type_of path (Some value) = refused path Kind

by_data_in : (type : EntryType) (ms : Members) → RefusesMembers (lines.DataIn type ms)
by_data_in types.NewTransaction ms = by_then (by_transaction (values.under (codes "transaction") ms)) (λ transaction. by_then (by_accounts (below elements.data_path (codes "accountMetadata")) (values.under (codes "accountMetadata") ms)) (λ accounts. by_gives _))
by_data_in types.SetMetadata ms = by_then (by_target elements.data_path ms) (λ target. by_then (by_known _ (texts_of (below elements.data_path (codes "metadata")) (values.under (codes "metadata") ms))) (λ metadata. by_gives _))
by_data_in types.Reverted ms = by_then (by_known _ (number_of (below elements.data_path (codes "revertedTransactionID")) (2 ^ 64) (values.under (codes "revertedTransactionID") ms))) (λ reverted. by_then (by_transaction (values.under (codes "transaction") ms)) (λ transaction. by_gives _))
by_data_in types.DeleteMetadata ms = by_then (by_target elements.data_path ms) (λ target. by_then (by_known _ (text_of (below elements.data_path (codes "key")) (values.under (codes "key") ms))) (λ name. by_gives _))

by_body : (ms : Members) → RefusesMembers (lines.BodyIn ms)
by_body ms = by_then (by_known _ (type_of (below top (codes "type")) (values.under (codes "type") ms))) (λ type. by_then (by_known _ (members_of elements.data_path (values.under (codes "data") ms))) (λ found. by_data_in type found))

-- ---- a line

hash_text : (path : Path) (t : List ℕ) (r : Answer (List ℕ)) → lines.HashText path t r → RefusesMember r
hash_text path t (Ok hash) h = tt
hash_text path t (Err refusal) h = subst (λ (r : Answer (List ℕ)). RefusesMember r) h.0 (refused path Form)

by_hash : (path : Path) (value : Option Tree) → RefusesMembers (lines.Hash path value)
by_hash path value = by_then (by_known _ (text_of path value)) (λ t. record { each = hash_text path t })

by_mark_of : (value : Option Tree) (key : Option (List ℕ)) → RefusesMembers (lines.MarkOf value key)
by_mark_of value None = by_gives None
by_mark_of value (Some key) = by_then (by_hash (below top (codes "idempotencyHash")) value) (λ hash. by_gives _)

by_mark : (ms : Members) → RefusesMembers (lines.MarkIn ms)
by_mark ms = by_then (by_optional_name IsKey (below top (codes "idempotencyKey")) (values.under (codes "idempotencyKey") ms)) (λ key. by_mark_of (values.under (codes "idempotencyHash") ms) key)

form_named : (path : Path) (n : ℤ) → RefusesMember (lines.form_named path n)
form_named path (pos n) = cond_both ((n == 1) || (n == 2)) (Ok n) (wrong path Form) RefusesMember (λ _. tt) (λ _. refused path Form)
form_named path (negsuc n) = refused path Form

form_of : (path : Path) (value : Option Tree) → RefusesMember (lines.form_of path value)
form_of path None = tt
form_of path (Some (whole n)) = form_named path n
form_of path (Some value) = refused path Kind

by_line_hash : (recompute : Bool) (path : Path) (value : Option Tree) → RefusesMembers (lines.LineHash recompute path value)
by_line_hash true path None = by_gives _
by_line_hash true path (Some value) = by_hash path (Some value)
by_line_hash false path value = by_hash path value

by_line_in : (recompute : Bool) (ms : Members) → RefusesMembers (lines.LineIn recompute ms)
by_line_in recompute ms =
    by_then (by_body ms) (λ body.
    by_then (by_moment (below top (codes "date")) (values.under (codes "date") ms)) (λ date.
    by_then (by_mark ms) (λ mark.
    by_then (by_known _ (form_of (below top (codes "form")) (values.under (codes "form") ms))) (λ form.
    by_then (by_known _ (number_of (below top (codes "id")) (2 ^ 64) (values.under (codes "id") ms))) (λ id.
    by_then (by_line_hash recompute (below top (codes "hash")) (values.under (codes "hash") ms)) (λ hash.
    by_gives _))))))

by_line : (recompute : Bool) (line : Tree) → RefusesMembers (lines.LineOf recompute line)
by_line recompute line = by_then (by_known _ (members_of top (Some line))) (λ ms. by_line_in recompute ms)

pub lines_refuse_members : LinesRefuseMembers
lines_refuse_members recompute line refusal h = (by_line recompute line).each (Err refusal) h
