-- What a JSON value is read as is one answer.
use Rattle.std.proofs.Common.{◌≡◌, ℕ, Bool, true, false, List, [], ◌∷◌, ◌++◌, length, Option, Some, None, inl, inr, refl, sym, ap, subst, ◌∙◌, arith}
use Rattle.std.specs.Prelude.{Ok, Err, ℤ, codes}
use Rattle.lg_codec.specs.declared.kind.WriteKind.TheVariants as kinds
use Rattle.lg_containers.specs.AddressGrammar.{IsAddress}
use Rattle.lg_containers.specs.AssetGrammar.{IsAsset}
use Rattle.lg_containers.specs.CountedGrammar.{IsKey, IsBucket}
use Rattle.lg_containers.specs.NameTable as table
use Rattle.lg_containers.specs.ReferenceGrammar.{IsReference}
use Rattle.lg_json.specs.Tree.{Tree, Trees, Members}
use Rattle.lg_json.specs.Tree.Tree.{null, text, list, members}
use Rattle.lg_json.specs.Tree.Trees.{none, item}
use Rattle.lg_json.specs.Tree.Members.{no_member, member}
use Rattle.lg_time.proofs.Facts.{moment_unique}
use Rattle.lg_types.specs.declared.calls.Element.{Element}
use Rattle.lg_types.specs.declared.records.Posting.{Posting}
use Rattle.lg_types.specs.declared.refusals.Reason.TheVariants.{Missing, Kind}
use Rattle.lg_readings.specs.declared.readings.EntryType.{EntryType}
use Rattle.lg_readings.specs.declared.readings.EntryType.TheVariants as types
use Rattle.lg_views.specs.declared.replies.Action.{Action}
use Rattle.lg_views.specs.declared.replies.Action.TheVariants as actions
use Rattle.lg_readings.specs.Paths.{Path, top, below, item_below}
use Rattle.lg_readings.specs.Answers.{Answer, wrong, known, gives, Then, GoesOn, IfForm}
use Rattle.lg_readings.specs.Values as values
use Rattle.lg_readings.specs.Bodies as bodies
use Rattle.lg_readings.specs.Elements as elements
use Rattle.lg_readings.specs.EntryLines as lines
use Rattle.lg_entry_lines.specs.AnswerLaws.{HasOneAnswer, WritesHaveOneAnswer, LedgersHaveOneAnswer, ElementsHaveOneAnswer, LinesHaveOneAnswer}
use Rattle.lg_entry_lines.proofs.Hashes.{same_hash}

-- ---- how readings compose

one_known : {A : Type 0} (answer : Answer A) → HasOneAnswer (known answer)
one_known answer = record { same = λ r s h k. h ∙ sym k }

one_gives : {A : Type 0} (a : A) → HasOneAnswer (gives a)
one_gives a = record { same = λ r s h k. h ∙ sym k }

one_form : {A : Type 0} (P : Type 0) (path : Path) (a : A) → HasOneAnswer (IfForm P path a)
one_form P path a = record {
  same = λ r s h k. elim h [
    | inl v ↦ elim k [ inl w ↦ v.1 ∙ sym w.1 | inr w ↦ absurd (w.0 v.0) ]
    | inr v ↦ elim k [ inl w ↦ absurd (v.0 w.0) | inr w ↦ v.1 ∙ sym w.1 ]
  ];
}

goes_on_alike : {A B : Type 0} (next : A → Answer B → Type 0) → ((a : A) → HasOneAnswer (next a)) → (answer : Answer A) (r s : Answer B) → GoesOn answer next r → GoesOn answer next s → r ≡ s
goes_on_alike next q (Ok a) r s h k = (q a).same r s h k
goes_on_alike next q (Err refusal) r s h k = h ∙ sym k

one_then : {A B : Type 0} {first : Answer A → Type 0} {next : A → Answer B → Type 0} → HasOneAnswer first → ((a : A) → HasOneAnswer (next a)) → HasOneAnswer (Then first next)
one_then {next = next} p q = record {
  same = λ r s h k. goes_on_alike next q h.answer r s h.goes_on (subst (λ x. GoesOn x next s) (sym (p.same h.answer k.answer h.is_first k.is_first)) k.goes_on);
}

-- ---- values

one_name : (Names : List ℕ → Type 0) (path : Path) (value : Option Tree) → HasOneAnswer (values.Name Names path value)
one_name Names path value = one_then (one_known _) (λ t. one_form (Names t) path t)

one_some_name : (Names : List ℕ → Type 0) (path : Path) (t : List ℕ) → HasOneAnswer (values.SomeName Names path t)
one_some_name Names path [] = one_gives None
one_some_name Names path (b ∷ bs) = one_then (one_form (Names (b ∷ bs)) path (b ∷ bs)) (λ name. one_gives (Some name))

one_optional_name : (Names : List ℕ → Type 0) (path : Path) (value : Option Tree) → HasOneAnswer (values.OptionalName Names path value)
one_optional_name Names path None = one_gives None
one_optional_name Names path (Some (text t)) = one_some_name Names path t
one_optional_name Names path (Some value) = one_known (wrong path Kind)

moment_text : (path : Path) (t : List ℕ) (r s : Answer ℤ) → values.MomentText path t r → values.MomentText path t s → r ≡ s
moment_text path t (Ok m) (Ok n) h k = ap Ok (moment_unique t m n h k)
moment_text path t (Ok m) (Err refusal) h k = absurd (k.1 m h)
moment_text path t (Err refusal) (Ok n) h k = absurd (h.1 n k)
moment_text path t (Err refusal) (Err other) h k = sym h.0 ∙ k.0

one_moment : (path : Path) (value : Option Tree) → HasOneAnswer (values.Moment path value)
one_moment path None = one_known (wrong path Missing)
one_moment path (Some (text t)) = record { same = moment_text path t }
one_moment path (Some value) = one_known (wrong path Kind)

one_optional_moment : (path : Path) (value : Option Tree) → HasOneAnswer (values.OptionalMoment path value)
one_optional_moment path None = one_gives None
one_optional_moment path (Some value) = one_then (one_moment path (Some value)) (λ moment. one_gives (Some moment))

-- ---- metadata of accounts

one_account : (path : Path) (address : List ℕ) (value : Tree) → HasOneAnswer (bodies.AccountIn path address value)
one_account path address value = one_then (one_form (IsAddress address) (below path address) address) (λ name. one_then (one_known _) (λ meta. one_gives (name, meta)))

one_accounts_with : (path : Path) (accounts : bodies.AccountMetaOf) (ms : Members) → HasOneAnswer (bodies.WithAccounts path accounts ms)
one_accounts_with path accounts no_member = one_gives accounts
one_accounts_with path accounts (member address value more) = one_then (one_account path address value) (λ pair. one_accounts_with path (table.insert accounts pair.0 pair.1) more)

one_accounts : (path : Path) (value : Option Tree) → HasOneAnswer (bodies.Accounts path value)
one_accounts path value = one_then (one_known _) (λ ms. one_accounts_with path table.empty ms)

one_optional_accounts : (path : Path) (value : Option Tree) → HasOneAnswer (bodies.OptionalAccounts path value)
one_optional_accounts path None = one_gives table.empty
one_optional_accounts path (Some value) = one_accounts path (Some value)

-- ---- postings

one_posting_in : (path : Path) (ms : Members) → HasOneAnswer (bodies.PostingIn path ms)
one_posting_in path ms =
    one_then (one_name IsAddress (below path (codes "source")) (values.under (codes "source") ms)) (λ source.
    one_then (one_name IsAddress (below path (codes "destination")) (values.under (codes "destination") ms)) (λ destination.
    one_then (one_known _) (λ amount.
    one_then (one_name IsAsset (below path (codes "asset")) (values.under (codes "asset") ms)) (λ asset.
    one_gives _))))

one_posting : (path : Path) (value : Tree) → HasOneAnswer (bodies.PostingOf path value)
one_posting path value = one_then (one_known _) (λ ms. one_posting_in path ms)

one_postings_with : (path : Path) (postings : List Posting) (items : Trees) → HasOneAnswer (bodies.WithPostings path postings items)
one_postings_with path postings none = one_gives postings
one_postings_with path postings (item value more) = one_then (one_posting (item_below path (codes "postings") (length postings)) value) (λ p. one_postings_with path (postings ++ p ∷ []) more)

one_some_postings : (path : Path) (value : Option Tree) → HasOneAnswer (bodies.SomePostings path value)
one_some_postings path None = one_known _
one_some_postings path (Some (list items)) = one_then (one_postings_with path [] items) (λ postings. one_known _)
one_some_postings path (Some value) = one_known (wrong (below path (codes "postings")) Kind)

-- ---- bodies of requests

one_creation_in : (path : Path) (ms : Members) → HasOneAnswer (bodies.CreationIn path ms)
one_creation_in path ms =
    one_then (one_known _) (λ _.
    one_then (one_some_postings path (values.under (codes "postings") ms)) (λ postings.
    one_then (one_optional_moment (below path (codes "timestamp")) (values.under (codes "timestamp") ms)) (λ timestamp.
    one_then (one_optional_name IsReference (below path (codes "reference")) (values.under (codes "reference") ms)) (λ reference.
    one_then (one_known _) (λ metadata.
    one_then (one_optional_accounts (below path (codes "accountMetadata")) (values.under (codes "accountMetadata") ms)) (λ accounts.
    one_then (one_known _) (λ force.
    one_gives _)))))))

one_creation : (path : Path) (value : Option Tree) → HasOneAnswer (bodies.Creation path value)
one_creation path value = one_then (one_known _) (λ ms. one_creation_in path ms)

one_bucket : (path : Path) (value : Option Tree) → HasOneAnswer (bodies.OptionalBucket path value)
one_bucket path None = one_gives _
one_bucket path (Some value) = one_name IsBucket path (Some value)

one_ledger_in : (ms : Members) → HasOneAnswer (bodies.LedgerIn ms)
one_ledger_in ms =
    one_then (one_bucket (below top (codes "bucket")) (values.under (codes "bucket") ms)) (λ bucket.
    one_then (one_known _) (λ metadata.
    one_then (one_known _) (λ _.
    one_gives _)))

pub one_ledger : LedgersHaveOneAnswer
one_ledger null = one_gives _
one_ledger (members ms) = one_ledger_in ms
one_ledger body = one_known (wrong top Kind)

pub one_write : WritesHaveOneAnswer
one_write kinds.Create body = one_creation top (values.present body)
one_write (kinds.Revert id force at_effective_date) body = one_then (one_known _) (λ _. one_gives _)
one_write (kinds.SetMeta target) body = one_then (one_known _) (λ metadata. one_gives _)

-- ---- elements of a list of writes

one_target_of : (path : Path) (value : Option Tree) (account : Bool) → HasOneAnswer (elements.TargetOf path value account)
one_target_of path value true = one_then (one_name IsAddress path value) (λ address. one_gives _)
one_target_of path value false = one_then (one_known _) (λ id. one_gives _)

one_target : (path : Path) (ms : Members) → HasOneAnswer (elements.TargetIn path ms)
one_target path ms = one_then (one_known _) (λ account. one_target_of (below path (codes "targetId")) (values.under (codes "targetId") ms) account)

one_action_data : (action : Action) (ms : Members) → HasOneAnswer (elements.DataIn action ms)
one_action_data actions.CreateTransaction ms = one_creation_in elements.data_path ms
one_action_data actions.AddMetadata ms = one_then (one_target elements.data_path ms) (λ target. one_then (one_known _) (λ metadata. one_gives _))
one_action_data actions.RevertTransaction ms = one_then (one_known _) (λ id. one_then (one_known _) (λ force. one_then (one_known _) (λ at_effective_date. one_gives _)))
one_action_data actions.DeleteMetadata ms = one_then (one_target elements.data_path ms) (λ target. one_then (one_known _) (λ name. one_gives _))

one_element_in : (ms : Members) → HasOneAnswer (elements.ElementIn ms)
one_element_in ms =
    one_then (one_known _) (λ action.
    one_then (one_optional_name IsKey (below top (codes "ik")) (values.under (codes "ik") ms)) (λ key.
    one_then (one_then (one_known _) (λ found. one_action_data action found)) (λ write.
    one_gives _)))

one_element : (value : Tree) → HasOneAnswer (elements.ElementOf value)
one_element value = one_then (one_known _) (λ ms. one_element_in ms)

same_element : (value : Tree) (x y : Element) → elements.IsElement value x → elements.IsElement value y → x ≡ y
same_element value x y h k = h.is_element ∙ ap elements.read_or_bad ((one_element value).same h.answer k.answer h.is_answer k.is_answer) ∙ sym k.is_element

same_elements : (items : Trees) (xs ys : List Element) → elements.AreElements items xs → elements.AreElements items ys → xs ≡ ys
same_elements none [] [] h k = refl
same_elements none (x ∷ xs) ys h k = absurd h
same_elements none [] (y ∷ ys) h k = absurd k
same_elements (item value more) [] ys h k = absurd h
same_elements (item value more) (x ∷ xs) [] h k = absurd k
same_elements (item value more) (x ∷ xs) (y ∷ ys) h k =
    let first : x ≡ y = same_element value x y h.0 k.0 in
    let others : xs ≡ ys = same_elements more xs ys h.1 k.1 in
    λ i. first i ∷ others i

elements_alike : (items : Trees) (r s : Answer (List Element)) → elements.ElementsIn items r → elements.ElementsIn items s → r ≡ s
elements_alike items (Ok xs) (Ok ys) h k = ap Ok (same_elements items xs ys h.1 k.1)
elements_alike items (Ok xs) (Err refusal) h k = absurd (let a = h.0 in let b = k.0 in omega arith)
elements_alike items (Err refusal) (Ok ys) h k = absurd (let a = h.0 in let b = k.0 in omega arith)
elements_alike items (Err refusal) (Err other) h k = ap Err (h.1 ∙ sym k.1)

pub one_list : ElementsHaveOneAnswer
one_list body = one_then (one_known _) (λ items. record { same = elements_alike items })

-- ---- lines of entries

one_postings : (path : Path) (value : Option Tree) → HasOneAnswer (lines.PostingsOf path value)
one_postings path value = one_then (one_known _) (λ items. one_then (one_postings_with path [] items) (λ postings. one_known _))

one_reference : (path : Path) (value : Option Tree) → HasOneAnswer (lines.ReferenceOf path value)
one_reference path None = one_gives None
one_reference path (Some value) = one_then (one_name IsReference path (Some value)) (λ reference. one_gives (Some reference))

one_transaction_in : (path : Path) (ms : Members) → HasOneAnswer (lines.TransactionIn path ms)
one_transaction_in path ms =
    one_then (one_known _) (λ id.
    one_then (one_postings path (values.under (codes "postings") ms)) (λ postings.
    one_then (one_known _) (λ metadata.
    one_then (one_reference (below path (codes "reference")) (values.under (codes "reference") ms)) (λ reference.
    one_then (one_moment (below path (codes "timestamp")) (values.under (codes "timestamp") ms)) (λ timestamp.
    one_gives _)))))

one_transaction : (value : Option Tree) → HasOneAnswer (lines.TransactionOf value)
one_transaction value = one_then (one_known _) (λ ms. one_transaction_in lines.transaction_path ms)

one_data : (type : EntryType) (ms : Members) → HasOneAnswer (lines.DataIn type ms)
one_data types.NewTransaction ms = one_then (one_transaction (values.under (codes "transaction") ms)) (λ transaction. one_then (one_accounts (below elements.data_path (codes "accountMetadata")) (values.under (codes "accountMetadata") ms)) (λ accounts. one_gives _))
one_data types.SetMetadata ms = one_then (one_target elements.data_path ms) (λ target. one_then (one_known _) (λ metadata. one_gives _))
one_data types.Reverted ms = one_then (one_known _) (λ reverted. one_then (one_transaction (values.under (codes "transaction") ms)) (λ transaction. one_gives _))
one_data types.DeleteMetadata ms = one_then (one_target elements.data_path ms) (λ target. one_then (one_known _) (λ name. one_gives _))

one_body : (ms : Members) → HasOneAnswer (lines.BodyIn ms)
one_body ms = one_then (one_known _) (λ type. one_then (one_known _) (λ found. one_data type found))

hash_text : (path : Path) (t : List ℕ) (r s : Answer (List ℕ)) → lines.HashText path t r → lines.HashText path t s → r ≡ s
hash_text path t (Ok a) (Ok b) h k = ap Ok (same_hash a b h.1 k.1 (sym h.2 ∙ k.2))
hash_text path t (Ok a) (Err refusal) h k = absurd (k.1 a h.0 h.1 h.2)
hash_text path t (Err refusal) (Ok b) h k = absurd (h.1 b k.0 k.1 k.2)
hash_text path t (Err refusal) (Err other) h k = sym h.0 ∙ k.0

one_hash : (path : Path) (value : Option Tree) → HasOneAnswer (lines.Hash path value)
one_hash path value = one_then (one_known _) (λ t. record { same = hash_text path t })

one_mark_of : (value : Option Tree) (key : Option (List ℕ)) → HasOneAnswer (lines.MarkOf value key)
one_mark_of value None = one_gives None
one_mark_of value (Some key) = one_then (one_hash (below top (codes "idempotencyHash")) value) (λ hash. one_gives _)

one_mark : (ms : Members) → HasOneAnswer (lines.MarkIn ms)
one_mark ms = one_then (one_optional_name IsKey (below top (codes "idempotencyKey")) (values.under (codes "idempotencyKey") ms)) (λ key. one_mark_of (values.under (codes "idempotencyHash") ms) key)

one_line_hash : (recompute : Bool) (path : Path) (value : Option Tree) → HasOneAnswer (lines.LineHash recompute path value)
one_line_hash true path None = one_gives _
one_line_hash true path (Some value) = one_hash path (Some value)
one_line_hash false path value = one_hash path value

one_line_in : (recompute : Bool) (ms : Members) → HasOneAnswer (lines.LineIn recompute ms)
one_line_in recompute ms =
    one_then (one_body ms) (λ body.
    one_then (one_moment (below top (codes "date")) (values.under (codes "date") ms)) (λ date.
    one_then (one_mark ms) (λ mark.
    one_then (one_known _) (λ form.
    one_then (one_known _) (λ id.
    one_then (one_line_hash recompute (below top (codes "hash")) (values.under (codes "hash") ms)) (λ hash.
    one_gives _))))))

pub one_line : LinesHaveOneAnswer
one_line recompute line = one_then (one_known _) (λ ms. one_line_in recompute ms)
