-- The statuses and the bodies of replies.
use Rattle.std.specs.Prelude.{ℕ, Bool, true, false, if◌then◌else◌, List, [], ◌∷◌, ◌++◌, codes, decimal}
use Rattle.std.specs.List.{concat, list_any}
use Rattle.lg_base.specs.Texts.{quoted}
use Rattle.lg_containers.specs.CanonicalTexts.{commas, list_text}
use Rattle.lg_types.specs.CallTexts.{truth_text}
use Rattle.lg_types.specs.EntryTexts.{entry_text, ledger_text}
use Rattle.lg_types.specs.PartTexts.{optional_text}
use Rattle.lg_types.specs.declared.forms.EntryForm.TheVariants.{Line}
use Rattle.lg_types.specs.declared.records.Entry.{Entry}
use Rattle.lg_types.specs.declared.refusals.Refusal.{Refusal}
use Rattle.lg_views.specs.Import.{export}
use Rattle.lg_views.specs.declared.items.Items.{Items}
use Rattle.lg_views.specs.declared.items.Items.TheVariants as items
use Rattle.lg_views.specs.declared.replies.Action.{Action}
use Rattle.lg_views.specs.declared.replies.Action.TheVariants.{CreateTransaction, AddMetadata, RevertTransaction, DeleteMetadata}
use Rattle.lg_views.specs.declared.replies.BulkItem.{BulkItem}
use Rattle.lg_views.specs.declared.replies.BulkItem.TheVariants.{Good, Failed}
use Rattle.lg_views.specs.declared.replies.Content.{Content}
use Rattle.lg_views.specs.declared.replies.Content.TheVariants as content
use Rattle.lg_views.specs.declared.replies.PageView.{PageView}
use Rattle.lg_views.specs.declared.views.BalanceItem.{BalanceItem}
use Rattle.lg_views.specs.declared.views.TransactionView.{TransactionView}
use Rattle.lg_views.specs.RefusalTexts.{code_of, refusal_status, message_text, refusal_text}
use Rattle.lg_views.specs.ViewTexts.{transaction_view_text, account_view_text, volume_item_text, balance_text}

-- an entry's line
abbrev pub line_text : Entry → List ℕ
line_text e = entry_text e Line

-- the items of a page
abbrev pub items_text : Items → List ℕ
items_text (items.Accounts xs) = list_text account_view_text xs
items_text (items.Transactions xs) = list_text transaction_view_text xs
items_text (items.Entries xs) = list_text line_text xs
items_text (items.Ledgers xs) = list_text ledger_text xs
items_text (items.Volumes xs) = list_text volume_item_text xs

-- the member with the token of the next page
abbrev pub next_text : List ℕ → List ℕ
next_text token = concat (codes ",\"next\":" ∷ quoted token ∷ [])

abbrev pub page_text : PageView → List ℕ
page_text p =
    concat (codes "{\"cursor\":{\"pageSize\":" ∷ decimal p.page_size ∷ codes ",\"hasMore\":" ∷ truth_text p.has_more ∷ optional_text next_text p.next ∷ codes ",\"data\":" ∷ items_text p.items ∷ codes "}}" ∷ [])

abbrev pub action_text : Action → List ℕ
action_text CreateTransaction = codes "CREATE_TRANSACTION"
action_text AddMetadata = codes "ADD_METADATA"
action_text RevertTransaction = codes "REVERT_TRANSACTION"
action_text DeleteMetadata = codes "DELETE_METADATA"

-- the member with the transaction of an element
abbrev pub data_member : TransactionView → List ℕ
data_member v = concat (codes ",\"data\":" ∷ transaction_view_text v ∷ [])

-- why an element failed: its place, counted from 0, and the message of its refusal
abbrev pub description : ℕ → Refusal → List ℕ
description element refusal = codes "element " ++ (decimal element ++ (codes ": " ++ message_text refusal))

-- what became of an element of a list of writes
abbrev pub bulk_item_text : BulkItem → List ℕ
bulk_item_text (Good action log_id transaction) =
    concat (codes "{\"responseType\":" ∷ quoted (action_text action) ∷ codes ",\"logID\":" ∷ decimal log_id ∷ optional_text data_member transaction ∷ codes "}" ∷ [])
bulk_item_text (Failed element refusal) =
    concat (codes "{\"responseType\":\"ERROR\",\"errorCode\":" ∷ quoted (code_of refusal) ∷ codes ",\"errorDescription\":" ∷ quoted (description element refusal) ∷ codes "}" ∷ [])

-- balances, as an object
abbrev pub balances_text : List BalanceItem → List ℕ
balances_text xs = codes "{" ++ (commas balance_text xs ++ codes "}")

-- the object whose one member is `data`
abbrev pub data_text : List ℕ → List ℕ
data_text text = concat (codes "{\"data\":" ∷ text ∷ codes "}" ∷ [])

abbrev pub stats_text : ℕ → ℕ → List ℕ
stats_text accounts transactions =
    concat (codes "{\"accounts\":" ∷ decimal accounts ∷ codes ",\"transactions\":" ∷ decimal transactions ∷ codes "}" ∷ [])

-- the body of a reply: `null` where it has none, and a string of the lines for an export
abbrev pub body_text : Content → List ℕ
body_text content.Empty = codes "null"
body_text (content.Created v) = data_text (transaction_view_text v)
body_text (content.Reverted v) = data_text (transaction_view_text v)
body_text (content.Bulk v) = data_text (list_text bulk_item_text v.items)
body_text (content.Ledger info) = data_text (ledger_text info)
body_text (content.Account v) = data_text (account_view_text v)
body_text (content.Transaction v) = data_text (transaction_view_text v)
body_text (content.Page p) = page_text p
body_text (content.Balances xs) = data_text (balances_text xs)
body_text (content.Stats accounts transactions) = data_text (stats_text accounts transactions)
body_text (content.Export g) = quoted (export g)
body_text (content.Refused r) = refusal_text r

abbrev pub is_failed : BulkItem → Bool
is_failed (Good action log_id transaction) = false
is_failed (Failed element refusal) = true

-- the status of a reply (RFC 9110, section 15): 201 for a revert, 204 where there is no body, 400 for a list with an
-- element that failed
abbrev pub status_of : Content → ℕ
status_of content.Empty = 204
status_of (content.Created v) = 200
status_of (content.Reverted v) = 201
status_of (content.Bulk v) = if list_any is_failed v.items then 400 else 200
status_of (content.Ledger info) = 200
status_of (content.Account v) = 200
status_of (content.Transaction v) = 200
status_of (content.Page p) = 200
status_of (content.Balances xs) = 200
status_of (content.Stats accounts transactions) = 200
status_of (content.Export g) = 200
status_of (content.Refused r) = refusal_status r
