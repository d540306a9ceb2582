-- Worked examples of lists: elements of a list of writes, pages, filters, groups and sums.
use Rattle.std.specs.Prelude.{◌≡◌, ℕ, pos, negsuc, Bool, true, false, List, [], ◌∷◌, ◌++◌, Option, Some, None, codes}
use Rattle.lg_containers.specs.NameTable as table
use Rattle.lg_types.specs.declared.calls.Call.TheVariants as call
use Rattle.lg_types.specs.declared.calls.Element.{Element}
use Rattle.lg_types.specs.declared.filters.After.{After}
use Rattle.lg_types.specs.declared.filters.After.TheVariants.{Address as AddressPlace}
use Rattle.lg_types.specs.declared.filters.Field.TheVariants as field
use Rattle.lg_types.specs.declared.filters.Filter.{Filter, All, Compare}
use Rattle.lg_types.specs.declared.filters.ListKind.TheVariants as kind
use Rattle.lg_types.specs.declared.filters.Op.TheVariants.{Equal}
use Rattle.lg_types.specs.declared.filters.Value.TheVariants as value
use Rattle.lg_types.specs.declared.queries.Query.{Query}
use Rattle.lg_types.specs.declared.queries.Read.TheVariants as read
use Rattle.lg_types.specs.declared.refusals.Refusal.TheVariants as refusal
use Rattle.lg_views.specs.declared.items.Items.TheVariants as items
use Rattle.lg_views.specs.declared.replies.BulkItem.{BulkItem}
use Rattle.lg_views.specs.declared.replies.BulkItem.TheVariants.{Good, Failed}
use Rattle.lg_views.specs.declared.replies.Content.{Content}
use Rattle.lg_views.specs.declared.replies.Content.TheVariants as content
use Rattle.lg_views.specs.declared.replies.Reply.{Reply}
use Rattle.lg_views.specs.declared.views.AccountView.{AccountView}
use Rattle.lg_views.specs.declared.views.TransactionView.{TransactionView}
use Rattle.lg_views.specs.Replies.{plain, refused}
use Rattle.lg_views.specs.Tokens.{token, token_text}
use Rattle.lg_examples.specs.Scenes.{day, default, posting, creation, Asked, asked, reading, reply_after, events_after, none_expanded, no_span, element}
use Rattle.lg_examples.specs.Rows.{world, eur, a, b}

-- ---- lists of writes

abbrev pub ten : List Asked
ten = asked 1 (creation (posting world a 10 eur ∷ []) None None) ∷ []

abbrev pub paid : List ℕ → ℕ → Element
paid to n = element (creation (posting a to n eur ∷ []) None None)

abbrev pub three_payments : List Element
three_payments = paid b 4 ∷ paid (codes "c") 4 ∷ paid (codes "d") 4 ∷ []

abbrev pub listed : List Element → Bool → Bool → Asked
listed elements atomic go_on = record { call = call.Bulk default elements atomic go_on; now = day 1 }

abbrev pub AtomicListFails : Type 0
AtomicListFails = reply_after ten (listed three_payments true false) ≡ plain (content.Bulk (record { items = Failed 2 (refusal.Lack 0 a eur (pos 2) 4) ∷ [] }))

abbrev pub AtomicListAppendsNothing : Type 0
AtomicListAppendsNothing = events_after ten (listed three_payments true false) ≡ []

-- of each result the entry's id and the transaction's, or the place of the element that failed
abbrev pub ids_of : Option TransactionView → List ℕ
ids_of None = []
ids_of (Some v) = v.id ∷ []

abbrev pub seen : BulkItem → List ℕ
seen (Good action id view) = id ∷ ids_of view
seen (Failed element refusal) = []

abbrev pub all_seen : List BulkItem → List (List ℕ)
all_seen [] = []
all_seen (x ∷ xs) = seen x ∷ all_seen xs

abbrev pub results : Content → List (List ℕ)
results (content.Bulk view) = all_seen view.items
results _ = []

abbrev pub ListGoesOn : Type 0
ListGoesOn = results (reply_after ten (listed (three_payments ++ paid (codes "e") 2 ∷ []) false true)).content ≡ (2 ∷ 2 ∷ []) ∷ (3 ∷ 3 ∷ []) ∷ [] ∷ (4 ∷ 4 ∷ []) ∷ []

-- ---- pages and filters

abbrev pub user : List ℕ → Asked
user digit = asked 1 (creation (posting world (codes "users:" ++ digit) 1 eur ∷ []) None None)

abbrev pub users : List Asked
users = user (codes "1") ∷ user (codes "2") ∷ user (codes "3") ∷ user (codes "4") ∷ user (codes "5") ∷ asked 1 (creation (posting world (codes "shop") 1 eur ∷ []) None None) ∷ []

abbrev pub users_filter : Filter
users_filter = Compare Equal field.Address (value.Text (codes "users:"))

abbrev pub users_query : Option After → Query
users_query after = record { filter = users_filter; pit = None; page_size = 2; after = after; expand = none_expanded; span = no_span }

abbrev pub bare : List ℕ → AccountView
bare digit = record { address = codes "users:" ++ digit; metadata = table.empty; volumes = None; effective_volumes = None }

abbrev pub users_after : Option After → Reply
users_after after = reply_after users (reading (read.Accounts (users_query after)))

abbrev pub last_user : List ℕ → After
last_user digit = AddressPlace (codes "users:" ++ digit)

abbrev pub FirstPage : Type 0
FirstPage = users_after None ≡ plain (content.Page (record {
  page_size = 2;
  has_more = true;
  next = Some (token kind.Accounts (users_query None) (last_user (codes "2")));
  items = items.Accounts (bare (codes "1") ∷ bare (codes "2") ∷ []);
}))

abbrev pub SecondPage : Type 0
SecondPage = users_after (Some (last_user (codes "2"))) ≡ plain (content.Page (record {
  page_size = 2;
  has_more = true;
  next = Some (token kind.Accounts (users_query (Some (last_user (codes "2")))) (last_user (codes "4")));
  items = items.Accounts (bare (codes "3") ∷ bare (codes "4") ∷ []);
}))

abbrev pub LastPage : Type 0
LastPage = users_after (Some (last_user (codes "4"))) ≡ plain (content.Page (record { page_size = 2; has_more = false; next = None; items = items.Accounts (bare (codes "5") ∷ []) }))

abbrev pub FirstToken : Type 0
FirstToken = token_text kind.Accounts (users_query None) (last_user (codes "2")) ≡ codes "{\"kind\":\"accounts\",\"pageSize\":2,\"filter\":{\"$match\":{\"address\":\"users:\"}},\"after\":\"users:2\"}"

-- ---- groups and sums

abbrev pub two_days : List Asked
two_days = asked 1 (creation (posting world (codes "users:1") 3 eur ∷ []) None None) ∷ asked 2 (creation (posting world (codes "users:2") 4 eur ∷ []) None None) ∷ []

-- the first day until 23 o'clock, by the first segment
abbrev pub first_day : Query
first_day = record { filter = All; pit = None; page_size = 15; after = None; expand = none_expanded; span = record { from = Some (day 1); to = Some (pos 1704150000000000); by_insertion = false; group = 1 } }

abbrev pub Grouped : Type 0
Grouped = reply_after two_days (reading (read.Volumes first_day)) ≡ plain (content.Page (record {
  page_size = 15;
  has_more = false;
  next = None;
  items = items.Volumes (record { account = codes "users"; asset = eur; input = 3; output = 0; balance = pos 3 } ∷ record { account = world; asset = eur; input = 0; output = 3; balance = negsuc 2 } ∷ []);
}))

abbrev pub Summed : Type 0
Summed = reply_after two_days (reading (read.Aggregate users_filter None false)) ≡ plain (content.Balances (record { asset = eur; balance = pos 7 } ∷ []))

-- ---- the limit of amounts

abbrev pub much : ℕ
much = 170141183460469231731687303715884105727

abbrev pub full : List Asked
full = asked 1 (creation (posting world a much (codes "X") ∷ []) None None) ∷ []

abbrev pub PastLimit : Type 0
PastLimit = reply_after full (asked 1 (creation (posting world a 1 (codes "X") ∷ []) None None)) ≡ refused (refusal.Limit 0)

abbrev pub overfull : List Asked
overfull = asked 1 (creation (posting world a much (codes "X") ∷ []) None None) ∷ asked 1 (creation (posting a b 1 (codes "X") ∷ []) None None) ∷ []

abbrev pub SumPastLimit : Type 0
SumPastLimit = reply_after overfull (reading (read.Aggregate All None false)) ≡ refused (refusal.SumLimit (codes "X"))
