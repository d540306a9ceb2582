-- Worked examples: what calls of an empty product come to.
use Rattle.std.specs.Prelude.{◌≡◌, ℕ, ℤ, pos, negsuc, Bool, true, false, List, [], ◌∷◌, Some, None, codes}
use Rattle.std.specs.Fmt.{digits}
use Rattle.lg_containers.specs.NameTable as table
use Rattle.lg_types.specs.declared.calls.Write.TheVariants.{Revert, SetMeta, DropMeta}
use Rattle.lg_types.specs.declared.classes.Class.TheVariants.{Account as AccountClass}
use Rattle.lg_types.specs.declared.queries.Expand.{Expand}
use Rattle.lg_types.specs.declared.queries.Read.TheVariants as read
use Rattle.lg_types.specs.declared.records.Target.TheVariants.{Account}
use Rattle.lg_types.specs.declared.refusals.Refusal.TheVariants as refusal
use Rattle.lg_types.specs.Changes.{MetaOf}
use Rattle.lg_types.specs.Stripes.{stripe}
use Rattle.lg_views.specs.declared.replies.Content.TheVariants as content
use Rattle.lg_views.specs.declared.replies.Reply.{Reply}
use Rattle.lg_views.specs.declared.views.AccountView.{AccountView}
use Rattle.lg_views.specs.declared.views.TransactionView.{TransactionView}
use Rattle.lg_views.specs.Outcome.{outcome}
use Rattle.lg_views.specs.Replies.{plain, refused}
use Rattle.lg_examples.specs.Scenes.{day, eve, default, posting, creation, Asked, asked, reading, reply_after, events_after, volumes, one_asset, two_accounts, three_accounts, four, all_expanded, none_expanded, transaction_shown}

-- all that is unfolded where a row is computed
unfoldable pub computed : Unit {0}
unfolding outcome table.pairs_of table.keys table.values table.len table.get table.contains table.empty table.insert table.remove table.from_pairs table.if_in_order stripe digits
computed = tt

abbrev pub world : List ℕ
world = codes "world"

abbrev pub eur : List ℕ
eur = codes "EUR"

abbrev pub usd : List ℕ
usd = codes "USD/2"

abbrev pub user_one : List ℕ
user_one = codes "users:1"

abbrev pub user_two : List ℕ
user_two = codes "users:2"

abbrev pub a : List ℕ
a = codes "a"

abbrev pub b : List ℕ
b = codes "b"

-- ---- a first creation, and a payment of more than there is

abbrev pub deposit : Asked
deposit = asked 1 (creation (posting world user_one 100 usd ∷ []) None None)

abbrev pub payment : ℕ → Asked
payment n = asked 2 (creation (posting user_one user_two n usd ∷ []) None None)

abbrev pub FirstCreation : Type 0
FirstCreation = four (reply_after [] deposit) ≡
    (Some (two_accounts usd user_one (volumes 0 0) world (volumes 0 0))
    ∷ Some (two_accounts usd user_one (volumes 100 0) world (volumes 0 100))
    ∷ Some (two_accounts usd user_one (volumes 0 0) world (volumes 0 0))
    ∷ Some (two_accounts usd user_one (volumes 100 0) world (volumes 0 100)) ∷ []) ∷ []

abbrev pub LackedFunds : Type 0
LackedFunds = reply_after (deposit ∷ []) (payment 101) ≡ refused (refusal.Lack 0 user_one usd (pos 100) 101)

abbrev pub RefusedWithoutEvents : Type 0
RefusedWithoutEvents = events_after (deposit ∷ []) (payment 101) ≡ []

-- ---- postings are tried in their order

abbrev pub forth : Asked
forth = asked 1 (creation (posting world a 50 eur ∷ posting a b 50 eur ∷ []) None None)

abbrev pub back : Asked
back = asked 1 (creation (posting a b 50 eur ∷ posting world a 50 eur ∷ []) None None)

abbrev pub InOrder : Type 0
InOrder = four (reply_after [] forth) ≡
    (Some (three_accounts eur a (volumes 0 0) b (volumes 0 0) world (volumes 0 0))
    ∷ Some (three_accounts eur a (volumes 50 50) b (volumes 50 0) world (volumes 0 50))
    ∷ Some (three_accounts eur a (volumes 0 0) b (volumes 0 0) world (volumes 0 0))
    ∷ Some (three_accounts eur a (volumes 50 50) b (volumes 50 0) world (volumes 0 50)) ∷ []) ∷ []

abbrev pub OutOfOrder : Type 0
OutOfOrder = reply_after [] back ≡ refused (refusal.Lack 0 a eur (pos 0) 50)

-- ---- a transaction dated back

abbrev pub late_deposit : Asked
late_deposit = asked 3 (creation (posting world user_one 7 usd ∷ []) None (Some eve))

abbrev pub DatedBack : Type 0
DatedBack = four (reply_after (deposit ∷ payment 100 ∷ []) late_deposit) ≡
    (Some (two_accounts usd user_one (volumes 100 100) world (volumes 0 100))
    ∷ Some (two_accounts usd user_one (volumes 107 100) world (volumes 0 107))
    ∷ Some (two_accounts usd user_one (volumes 0 0) world (volumes 0 0))
    ∷ Some (two_accounts usd user_one (volumes 7 0) world (volumes 0 7)) ∷ []) ∷ []

abbrev pub effective_only : Expand
effective_only = record { volumes = false; effective = true }

abbrev pub SeenAfterwards : Type 0
SeenAfterwards = four (reply_after (deposit ∷ payment 100 ∷ late_deposit ∷ []) (reading (read.Transaction 2 effective_only None))) ≡
    (None ∷ None
    ∷ Some (two_accounts usd user_one (volumes 107 0) user_two (volumes 0 0))
    ∷ Some (two_accounts usd user_one (volumes 107 100) user_two (volumes 100 0)) ∷ []) ∷ []

-- noon of 2024-01-01
abbrev pub AccountAtNoon : Type 0
AccountAtNoon = reply_after (deposit ∷ payment 100 ∷ late_deposit ∷ []) (reading (read.Account user_one (Some (pos 1704110400000000)) all_expanded)) ≡
    plain (content.Account (record { address = user_one; metadata = table.empty; volumes = Some (one_asset usd (volumes 100 0)); effective_volumes = Some (one_asset usd (volumes 107 0)) }))

-- ---- effective dates that tie go by id

abbrev pub tied : ℕ → ℕ → Asked
tied n amount = asked n (creation (posting world a amount eur ∷ []) None (Some (day 1)))

abbrev pub tied_calls : List Asked
tied_calls = tied 1 10 ∷ tied 2 5 ∷ tied 3 1 ∷ []

abbrev pub tied_read : ℕ → Asked
tied_read id = reading (read.Transaction id effective_only None)

abbrev pub Tie : ℕ → ℕ → ℕ → Type 0
Tie id before now = four (reply_after tied_calls (tied_read id)) ≡
    (None ∷ None
    ∷ Some (two_accounts eur a (volumes before 0) world (volumes 0 before))
    ∷ Some (two_accounts eur a (volumes now 0) world (volumes 0 now)) ∷ []) ∷ []

-- ---- a used reference

abbrev pub referred : ℕ → Asked
referred n = asked 1 (creation (posting a b n eur ∷ []) (Some (codes "r")) None)

abbrev pub first_referred : Asked
first_referred = asked 1 (creation (posting world a 5 eur ∷ []) (Some (codes "r")) None)

abbrev pub FundsFirst : Type 0
FundsFirst = reply_after (first_referred ∷ []) (referred 6) ≡ refused (refusal.Lack 0 a eur (pos 5) 6)

abbrev pub ReferenceUsed : Type 0
ReferenceUsed = reply_after (first_referred ∷ []) (referred 5) ≡ refused (refusal.Used (codes "r") 1)

-- ---- reverts

abbrev pub spent : List Asked
spent = asked 1 (creation (posting world a 10 eur ∷ []) None None) ∷ asked 1 (creation (posting a b 8 eur ∷ []) None None) ∷ []

abbrev pub revert : ℕ → Bool → Asked
revert id force = asked 1 (Revert id force false)

abbrev pub RevertBelow : Type 0
RevertBelow = reply_after spent (revert 1 false) ≡ refused (refusal.Below a eur (negsuc 7))

abbrev pub RevertForced : Type 0
RevertForced = four (reply_after spent (revert 1 true)) ≡
    (Some (two_accounts eur a (volumes 10 8) world (volumes 0 10))
    ∷ Some (two_accounts eur a (volumes 10 18) world (volumes 10 10))
    ∷ Some (two_accounts eur a (volumes 10 8) world (volumes 0 10))
    ∷ Some (two_accounts eur a (volumes 10 18) world (volumes 10 10)) ∷ []) ∷ []

abbrev pub spent_and_reverted : List Asked
spent_and_reverted = asked 1 (creation (posting world a 10 eur ∷ []) None None) ∷ asked 1 (creation (posting a b 8 eur ∷ []) None None) ∷ revert 1 true ∷ []

abbrev pub RevertedTwice : Type 0
RevertedTwice = reply_after spent_and_reverted (revert 1 true) ≡ refused (refusal.Already 1 3)

abbrev pub RevertOfNone : Type 0
RevertOfNone = reply_after spent (revert 9 false) ≡ refused (refusal.NoTransaction 9)

-- ---- metadata

abbrev pub tier : List ℕ
tier = codes "tier"

abbrev pub metadata_calls : List Asked
metadata_calls =
    asked 1 (SetMeta (Account a) (table.insert table.empty tier (codes "gold")))
    ∷ asked 2 (SetMeta (Account a) (table.insert (table.insert table.empty tier (codes "silver")) (codes "x") (codes "1")))
    ∷ asked 3 (DropMeta (Account a) tier) ∷ []

abbrev pub account_with : MetaOf → AccountView
account_with metadata = record { address = a; metadata = metadata; volumes = None; effective_volumes = None }

abbrev pub account_on : ℤ → Asked
account_on date = reading (read.Account a (Some date) none_expanded)

abbrev pub MetadataOn : ℤ → MetaOf → Type 0
MetadataOn date metadata = reply_after metadata_calls (account_on date) ≡ plain (content.Account (account_with metadata))

abbrev pub NoAccountYet : Type 0
NoAccountYet = reply_after metadata_calls (account_on eve) ≡ refused (refusal.NoAccount a)

abbrev pub gold : MetaOf
gold = table.insert table.empty tier (codes "gold")

abbrev pub silver : MetaOf
silver = table.insert (table.insert table.empty tier (codes "silver")) (codes "x") (codes "1")

abbrev pub only_x : MetaOf
only_x = table.insert table.empty (codes "x") (codes "1")

-- ---- an entry's date never falls

abbrev pub dates_of : List TransactionView → List (ℤ × ℤ)
dates_of [] = []
dates_of (v ∷ vs) = (v.timestamp, v.inserted_at) ∷ dates_of vs

abbrev pub first_dates : Reply → List (ℤ × ℤ)
first_dates r = dates_of (transaction_shown r.content)

abbrev pub DateKept : Type 0
DateKept = first_dates (reply_after (asked 5 (creation (posting world a 1 eur ∷ []) None None) ∷ []) (asked 4 (creation (posting world a 1 eur ∷ []) None None))) ≡ (day 5, day 5) ∷ []

-- ---- stripes

abbrev pub account_stripe : List ℕ → ℕ
account_stripe name = stripe AccountClass default name

abbrev pub AccountStripes : Type 0
AccountStripes = (account_stripe a ≡ 0) × (account_stripe b ≡ 9) × (account_stripe (codes "c") ≡ 6) × (account_stripe (codes "d") ≡ 15)
    × (account_stripe user_one ≡ 2) × (account_stripe user_two ≡ 15) × (account_stripe world ≡ 7)
