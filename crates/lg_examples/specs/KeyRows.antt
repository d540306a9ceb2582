-- Worked examples of keys, imports and ledgers.
use Rattle.std.specs.Prelude.{◌≡◌, ℕ, ℤ, pos, true, false, List, [], ◌∷◌, Some, None, codes}
use Rattle.lg_containers.specs.NameTable as table
use Rattle.lg_types.specs.declared.calls.Batch.TheVariants.{Ready}
use Rattle.lg_types.specs.declared.calls.Call.TheVariants as call
use Rattle.lg_types.specs.declared.queries.Read.TheVariants as read
use Rattle.lg_types.specs.declared.records.Entry.{Entry}
use Rattle.lg_types.specs.declared.refusals.ImportCause.TheVariants as cause
use Rattle.lg_types.specs.declared.refusals.Refusal.TheVariants as refusal
use Rattle.lg_types.specs.Log.{log, first_events}
use Rattle.lg_views.specs.declared.replies.Content.TheVariants as content
use Rattle.lg_views.specs.Replies.{plain, refused, repeated}
use Rattle.lg_examples.specs.Scenes.{day, eve, default, posting, creation, Asked, asked, asked_with, reading, reply_after, events_after, after_calls, volumes, one_asset, two_accounts, four, all_expanded}
use Rattle.lg_examples.specs.Rows.{world, eur, usd, a, b, user_one, effective_only}
use Rattle.lg_types.specs.declared.calls.Write.TheVariants.{Revert}
use Rattle.lg_types.specs.declared.calls.Write.{Write}

-- ---- a repeated key

abbrev pub first_write : Write
first_write = creation (posting world user_one 100 usd ∷ []) None None

abbrev pub key_one : List ℕ
key_one = codes "k1"

abbrev pub keyed : ℕ → Asked
keyed n = asked_with key_one n first_write

abbrev pub between : Asked
between = asked 2 (creation (posting world user_one 7 usd ∷ []) None (Some eve))

-- the log before the key comes again
abbrev pub before_again : List Entry
before_again = log (after_calls first_events (keyed 1 ∷ between ∷ [])) default

-- a key's second call gets the first reply, whatever came between
abbrev pub FirstReplyAgain : Type 0
FirstReplyAgain = reply_after (keyed 1 ∷ between ∷ []) (keyed 3) ≡ repeated (reply_after [] (keyed 1)).content

abbrev pub FirstReplyAppendsNothing : Type 0
FirstReplyAppendsNothing = events_after (keyed 1 ∷ between ∷ []) (keyed 3) ≡ []

-- a refused call keeps no key
abbrev pub lacking : Asked
lacking = asked_with (codes "k2") 1 (creation (posting (codes "users:9") user_one 1 usd ∷ []) None None)

abbrev pub KeyNotKept : Type 0
KeyNotKept = four (reply_after (lacking ∷ []) (asked_with (codes "k2") 1 first_write)) ≡ four (reply_after [] (asked 1 first_write))

-- ---- an import

abbrev pub made_copy : Asked
made_copy = record { call = call.MakeLedger (codes "copy") (codes "_default") table.empty; now = day 1 }

abbrev pub exported : List Entry
exported = log (after_calls first_events (asked 1 first_write ∷ [])) default

abbrev pub imported : List ℕ → Asked
imported ledger = record { call = call.Import ledger (Ready exported); now = day 1 }

abbrev pub transaction_of : List ℕ → Asked
transaction_of ledger = record { call = call.Read ledger (read.Transaction 1 all_expanded None); now = day 1 }

abbrev pub CopyReadsAlike : Type 0
CopyReadsAlike = reply_after (asked 1 first_write ∷ made_copy ∷ imported (codes "copy") ∷ []) (transaction_of (codes "copy")) ≡ reply_after (asked 1 first_write ∷ []) (transaction_of default)

abbrev pub ImportIntoEntries : Type 0
ImportIntoEntries = reply_after (asked 1 first_write ∷ []) (imported default) ≡ refused (refusal.Import 0 cause.NotEmpty)

-- ---- ledgers

abbrev pub NoSuchLedger : Type 0
NoSuchLedger = reply_after [] (record { call = call.Write (codes "nope") None first_write; now = day 1 }) ≡ refused (refusal.NoLedger (codes "nope"))

abbrev pub LedgerTwice : Type 0
LedgerTwice = reply_after [] (record { call = call.MakeLedger default (codes "_default") table.empty; now = day 1 }) ≡ refused (refusal.LedgerThere default)

-- ---- nothing moves

abbrev pub NothingMoves : Type 0
NothingMoves = four (reply_after [] (asked 1 (creation (posting a b 0 eur ∷ []) None None))) ≡
    (Some (two_accounts eur a (volumes 0 0) b (volumes 0 0)) ∷ Some (two_accounts eur a (volumes 0 0) b (volumes 0 0))
    ∷ Some (two_accounts eur a (volumes 0 0) b (volumes 0 0)) ∷ Some (two_accounts eur a (volumes 0 0) b (volumes 0 0)) ∷ []) ∷ []

-- ---- a revert at the original's effective date

abbrev pub reverted_there : List Asked
reverted_there = asked 2 (creation (posting world a 10 eur ∷ []) None (Some (day 1))) ∷ asked 3 (Revert 1 false true) ∷ []

abbrev pub there_at : ℤ → Asked
there_at date = reading (read.Account a (Some date) effective_only)

abbrev pub RevertedThere : Type 0
RevertedThere = reply_after reverted_there (there_at (day 1)) ≡ plain (content.Account (record { address = a; metadata = table.empty; volumes = None; effective_volumes = Some (one_asset eur (volumes 10 10)) }))

abbrev pub NotThereBefore : Type 0
NotThereBefore = reply_after reverted_there (there_at (pos 1704067199999999)) ≡ refused (refusal.NoAccount a)
