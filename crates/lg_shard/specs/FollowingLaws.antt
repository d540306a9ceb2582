-- The laws of what may follow shares.
use Rattle.std.specs.Prelude.{ℕ, ◌≤ℤ◌, List}
use Rattle.lg_types.specs.declared.records.Entry.{Entry}
use Rattle.lg_types.specs.declared.records.Event.TheVariants.{Made, Logged}
use Rattle.lg_types.specs.declared.records.LedgerInfo.{LedgerInfo}
use Rattle.lg_types.specs.Changes.{Change}
use Rattle.lg_types.specs.Lists.{Each}
use Rattle.lg_types.specs.Parts.{Share, shares_of}
use Rattle.lg_shard.specs.Following.{Follows}
use Rattle.lg_shard.specs.Holdings.{HoldingFollows, ChangesFollow, ledger_holding, own_holding, own_changes}

-- a ledger that is made may always follow
abbrev pub MadeFollows : Type 0
MadeFollows = (s place : ℕ) (shares : List Share) (info : LedgerInfo) → Follows shares (shares_of s place (Made info))

-- an entry may follow where it may in its own ledger
abbrev pub EntryFollows : Type 0
EntryFollows = (s place : ℕ) (shares : List Share) (ledger : List ℕ) (e : Entry) → HoldingFollows (ledger_holding ledger shares) (own_holding s ledger e) → Follows shares (shares_of s place (Logged ledger e))

-- the changes of an entry may follow changes that aren't dated later
abbrev pub LaterChanges : Type 0
LaterChanges = (s : ℕ) (ledger : List ℕ) (e : Entry) (held : List Change) → Each (λ c. c.date ≤ℤ e.date) held → ChangesFollow held (own_changes s ledger e)
