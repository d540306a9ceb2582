-- How indexes, histories and tables stand for what shares hold: `done` of the shares that were applied, `ahead` of those that are prepared.
use Rattle.std.specs.Prelude.{◌≡◌, ℕ, ◌<◌, ◌≤◌, List, ◌++◌, length, Option, Some, None}
use Rattle.std.specs.Option.{option_map}
use Rattle.std.specs.List.{find}
use Rattle.lg_containers.specs.NameTable.{NameTable, get, empty}
use Rattle.lg_maps.specs.Contents.{Contents}
use Rattle.lg_keys.specs.declared.kept.Kept.{Kept}
use Rattle.lg_meta.specs.Index.{changes_of}
use Rattle.lg_types.specs.Changes.{Change}
use Rattle.lg_types.specs.Known.{Marking, Referred, is_marking_of, is_referred_as, transaction_of}
use Rattle.lg_types.specs.Moves.{Placed, pair_moves}
use Rattle.lg_types.specs.declared.records.Event.{Event}
use Rattle.lg_types.specs.Parts.{Share, shares_of}
use Rattle.lg_shard.specs.declared.accounts.AccountPart.{AccountPart}
use Rattle.lg_shard.specs.declared.ledgers.LedgerPart.{LedgerPart}
use Rattle.lg_shard.specs.Accounts.{items_at, waiting_at, history_at}
use Rattle.lg_shard.specs.Following.{Follows}
use Rattle.lg_shard.specs.Holdings.{Holding, ledger_holding}
use Rattle.lg_shard.specs.Shown.{changes_on, kept_of}

-- each index holds the moves that were applied, and has room for those that are prepared
pub record MovesTied (accounts : NameTable AccountPart) (done ahead : List Placed) : Type 0 where
  pub items : (account asset : List ℕ) → items_at accounts account asset ≡ pair_moves done account asset
  pub room : (account asset : List ℕ) → length (pair_moves ahead account asset) ≤ waiting_at accounts account asset

-- each history has the changes that were applied, and those that are prepared
pub record HistoriesTied (accounts : NameTable AccountPart) (done ahead : List Change) : Type 0 where
  pub applied : (account : List ℕ) → (history_at accounts account).changes ≡ changes_on done account
  pub prepared : (account : List ℕ) → (history_at accounts account).prepared ≡ changes_of (changes_on ahead account)

pub record KeysTied (keys : Contents Kept) (done ahead : List Marking) : Type 0 where
  pub known : (key : List ℕ) → get keys.table key ≡ option_map kept_of (find (is_marking_of key) done)
  pub room : length ahead ≤ keys.spare

pub record ReferencesTied (references : Contents ℕ) (done ahead : List Referred) : Type 0 where
  pub known : (reference : List ℕ) → get references.table reference ≡ option_map transaction_of (find (is_referred_as reference) done)
  pub room : length ahead ≤ references.spare

-- a ledger that isn't there holds nothing
abbrev pub accounts_of : Option LedgerPart → NameTable AccountPart
accounts_of None = empty
accounts_of (Some part) = part.accounts

abbrev pub keys_of : Option LedgerPart → Contents Kept
keys_of None = record { table = empty; spare = 0 }
keys_of (Some part) = part.keys

abbrev pub references_of : Option LedgerPart → Contents ℕ
references_of None = record { table = empty; spare = 0 }
references_of (Some part) = part.references

-- the part of a ledger stands for what was applied, and is ready for what is prepared
pub record PartTied (part : Option LedgerPart) (done ahead : Holding) : Type 0 where
  pub moves : MovesTied (accounts_of part) done.moves ahead.moves
  pub histories : HistoriesTied (accounts_of part) done.changes ahead.changes
  pub keys : KeysTied (keys_of part) done.markings ahead.markings
  pub references : ReferencesTied (references_of part) done.references ahead.references

-- so does the part of each ledger
abbrev pub LedgersTied : NameTable LedgerPart → List Share → List Share → Type 0
LedgersTied ledgers shares coming = (ledger : List ℕ) → PartTied (get ledgers ledger) (ledger_holding ledger shares) (ledger_holding ledger coming)

-- there is room for one key and one reference more
pub record IsRoomFor (count : ℕ) (ahead : Holding) : Type 0 where
  pub markings : length ahead.markings < count
  pub references : length ahead.references < count

abbrev pub AreRoomFor : ℕ → List Share → Type 0
AreRoomFor count coming = (ledger : List ℕ) → IsRoomFor count (ledger_holding ledger coming)

-- the ledgers are ready for the event to be applied
pub record IsReadyFor (ledgers : NameTable LedgerPart) (s : ℕ) (event : Event) : Type 0 where
  pub place : ℕ
  pub shares : List Share
  pub coming : List Share
  pub tied : LedgersTied ledgers shares (shares_of s place event ++ coming)
  pub follows : Follows shares (shares_of s place event)
