-- What is found in the accounts of a ledger.
--     slot_at accounts account asset      the index of the account and the asset with its room, where there is one
--     items_at, waiting_at                its moves, and for how many prepared moves it has room; none and 0 where there is no index
--     history_at accounts account         the history of the account's metadata, the empty one where there is none
use Rattle.std.specs.Prelude.{◌≡◌, ℕ, Bool, ◌&&◌, if◌then◌else◌, List, [], ◌∷◌, ◌++◌, Option, Some, None}
use Rattle.std.specs.Str.{bytes_eq}
use Rattle.lg_containers.specs.NameTable.{NameTable, get}
use Rattle.lg_meta.specs.History.{History}
use Rattle.lg_types.specs.declared.changes.MetaChange.{MetaChange}
use Rattle.lg_types.specs.declared.moves.Move.{Move}
use Rattle.lg_shard.specs.declared.accounts.AccountPart.{AccountPart}
use Rattle.lg_shard.specs.declared.reserved.Reserved.{Reserved}

abbrev pub no_history : History
no_history = record { changes = []; prepared = [] }

-- one more prepared change
abbrev pub with_prepared : History → MetaChange → History
with_prepared h change = record { changes = h.changes; prepared = h.prepared ++ change ∷ [] }

abbrev pub slot_in : Option AccountPart → List ℕ → Option Reserved
slot_in None asset = None
slot_in (Some part) asset = get part.assets asset

abbrev pub items_of : Option Reserved → List Move
items_of None = []
items_of (Some slot) = slot.index.items

abbrev pub waiting_of : Option Reserved → ℕ
waiting_of None = 0
waiting_of (Some slot) = slot.waiting

abbrev pub history_in : Option AccountPart → History
history_in None = no_history
history_in (Some part) = part.history

abbrev pub slot_at : NameTable AccountPart → List ℕ → List ℕ → Option Reserved
slot_at accounts account asset = slot_in (get accounts account) asset

abbrev pub items_at : NameTable AccountPart → List ℕ → List ℕ → List Move
items_at accounts account asset = items_of (slot_at accounts account asset)

abbrev pub waiting_at : NameTable AccountPart → List ℕ → List ℕ → ℕ
waiting_at accounts account asset = waiting_of (slot_at accounts account asset)

abbrev pub history_at : NameTable AccountPart → List ℕ → History
history_at accounts account = history_in (get accounts account)

-- whether the account and the asset are the pair
abbrev pub is_pair : List ℕ → List ℕ → List ℕ → List ℕ → Bool
is_pair account asset a b = bytes_eq account a && bytes_eq asset b

abbrev pub one_if : Bool → ℕ
one_if test = if test then 1 else 0

abbrev pub only_if : Bool → Move → List Move
only_if test item = if test then item ∷ [] else []

-- the accounts hold the same moves and changes, whatever their room
pub record SameHoldings (old new : NameTable AccountPart) : Type 0 where
  pub items : (account asset : List ℕ) → items_at new account asset ≡ items_at old account asset
  pub histories : (account : List ℕ) → history_at new account ≡ history_at old account

-- the accounts have room for as many prepared moves, whatever they hold
abbrev pub SameRoom : NameTable AccountPart → NameTable AccountPart → Type 0
SameRoom old new = (account asset : List ℕ) → waiting_at new account asset ≡ waiting_at old account asset

-- the accounts hold the same changes
abbrev pub SameHistories : NameTable AccountPart → NameTable AccountPart → Type 0
SameHistories old new = (account : List ℕ) → history_at new account ≡ history_at old account

-- the accounts have the same slots
abbrev pub SameSlots : NameTable AccountPart → NameTable AccountPart → Type 0
SameSlots old new = (account asset : List ℕ) → slot_at new account asset ≡ slot_at old account asset
