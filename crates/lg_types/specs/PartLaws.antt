-- The laws of parts: a stripe knows of its own resources what the log knows of them.
use Rattle.std.specs.Prelude.{◌≡◌, ℕ, Bool, List}
use Rattle.std.specs.List.{filter, find}
use Rattle.std.specs.Str.{bytes_eq}
use Rattle.lg_types.specs.declared.classes.Class.TheVariants.{Account as AccountClass, Key as KeyClass, Reference as ReferenceClass}
use Rattle.lg_types.specs.declared.records.Event.{Event}
use Rattle.lg_types.specs.declared.records.Target.TheVariants.{Account}
use Rattle.lg_types.specs.Changes.{changes, is_about}
use Rattle.lg_types.specs.Known.{accounts, markings, is_marking_of, references, is_referred_as}
use Rattle.lg_types.specs.Log.{log}
use Rattle.lg_types.specs.Moves.{moves, pair_moves}
use Rattle.lg_types.specs.Parts.{part_of, part_moves, part_changes, part_accounts, part_markings, part_references}
use Rattle.lg_types.specs.Stripes.{stripe}

abbrev pub is_account : List ℕ → List ℕ → Bool
is_account account name = bytes_eq name account

-- the moves of an account of the stripe, in one asset
abbrev pub KnowsMoves : Type 0
KnowsMoves = (s : ℕ) (ledger account asset : List ℕ) (events : List Event) → stripe AccountClass ledger account ≡ s
    → pair_moves (part_moves ledger (part_of s events)) account asset ≡ pair_moves (moves (log events ledger)) account asset

-- the changes of its metadata
abbrev pub KnowsChanges : Type 0
KnowsChanges = (s : ℕ) (ledger account : List ℕ) (events : List Event) → stripe AccountClass ledger account ≡ s
    → filter (is_about (Account account)) (part_changes ledger (part_of s events)) ≡ filter (is_about (Account account)) (changes (log events ledger))

-- where it is named
abbrev pub KnowsAccounts : Type 0
KnowsAccounts = (s : ℕ) (ledger account : List ℕ) (events : List Event) → stripe AccountClass ledger account ≡ s
    → filter (is_account account) (part_accounts ledger (part_of s events)) ≡ filter (is_account account) (accounts (log events ledger))

-- the entry of a key of the stripe, with the key's hash
abbrev pub KnowsKeys : Type 0
KnowsKeys = (s : ℕ) (ledger key : List ℕ) (events : List Event) → stripe KeyClass ledger key ≡ s
    → find (is_marking_of key) (part_markings ledger (part_of s events)) ≡ find (is_marking_of key) (markings (log events ledger))

-- the transaction of a reference of the stripe
abbrev pub KnowsReferences : Type 0
KnowsReferences = (s : ℕ) (ledger reference : List ℕ) (events : List Event) → stripe ReferenceClass ledger reference ≡ s
    → find (is_referred_as reference) (part_references ledger (part_of s events)) ≡ find (is_referred_as reference) (references (log events ledger))
