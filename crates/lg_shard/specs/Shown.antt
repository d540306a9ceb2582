-- What the readers of a shard find in its shares.
use Rattle.std.specs.Prelude.{◌≡◌, ℕ, Bool, List, map, Option}
use Rattle.std.specs.Option.{option_map}
use Rattle.std.specs.List.{find, filter, list_any}
use Rattle.std.specs.List.Sorted.{IsStrictlySortedBy}
use Rattle.lg_base.specs.Volumes.{IsWithinLimit}
use Rattle.lg_containers.specs.NameOrder.{name_order}
use Rattle.lg_keys.specs.declared.kept.Kept.{Kept}
use Rattle.lg_meta.specs.declared.change.DatedChange.{DatedChange}
use Rattle.lg_meta.specs.MetaFold.{dated_change}
use Rattle.lg_types.specs.declared.moves.Move.{Move}
use Rattle.lg_types.specs.declared.records.Target.TheVariants.{Account}
use Rattle.lg_types.specs.Changes.{Change, is_about}
use Rattle.lg_types.specs.Known.{Marking, is_marking_of, is_referred_as, transaction_of}
use Rattle.lg_types.specs.Moves.{is_of, pair_moves}
use Rattle.lg_types.specs.PartLaws.{is_account}
use Rattle.lg_types.specs.Parts.{Share, part_moves, part_changes, part_accounts, part_markings, part_references}
use Rattle.lg_types.specs.Tally.{total_of}

-- the moves of an account and an asset of the ledger
abbrev pub account_moves : List Share → List ℕ → List ℕ → List ℕ → List Move
account_moves shares ledger account asset = pair_moves (part_moves ledger shares) account asset

-- the changes of an account's metadata, each with its date
abbrev pub changes_on : List Change → List ℕ → List DatedChange
changes_on changes account = map dated_change (filter (is_about (Account account)) changes)

-- those of an account of the ledger
abbrev pub account_changes : List Share → List ℕ → List ℕ → List DatedChange
account_changes shares ledger account = changes_on (part_changes ledger shares) account

-- whether a share of the ledger names the account
abbrev pub is_known : List Share → List ℕ → List ℕ → Bool
is_known shares ledger account = list_any (is_account account) (part_accounts ledger shares)

-- whether the account has a move of the asset
abbrev pub is_moved : List Share → List ℕ → List ℕ → List ℕ → Bool
is_moved shares ledger account asset = list_any (is_of account asset) (part_moves ledger shares)

-- the moves of each account and each asset of each ledger add up within the limit
abbrev pub AreWithinLimit : List Share → Type 0
AreWithinLimit shares = (ledger account asset : List ℕ) → IsWithinLimit (total_of (account_moves shares ledger account asset))

-- what is kept of a request: its entry and what it asked
abbrev pub kept_of : Marking → Kept
kept_of m = record { entry = m.entry; input_hash = m.mark.input_hash }

-- what is kept of a key of the ledger
abbrev pub kept_under : List Share → List ℕ → List ℕ → Option Kept
kept_under shares ledger key = option_map kept_of (find (is_marking_of key) (part_markings ledger shares))

-- the transaction that has a reference of the ledger
abbrev pub used_under : List Share → List ℕ → List ℕ → Option ℕ
used_under shares ledger reference = option_map transaction_of (find (is_referred_as reference) (part_references ledger shares))

-- the list has exactly the names that pass the test, in byte order, each once
pub record ListsExactly (names : List (List ℕ)) (test : List ℕ → Bool) : Type 0 where
  pub order : IsStrictlySortedBy name_order names
  pub members : (name : List ℕ) → list_any (is_account name) names ≡ test name
