-- What shares hold of one ledger, and when it may follow.
use Rattle.std.specs.Prelude.{◌≡◌, ℕ, ◌≤ℤ◌, List, [], ◌∷◌, ◌++◌, map, None, IfSome}
use Rattle.std.specs.List.{filter, find}
use Rattle.lg_base.specs.Volumes.{IsWithinLimit}
use Rattle.lg_meta.specs.declared.change.DatedChange.{DatedChange}
use Rattle.lg_meta.specs.MetaFold.{last_date}
use Rattle.lg_types.specs.declared.moves.Move.{Move}
use Rattle.lg_moves.specs.Moves.{ComesNext}
use Rattle.lg_types.specs.declared.records.Entry.{Entry}
use Rattle.lg_types.specs.Changes.{Change, entry_changes}
use Rattle.lg_types.specs.Known.{Marking, Referred, marking, entry_keys, entry_references, is_marking_of, is_referred_as}
use Rattle.lg_types.specs.Lists.{Each}
use Rattle.lg_types.specs.Moves.{Placed, pair_moves, entry_moves}
use Rattle.lg_types.specs.Tally.{total_of}
use Rattle.lg_types.specs.Parts.{Share, has_move, has_change, has_key, has_reference, part_moves, part_changes, part_markings, part_references}
use Rattle.lg_shard.specs.Shown.{changes_on}

-- moves, changes of metadata, keys and references of one ledger
pub record Holding : Type 0 where
  pub moves : List Placed
  pub changes : List Change
  pub markings : List Marking
  pub references : List Referred

abbrev pub no_holding : Holding
no_holding = record { moves = []; changes = []; markings = []; references = [] }

abbrev pub joined : Holding → Holding → Holding
joined x y = record { moves = x.moves ++ y.moves; changes = x.changes ++ y.changes; markings = x.markings ++ y.markings; references = x.references ++ y.references }

-- what shares hold of a ledger
abbrev pub ledger_holding : List ℕ → List Share → Holding
ledger_holding ledger shares = record { moves = part_moves ledger shares; changes = part_changes ledger shares; markings = part_markings ledger shares; references = part_references ledger shares }

-- what an entry of the ledger holds of the stripe
abbrev pub own_moves : ℕ → List ℕ → Entry → List Placed
own_moves s ledger e = filter (has_move s ledger) (entry_moves e)

abbrev pub own_changes : ℕ → List ℕ → Entry → List Change
own_changes s ledger e = filter (has_change s ledger) (entry_changes e)

abbrev pub own_markings : ℕ → List ℕ → Entry → List Marking
own_markings s ledger e = map (marking e.id) (filter (has_key s ledger) (entry_keys e))

abbrev pub own_references : ℕ → List ℕ → Entry → List Referred
own_references s ledger e = filter (has_reference s ledger) (entry_references e)

abbrev pub own_holding : ℕ → List ℕ → Entry → Holding
own_holding s ledger e = record { moves = own_moves s ledger e; changes = own_changes s ledger e; markings = own_markings s ledger e; references = own_references s ledger e }

-- one after the other, each move comes next and keeps the totals within the limit
abbrev pub MovesFollow : List Move → List Move → Type 0
MovesFollow before [] = Unit {0}
MovesFollow before (m ∷ ms) = ComesNext before m × IsWithinLimit (total_of (before ++ m ∷ [])) × MovesFollow (before ++ m ∷ []) ms

-- the date of the change isn't below that of the last
abbrev pub IsLater : List DatedChange → DatedChange → Type 0
IsLater before c = IfSome (last_date before) (λ last. last ≤ℤ c.date)

-- so for the changes of each account
abbrev pub ChangesFollow : List Change → List Change → Type 0
ChangesFollow held new = (account : List ℕ) → Each (IsLater (changes_on held account)) (changes_on new account)

abbrev pub IsNewKey : List Marking → Marking → Type 0
IsNewKey markings m = find (is_marking_of m.mark.key) markings ≡ None

abbrev pub IsNewReference : List Referred → Referred → Type 0
IsNewReference references r = find (is_referred_as r.reference) references ≡ None

-- each move, change, key and reference meets what its index, its history or its table asks of the next one
pub record HoldingFollows (held new : Holding) : Type 0 where
  pub moves : (account asset : List ℕ) → MovesFollow (pair_moves held.moves account asset) (pair_moves new.moves account asset)
  pub changes : ChangesFollow held.changes new.changes
  pub keys : Each (IsNewKey held.markings) new.markings
  pub references : Each (IsNewReference held.references) new.references
