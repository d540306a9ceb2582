-- The volumes of an account, over the assets that its shard lists.
use Rattle.std.specs.Prelude.{ℕ, Bool, List, Option, Some, None}
use Rattle.std.specs.List.{filter, list_any}
use Rattle.lg_types.specs.declared.moves.Move.{Move}
use Rattle.lg_types.specs.Parts.{Share}
use Rattle.lg_types.specs.Tally.{tally}
use Rattle.lg_base.specs.declared.amounts.Volumes.{Volumes}
use Rattle.lg_containers.specs.NameTable as table
use Rattle.lg_views.specs.Pairs.{AssetMap, asset_map}
use Rattle.lg_shard.specs.Shown.{account_moves}

-- whether a move of the account and the asset passes the test, and what those that pass add up to
abbrev pub is_counted_in : List Share → List ℕ → List ℕ → (Move → Bool) → List ℕ → Bool
is_counted_in shares ledger account test asset = list_any test (account_moves shares ledger account asset)

abbrev pub counted_in : List Share → List ℕ → List ℕ → (Move → Bool) → List ℕ → Volumes
counted_in shares ledger account test asset = tally test (account_moves shares ledger account asset)

-- the volumes over those of the assets of which a move passes
abbrev pub volumes_in : List Share → List ℕ → List ℕ → (Move → Bool) → List (List ℕ) → AssetMap
volumes_in shares ledger account test assets = asset_map (counted_in shares ledger account test) (filter (is_counted_in shares ledger account test) assets)

-- a map with what was counted of an asset
abbrev pub put_if : AssetMap → List ℕ → Option Volumes → AssetMap
put_if m asset None = m
put_if m asset (Some counted) = table.insert m asset counted
