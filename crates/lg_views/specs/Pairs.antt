-- Maps of volumes over pairs of account and asset.
use Rattle.std.specs.Prelude.{ℕ, List, [], ◌∷◌}
use Rattle.std.specs.Option.{unwrap_or}
use Rattle.lg_base.specs.declared.amounts.Volumes.{Volumes}
use Rattle.lg_containers.specs.NameTable as table
use Rattle.lg_containers.specs.NameTable.{NameTable}
use Rattle.lg_types.specs.Moves.{Placed}

abbrev pub AssetMap : Type 0
AssetMap = NameTable Volumes

abbrev pub AccountMap : Type 0
AccountMap = NameTable AssetMap

-- the account and the asset of a move
abbrev pub pair_of : Placed → List ℕ × List ℕ
pair_of m = (m.account, m.asset)

abbrev pub put_pair : AccountMap → List ℕ → List ℕ → Volumes → AccountMap
put_pair m account asset v = table.insert m account (table.insert (unwrap_or (table.get m account) table.empty) asset v)

abbrev pub with_pairs : (List ℕ → List ℕ → Volumes) → AccountMap → List (List ℕ × List ℕ) → AccountMap
with_pairs f m [] = m
with_pairs f m (pair ∷ pairs) = with_pairs f (put_pair m pair.0 pair.1 (f pair.0 pair.1)) pairs

-- the map with `f` of each of the pairs
abbrev pub pair_map : (List ℕ → List ℕ → Volumes) → List (List ℕ × List ℕ) → AccountMap
pair_map f pairs = with_pairs f table.empty pairs

abbrev pub with_assets : (List ℕ → Volumes) → AssetMap → List (List ℕ) → AssetMap
with_assets f m [] = m
with_assets f m (asset ∷ assets) = with_assets f (table.insert m asset (f asset)) assets

-- the map with `f` of each of the assets
abbrev pub asset_map : (List ℕ → Volumes) → List (List ℕ) → AssetMap
asset_map f assets = with_assets f table.empty assets

-- the names in byte order, each once
abbrev pub with_names : NameTable (Unit {0}) → List (List ℕ) → NameTable (Unit {0})
with_names t [] = t
with_names t (name ∷ names) = with_names (table.insert t name tt) names

abbrev pub in_byte_order : List (List ℕ) → List (List ℕ)
in_byte_order names = table.keys (with_names table.empty names)
