-- What a sheet works out: the volumes of accounts and assets, nothing where it has none.
use Rattle.std.specs.Prelude.{◌≡◌, ℕ, List, Option, Some, None, IsSome, refl}
use Rattle.std.specs.Coded.{Coded, code_by, coded×, coded_ℕ}
use Rattle.std.specs.Option.{unwrap_or}
use Rattle.lg_base.specs.declared.amounts.Volumes.{Volumes}
use Rattle.lg_containers.specs.NameTable as table
use Rattle.lg_containers.specs.NameTable.{NameTable, code}

-- for each account the volumes of its assets
abbrev pub Working : Type 0
Working = NameTable (NameTable Volumes)

-- the code of the volumes, and of what is worked out
abbrev pub volumes_code : Coded Volumes
volumes_code = code_by (ℕ × ℕ) (coded× coded_ℕ coded_ℕ) (λ v. (v.input, v.output)) (λ p. record { input = p.0; output = p.1 }) (λ _. refl)

abbrev pub working_code : Coded Working
working_code = code (code volumes_code)

abbrev pub no_volumes : Volumes
no_volumes = record { input = 0; output = 0 }

abbrev pub asset_volumes : Option (NameTable Volumes) → List ℕ → Volumes
asset_volumes None asset = no_volumes
asset_volumes (Some assets) asset = unwrap_or (table.get assets asset) no_volumes

abbrev pub worked : Working → List ℕ → List ℕ → Volumes
worked w account asset = asset_volumes (table.get w account) asset

-- the account and the asset have a place
abbrev pub HasAsset : Option (NameTable Volumes) → List ℕ → Type 0
HasAsset None asset = ⊥
HasAsset (Some assets) asset = IsSome (table.get assets asset)

abbrev pub IsOpen : Working → List ℕ → List ℕ → Type 0
IsOpen w account asset = HasAsset (table.get w account) asset

-- every place of the old is one of the new
pub record StaysOpen (old new : Working) : Type 0 where
  pub each : (account asset : List ℕ) → IsOpen old account asset → IsOpen new account asset

pub record SameVolumes (old new : Working) : Type 0 where
  pub each : (account asset : List ℕ) → worked new account asset ≡ worked old account asset
