use Rattle.std.proofs.Common.{◌∙◌, ap}
use Rattle.lg_base.specs.declared.amounts.Volumes.{Volumes}
use Rattle.lg_containers.specs.NameTable.{NameTable, get, get-empty}
use Rattle.lg_sheet.specs.Working.{asset_volumes}
use Rattle.lg_sheet.proofs.sheet.Sheet.new.Goals as goal

pub returns : goal.returns
returns c = record { each = λ account asset. ap (λ t. asset_volumes (get t account) asset) c.new.ensures ∙ ap (λ o. asset_volumes o asset) (get-empty (NameTable Volumes) account) }
