-- The date of the last of some changes.
use Rattle.std.proofs.Common.{◌≡◌, List, [], ◌∷◌, ◌++◌, Some, refl}
use Rattle.lg_meta.specs.MetaFold.{last_date}
use Rattle.lg_meta.specs.declared.change.DatedChange.{DatedChange}

-- the last change behind others gives the date
pub last_date-push : (cs : List DatedChange) (c : DatedChange) → last_date (cs ++ c ∷ []) ≡ Some c.date
last_date-push [] c = refl
last_date-push (d ∷ []) c = refl
last_date-push (d ∷ e ∷ es) c = last_date-push (e ∷ es) c
