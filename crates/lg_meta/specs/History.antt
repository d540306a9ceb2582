-- What a history of metadata shows.
--     changes    the changes that were applied, each with its date, in the order in which they were applied
--     prepared   the changes that are prepared and not yet applied, in the order in which they were prepared
use Rattle.std.specs.Prelude.{ℤ, List, [], ◌∷◌, ◌++◌}
use Rattle.lg_types.specs.declared.changes.MetaChange.{MetaChange}
use Rattle.lg_meta.specs.declared.change.DatedChange.{DatedChange}

pub record History : Type 0 where
  pub changes : List DatedChange
  pub prepared : List MetaChange

-- the first of the prepared changes applied at a date
abbrev pub first_applied : ℤ → List DatedChange → List MetaChange → History
first_applied date changes [] = record { changes = changes; prepared = [] }
first_applied date changes (change ∷ rest) = record { changes = changes ++ record { date = date; change = change } ∷ []; prepared = rest }
