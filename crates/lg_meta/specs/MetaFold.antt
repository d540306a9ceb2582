-- Metadata as the fold of the changes that were made of it.
--     folded meta changes      the metadata after the changes, in their order
--     meta_at date changes     the metadata that the changes dated at most at the date make, all of them where no date is given
--     first_date, last_date    the dates of the first and of the last change
--     changes_about target g   the changes that a log makes of the metadata of a target
use Rattle.std.specs.Prelude.{ℤ, List, [], ◌∷◌, map, filter, Option, Some, None}
use Rattle.lg_containers.specs.NameTable.{empty}
use Rattle.lg_types.specs.declared.records.Entry.{Entry}
use Rattle.lg_types.specs.declared.records.Target.{Target}
use Rattle.lg_types.specs.Changes.{MetaOf, Change, changed, changes, is_about}
use Rattle.lg_types.specs.Tally.{is_to}
use Rattle.lg_meta.specs.declared.change.DatedChange.{DatedChange}

abbrev pub folded : MetaOf → List DatedChange → MetaOf
folded meta [] = meta
folded meta (dated ∷ rest) = folded (changed meta dated.change) rest

abbrev pub meta_at : Option ℤ → List DatedChange → MetaOf
meta_at date changes = folded empty (filter (λ dated. is_to date dated.date) changes)

abbrev pub first_date : List DatedChange → Option ℤ
first_date [] = None
first_date (dated ∷ rest) = Some dated.date

abbrev pub last_date : List DatedChange → Option ℤ
last_date [] = None
last_date (dated ∷ []) = Some dated.date
last_date (dated ∷ next ∷ rest) = last_date (next ∷ rest)

abbrev pub dated_change : Change → DatedChange
dated_change c = record { date = c.date; change = c.change }

abbrev pub changes_about : Target → List Entry → List DatedChange
changes_about target g = map dated_change (filter (is_about target) (changes g))
