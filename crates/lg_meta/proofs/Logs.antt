-- The metadata of a target in a log is what the changes of that target make.
use Rattle.std.proofs.Common.{◌≡◌, ℤ, Bool, true, false, cond, List, [], ◌∷◌, map, filter, Option, refl}
use Rattle.lg_types.specs.declared.records.Entry.{Entry}
use Rattle.lg_types.specs.declared.records.Target.{Target}
use Rattle.lg_containers.specs.NameTable.{empty}
use Rattle.lg_types.specs.Changes.{MetaOf, Change, changed, changes, is_about, is_changed_to, metadata_at, folded as folded_changes}
use Rattle.lg_types.specs.Tally.{is_to}
use Rattle.lg_meta.specs.declared.change.DatedChange.{DatedChange}
use Rattle.lg_meta.specs.MetaFold.{folded, meta_at, dated_change, changes_about}

one_more : (b : Bool) (meta : MetaOf) (c : Change) (rest : List Change) (dated : List DatedChange) → ((m : MetaOf) → folded_changes m rest ≡ folded m dated)
    → folded_changes meta (cond b (c ∷ rest) rest) ≡ folded meta (cond b (dated_change c ∷ dated) dated)
one_more true meta c rest dated same = same (changed meta c.change)
one_more false meta c rest dated same = same meta

same_fold : (date : Option ℤ) (cs : List Change) (meta : MetaOf) → folded_changes meta (filter (is_changed_to date) cs) ≡ folded meta (filter (λ d. is_to date d.date) (map dated_change cs))
same_fold date [] meta = refl
same_fold date (c ∷ cs) meta =
    one_more (is_to date c.date) meta c (filter (is_changed_to date) cs) (filter (λ d. is_to date d.date) (map dated_change cs)) (same_fold date cs)

pub metadata_by_changes : (g : List Entry) (target : Target) (date : Option ℤ) → metadata_at g target date ≡ meta_at date (changes_about target g)
metadata_by_changes g target date = same_fold date (filter (is_about target) (changes g)) empty
