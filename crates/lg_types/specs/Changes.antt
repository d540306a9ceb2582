-- Metadata: the changes that entries make, and what they come to at a date.
use Rattle.std.specs.Prelude.{ℕ, ℤ, Bool, false, nat_eq, List, [], ◌∷◌, map, Option}
use Rattle.std.specs.List.{flat_map, filter}
use Rattle.std.specs.Str.{bytes_eq}
use Rattle.lg_containers.specs.NameTable as table
use Rattle.lg_containers.specs.NameTable.{NameTable}
use Rattle.lg_types.specs.declared.records.Entry.{Entry}
use Rattle.lg_types.specs.declared.records.EntryBody.{EntryBody}
use Rattle.lg_types.specs.declared.records.EntryBody.TheVariants.{NewTransaction, SetMetadata, Reverted, DeleteMetadata}
use Rattle.lg_types.specs.declared.records.Target.{Target}
use Rattle.lg_types.specs.declared.records.Target.TheVariants.{Account, Transaction as TransactionOf}
use Rattle.lg_types.specs.declared.changes.MetaChange.{MetaChange}
use Rattle.lg_types.specs.declared.changes.MetaChange.TheVariants.{Set, Drop}
use Rattle.lg_types.specs.Tally.{is_to}

-- metadata are texts under names
abbrev pub MetaOf : Type 0
MetaOf = NameTable (List ℕ)

-- a change of the metadata of a target, with the date of its entry
pub record Change : Type 0 where
  pub target : Target
  pub date : ℤ
  pub change : MetaChange

abbrev pub account_change : ℤ → List ℕ × MetaOf → Change
account_change date given = record { target = Account given.0; date = date; change = Set given.1 }

-- the changes of an entry: the metadata of accounts that it gives, and those of its transaction or its target
abbrev pub body_changes : ℤ → EntryBody → List Change
body_changes date (NewTransaction t accounts) = record { target = TransactionOf t.id; date = date; change = Set t.metadata } ∷ map (account_change date) (table.pairs_of accounts)
body_changes date (SetMetadata target metadata) = record { target = target; date = date; change = Set metadata } ∷ []
body_changes date (Reverted id t) = record { target = TransactionOf t.id; date = date; change = Set t.metadata } ∷ []
body_changes date (DeleteMetadata target name) = record { target = target; date = date; change = Drop name } ∷ []

abbrev pub entry_changes : Entry → List Change
entry_changes e = body_changes e.date e.body

abbrev pub changes : List Entry → List Change
changes g = flat_map entry_changes g

abbrev pub same_target : Target → Target → Bool
same_target (Account a) (Account b) = bytes_eq a b
same_target (Account a) (TransactionOf j) = false
same_target (TransactionOf i) (Account b) = false
same_target (TransactionOf i) (TransactionOf j) = nat_eq i j

abbrev pub is_about : Target → Change → Bool
is_about target c = same_target c.target target

abbrev pub is_changed_to : Option ℤ → Change → Bool
is_changed_to pit c = is_to pit c.date

-- each of the names gets its value
abbrev pub put_all : MetaOf → List (List ℕ × List ℕ) → MetaOf
put_all m [] = m
put_all m (pair ∷ pairs) = put_all (table.insert m pair.0 pair.1) pairs

abbrev pub changed : MetaOf → MetaChange → MetaOf
changed m (Set given) = put_all m (table.pairs_of given)
changed m (Drop name) = table.remove m name

-- what changes come to, one after the other
abbrev pub folded : MetaOf → List Change → MetaOf
folded m [] = m
folded m (c ∷ cs) = folded (changed m c.change) cs

-- the metadata of a target at a date, and after all entries where there is none
abbrev pub metadata_at : List Entry → Target → Option ℤ → MetaOf
metadata_at g target pit = folded table.empty (filter (is_changed_to pit) (filter (is_about target) (changes g)))
