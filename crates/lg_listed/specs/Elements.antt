-- What is said of an element of a list of writes.
use Rattle.std.specs.Prelude.{◌≡◌, ℕ, ℤ, Bool, nat_lt, List, [], ◌∷◌, ◌++◌, Some, None}
use Rattle.lg_types.specs.declared.calls.Element.{Element}
use Rattle.lg_types.specs.declared.records.Entry.{Entry}
use Rattle.lg_views.specs.declared.decided.Written.{Written}
use Rattle.lg_views.specs.declared.decided.Written.TheVariants.{Refuses, Finds, Appends}
use Rattle.lg_views.specs.Bulk.{element_written}
use Rattle.lg_views.specs.Import.{fault, FollowsFrom}
use Rattle.lg_book.specs.Reading.{find_entry}
use Rattle.lg_listed.specs.declared.tried.Tried.{Tried}
use Rattle.lg_listed.specs.declared.tried.Tried.TheVariants.{Refused, Kept, Appended}

-- all sixteen stripes
abbrev pub every_stripe : ℕ → Bool
every_stripe k = nat_lt k 16

-- what was tried is what the element comes to on the log; an entry that is found is named by its id
abbrev pub IsTried : List Entry → Written → Tried → Type 0
IsTried h (Refuses refusal) (Refused told) = told ≡ refusal
IsTried h (Refuses refusal) (Kept entry) = ⊥
IsTried h (Refuses refusal) (Appended made) = ⊥
IsTried h (Finds e) (Refused told) = ⊥
IsTried h (Finds e) (Kept entry) = find_entry h entry ≡ Some e
IsTried h (Finds e) (Appended made) = ⊥
IsTried h (Appends e) (Refused told) = ⊥
IsTried h (Appends e) (Kept entry) = ⊥
IsTried h (Appends e) (Appended made) = made ≡ e

-- an entry that an element appends may follow the log
abbrev pub AppendedFaultless : Type 0
AppendedFaultless = (h : List Entry) (x : Element) (now : ℤ) (e : Entry) → element_written h x now ≡ Appends e → fault h e ≡ None

-- so what the elements append one after the other may follow the log
abbrev pub AppendedFollows : Type 0
AppendedFollows = (g earlier : List Entry) (x : Element) (now : ℤ) (e : Entry) → FollowsFrom g earlier → element_written (g ++ earlier) x now ≡ Appends e → FollowsFrom g (earlier ++ e ∷ [])
