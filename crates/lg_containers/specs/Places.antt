-- Where a name stands among pairs in order, or where it belongs: before the place all names are less, behind it all are greater.
use Rattle.std.specs.Prelude.{◌≡◌, ℕ, Bool, List, ◌∷◌, ◌++◌, length, IsTrue}
use Rattle.std.proofs.Common.{Result, Ok, Err}
use Rattle.std.specs.List.{list_all}
use Rattle.std.specs.Ordering.{is_lt, is_gt}
use Rattle.lg_containers.specs.NameOrder.{name_order}

abbrev pub all_less : {V : Type 0} → List ℕ → List (List ℕ × V) → Bool
all_less name pairs = list_all (λ p. is_lt (name_order p.0 name)) pairs

abbrev pub all_greater : {V : Type 0} → List ℕ → List (List ℕ × V) → Bool
all_greater name pairs = list_all (λ p. is_gt (name_order p.0 name)) pairs

pub record IsAt {V : Type 0} (name : List ℕ) (pairs : List (List ℕ × V)) (place : ℕ) : Type 0 where
  pub front : List (List ℕ × V)
  pub value : V
  pub back : List (List ℕ × V)
  pub parts : pairs ≡ front ++ (name, value) ∷ back
  pub length_front : length front ≡ place
  pub less : IsTrue (all_less name front)
  pub greater : IsTrue (all_greater name back)

pub record BelongsAt {V : Type 0} (name : List ℕ) (pairs : List (List ℕ × V)) (place : ℕ) : Type 0 where
  pub front : List (List ℕ × V)
  pub back : List (List ℕ × V)
  pub parts : pairs ≡ front ++ back
  pub length_front : length front ≡ place
  pub less : IsTrue (all_less name front)
  pub greater : IsTrue (all_greater name back)

abbrev pub IsPlace : {V : Type 0} → List ℕ → List (List ℕ × V) → Result ℕ ℕ → Type 0
IsPlace name pairs (Ok place) = IsAt name pairs place
IsPlace name pairs (Err place) = BelongsAt name pairs place
