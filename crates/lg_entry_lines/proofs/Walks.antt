-- Loops that show of each item that it is as its type allows.
use Rattle.std.proofs.Common.{◌≡◌, ℕ, ◌+◌, ◌<◌, ◌≤◌, List, drop, length, get_or, sym, subst, drop_of_length-le}
use Rattle.std.specs.List.{AllByRecursion}
use Rattle.std.proofs.lemmas.List.{drop_more}

-- where it holds of what is left, it holds of all
pub record GoesOn {X : Type 0} (P : X → Type 0) (left all : List X) : Type 0 where
  pub on : AllByRecursion P left → AllByRecursion P all

module _ {X : Type 0} (P : X → Type 0) (all : List X) (i : ℕ) where
  pub more : (x : X) → GoesOn P (drop i all) all → i < length all → x ≡ get_or all i x → P x → GoesOn P (drop (i + 1) all) all
  more x g h is p = record {
    on = λ rest. g.on (subst (AllByRecursion P) (sym (drop_more all i x h)) (subst P is p, rest));
  }

  pub end : GoesOn P (drop i all) all → length all ≤ i → AllByRecursion P all
  end g h = g.on (subst (AllByRecursion P) (sym (drop_of_length-le all h)) tt)
