-- The order of names: from name to name no later one comes before an earlier one.
use Rattle.std.proofs.Common.{◌≡◌, ℕ, true, false, List, Ordering, Less, Equal, Greater, refl, ap, ◌∙◌}
use Rattle.std.specs.Ordering.{is_gt, ordering_reverse}
use Rattle.std.proofs.lemmas.Cmp.{nat_list_cmp_total}
use Rattle.lg_containers.specs.NameOrder.{name_order}

reversed : (r : Ordering) → ordering_reverse (ordering_reverse r) ≡ r
reversed Less = refl
reversed Equal = refl
reversed Greater = refl

other_way : (x y : List ℕ) (r : Ordering) → name_order x y ≡ r → name_order y x ≡ ordering_reverse r
other_way x y r h = nat_list_cmp_total.antisymm y x ∙ ap ordering_reverse h

module _ (x y z : List ℕ) where
  chained : (r s : Ordering) → name_order x y ≡ r → name_order y z ≡ s → is_gt r ≡ false → is_gt s ≡ false → is_gt (name_order x z) ≡ false
  chained Equal s h k p q = ap is_gt (nat_list_cmp_total.congr x y z h ∙ k) ∙ q
  chained Less Less h k p q = ap is_gt (nat_list_cmp_total.trans x y z h k)
  chained Less Equal h k p q =
      ap is_gt (other_way z x Greater (nat_list_cmp_total.congr z y x (other_way y z Equal k) ∙ other_way x y Less h))
  chained Less Greater h k p q = absurd (let no : true ≡ false = q in cc)
  chained Greater s h k p q = absurd (let no : true ≡ false = p in cc)

  -- none of three names stands before an earlier one
  pub no_later : is_gt (name_order x y) ≡ false → is_gt (name_order y z) ≡ false → is_gt (name_order x z) ≡ false
  no_later p q = chained (name_order x y) (name_order y z) refl refl p q

greater_only : (r : Ordering) → is_gt r ≡ true → is_gt (ordering_reverse r) ≡ false
greater_only Greater h = refl
greater_only Less h = absurd (let no : false ≡ true = h in cc)
greater_only Equal h = absurd (let no : false ≡ true = h in cc)

-- where one stands after another, the other doesn't stand after it
pub turned : (x y : List ℕ) → is_gt (name_order x y) ≡ true → is_gt (name_order y x) ≡ false
turned x y h = ap is_gt (nat_list_cmp_total.antisymm y x) ∙ greater_only (name_order x y) h
