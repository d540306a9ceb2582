-- The next pair behind a place.
use Rattle.std.proofs.Common.{◌≡◌, ℕ, suc, ◌+◌, true, false, cond, IsTrue, List, [], ◌∷◌, ◌++◌, length, Some, Ordering, Less, Equal, Greater, slice_get, refl, sym, ap, ap₂, ◌∙◌, arith}
use Rattle.std.proofs.lemmas.Bool.{and_parts}
use Rattle.std.proofs.lemmas.Cmp.{tied_itself}
use Rattle.std.specs.Cmp.Lexicographic.{nat_list_cmp_total}
use Rattle.std.specs.List.{find}
use Rattle.std.specs.Ordering.{is_lt, is_gt}
use Rattle.lg_containers.specs.NameOrder.{name_order}
use Rattle.lg_containers.specs.Places.{all_less, all_greater, IsAt, BelongsAt}

not_greater : (r : Ordering) → is_lt r ≡ true → is_gt r ≡ false
not_greater Less h = refl
not_greater Equal h = refl
not_greater Greater h = absurd cc

module _ {X : Type 0} where
  get_seam : (front back : List X) → slice_get (front ++ back) (length front) ≡ slice_get back 0
  get_seam [] back = refl
  get_seam (e ∷ es) back = get_seam es back

  get_next : (front : List X) (x : X) (back : List X) → slice_get (front ++ x ∷ back) (suc (length front)) ≡ slice_get back 0
  get_next [] x back = refl
  get_next (e ∷ es) x back = get_next es x back

module _ {V : Type 0} (name : List ℕ) where
  past_less : (front back : List (List ℕ × V)) → IsTrue (all_less name front) → find (λ p. is_gt (name_order p.0 name)) (front ++ back) ≡ find (λ p. is_gt (name_order p.0 name)) back
  past_less [] back h = refl
  past_less (e ∷ es) back h =
      ap (λ b. cond b (Some e) (find (λ p. is_gt (name_order p.0 name)) (es ++ back))) (not_greater (name_order e.0 name) (and_parts _ _ h).0)
      ∙ past_less es back (and_parts _ _ h).1

  first_greater : (back : List (List ℕ × V)) → IsTrue (all_greater name back) → find (λ p. is_gt (name_order p.0 name)) back ≡ slice_get back 0
  first_greater [] h = refl
  first_greater (e ∷ es) h = ap (λ b. cond b (Some e) (find (λ p. is_gt (name_order p.0 name)) es)) (and_parts _ _ h).0

  past_itself : (v : V) (back : List (List ℕ × V)) → find (λ p. is_gt (name_order p.0 name)) ((name, v) ∷ back) ≡ find (λ p. is_gt (name_order p.0 name)) back
  past_itself v back = ap (λ r. cond (is_gt r) (Some (name, v)) (find (λ p. is_gt (name_order p.0 name)) back)) (tied_itself nat_list_cmp_total name)

  pub behind_here : (pairs : List (List ℕ × V)) (place : ℕ) → IsAt name pairs place → slice_get pairs (place + 1) ≡ find (λ p. is_gt (name_order p.0 name)) pairs
  behind_here pairs place at =
      ap₂ slice_get at.parts (omega (arith, at.length_front))
      ∙ get_next at.front (name, at.value) at.back
      ∙ sym (ap (find (λ p. is_gt (name_order p.0 name))) at.parts ∙ past_less at.front ((name, at.value) ∷ at.back) at.less ∙ past_itself at.value at.back ∙ first_greater at.back at.greater)

  pub behind_gap : (pairs : List (List ℕ × V)) (place : ℕ) → BelongsAt name pairs place → slice_get pairs place ≡ find (λ p. is_gt (name_order p.0 name)) pairs
  behind_gap pairs place at =
      ap₂ slice_get at.parts (sym at.length_front)
      ∙ get_seam at.front at.back
      ∙ sym (ap (find (λ p. is_gt (name_order p.0 name))) at.parts ∙ past_less at.front at.back at.less ∙ first_greater at.back at.greater)
