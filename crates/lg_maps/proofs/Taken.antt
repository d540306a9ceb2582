-- An entry taken out: what is left of the entries and places, and its value.
use Rattle.std.proofs.Common.{◌≡◌, inr, ℕ, ◌+◌, ◌-◌, ◌<◌, List, map, length, get_or, remove, sym, ap, subst, ◌∙◌, arith}
use Rattle.std.proofs.lemmas.List.{get_or_default}
use Rattle.lg_maps.specs.Chosen.{chosen, held, IsOrder, IsOneLess}
use Rattle.lg_maps.specs.Moved.{moved}
use Rattle.lg_maps.proofs.Chosen.{chosen_at, chosen_none, held_below, placed_all}
use Rattle.lg_maps.proofs.Changed.{below-kept, length-kept, taken_chosen}

module _ {V : Type 0} (entries : List (List ℕ × V)) (places : List ℕ) (none : length places ≡ 0) (place : ℕ) (within : place < length entries) where
  pub few_rest : (new : List (List ℕ × V)) → new ≡ remove entries place → chosen places new ≡ remove (chosen places entries) place
  few_rest new is = chosen_none new places none ∙ is ∙ ap (λ es. remove es place) (sym (chosen_none entries places none))

  pub few_value : (value : List ℕ × V) → value ≡ get_or entries place value → (e : List ℕ × V) → value.1 ≡ (get_or (chosen places entries) place e).1
  few_value value is e = ap (λ p. p.1) (is ∙ get_or_default entries place value e within ∙ ap (λ es. get_or es place e) (sym (chosen_none entries places none)))

module _ {V : Type 0} (entries : List (List ℕ × V)) (places : List ℕ) (order : IsOrder entries places) (some : 0 < length places) (place : ℕ) (within : place < length entries) (at n : ℕ) (at_is : at ≡ held places place) (n_is : n ≡ length entries) where
  placed : length places ≡ length entries
  placed = placed_all entries places order.whole some

  pub taken_inside : at < length entries
  taken_inside = subst (λ h. h < length entries) (sym at_is) (held_below entries places place order.below order.whole within)

  pub taken_value : (value : List ℕ × V) → value ≡ get_or entries at value → (e : List ℕ × V) → value.1 ≡ (get_or (chosen places entries) place e).1
  taken_value value is e =
      ap (λ p. p.1) (is ∙ get_or_default entries at value e taken_inside ∙ ap (λ h. get_or entries h e) at_is ∙ sym (chosen_at entries places place e order.below order.whole))

  module _ (new : List (List ℕ × V)) (shorter : length new + 1 ≡ length entries)
      (there : (d : List ℕ × V) → at + 1 < n → get_or new at d ≡ get_or entries (n - 1) d)
      (others : (k : ℕ) (d : List ℕ × V) → (k ≡ at → ⊥) → k + 1 < n → get_or new k d ≡ get_or entries k d)
      (kept : List ℕ) (kept_is : kept ≡ remove (map (moved (length entries - 1) at) places) place) where
    is_last : (length entries - 1) + 1 ≡ length entries
    is_last = omega (arith, within)

    last_there : (d : List ℕ × V) → held places place + 1 < length entries → get_or new (held places place) d ≡ get_or entries (length entries - 1) d
    last_there d lt = ap (λ h. get_or new h d) (sym at_is) ∙ there d (omega (arith, at_is, n_is, lt)) ∙ ap (λ m. get_or entries (m - 1) d) n_is

    same_others : (k : ℕ) (d : List ℕ × V) → (k ≡ held places place → ⊥) → k + 1 < length entries → get_or new k d ≡ get_or entries k d
    same_others k d ne lt = others k d (λ h. ne (h ∙ at_is)) (omega (arith, n_is, lt))

    kept_so : kept ≡ remove (map (moved (length entries - 1) (held places place)) places) place
    kept_so = kept_is ∙ ap (λ h. remove (map (moved (length entries - 1) h) places) place) at_is

    pub taken_rest : chosen kept new ≡ remove (chosen places entries) place
    taken_rest = taken_chosen entries places order place (length entries - 1) within placed is_last new (omega (arith, shorter, is_last)) last_there same_others kept kept_so

    pub taken_below : (k : ℕ) → k < length kept → get_or kept k 0 < length new
    taken_below = below-kept entries places order place (length entries - 1) within placed is_last new (omega (arith, shorter, is_last)) last_there same_others kept kept_so

    pub taken_one : IsOneLess (length places) (length kept)
    taken_one =
        inr (omega (arith, placed, shorter, length-kept entries places order place (length entries - 1) within placed is_last new (omega (arith, shorter, is_last)) last_there same_others kept kept_so))
