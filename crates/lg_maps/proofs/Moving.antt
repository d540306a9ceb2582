-- The place of the last entry, found by its name.
use Rattle.std.proofs.Common.{◌≡◌, ◌⊎◌, inl, inr, ℕ, ◌<◌, cond, eqb, List, map, length, get_or, set, sym, ap, ap₂, subst, ◌∙◌, arith}
use Rattle.std.proofs.Math.Seq.{get_or-append_seam}
use Rattle.std.proofs.lemmas.Bool.{cases_eq, cases_order, eq-eqb, ne_eqb}
use Rattle.std.proofs.lemmas.List.{get_or_default}
use Rattle.lg_containers.specs.Places.{IsAt, BelongsAt}
use Rattle.lg_containers.proofs.Placed.{in_range}
use Rattle.lg_maps.specs.Chosen.{chosen, held, IsOrder}
use Rattle.lg_maps.specs.Moved.{moved}
use Rattle.lg_maps.proofs.Chosen.{length-chosen, chosen_at, stands_once, other_names}
use Rattle.lg_maps.proofs.Changed.{set_moved, none_moved}

module _ {V : Type 0} (entries : List (List ℕ × V)) (places : List ℕ) (order : IsOrder entries places) (placed : length places ≡ length entries)
    (last at : ℕ) (entry : List ℕ × V) (there : entry ≡ get_or entries last entry) where
  named : (k : ℕ) → held places k ≡ last → (get_or (chosen places entries) k entry).0 ≡ entry.0
  named k is = ap (λ p. p.0) (chosen_at entries places k entry order.below order.whole ∙ ap (λ h. get_or entries h entry) is ∙ sym there)

  inside : (k : ℕ) → k < length entries → k < length (chosen places entries)
  inside k lt = subst (λ n. k < n) (sym (length-chosen entries places order.whole)) lt

  module _ (place : ℕ) (stands : IsAt entry.0 (chosen places entries) place) where
    place_named : (get_or (chosen places entries) place entry).0 ≡ entry.0
    place_named = ap (λ p. p.0) (ap₂ (λ ps n. get_or ps n entry) stands.parts (sym stands.length_front) ∙ get_or-append_seam stands.front (entry.0, stands.value) stands.back entry)

    within : place < length entries
    within = subst (λ n. place < n) (length-chosen entries places order.whole) (in_range entry.0 (chosen places entries) place stands)

    read : get_or places place 0 ≡ held places place
    read = get_or_default places place 0 place (omega (arith, within, placed))

    none_by : (get_or places place 0 ≡ last → ⊥) → (k : ℕ) → k < length entries → held places k ≡ last → (k ≡ place) ⊎ ((k < place) ⊎ (place < k)) → ⊥
    none_by ne k lt is (inl same) = ne (read ∙ sym (ap (held places) same) ∙ is)
    none_by ne k lt is (inr (inl less)) = other_names (chosen places entries) k place entry order.rising less (inside place within) (named k is ∙ sym place_named)
    none_by ne k lt is (inr (inr more)) = other_names (chosen places entries) place k entry order.rising more (inside k lt) (place_named ∙ sym (named k is))

    found_by : (get_or places place 0 ≡ last) ⊎ (get_or places place 0 ≡ last → ⊥) → cond (eqb (get_or places place 0) last) (set places place at) places ≡ map (moved last at) places
    found_by (inl is) = ap (λ b. cond b (set places place at) places) (eq-eqb _ _ is) ∙ set_moved entries places order last at placed place within (sym read ∙ is)
    found_by (inr ne) =
        ap (λ b. cond b (set places place at) places) (ne_eqb _ _ ne) ∙ none_moved entries places order last at placed (λ k lt is. none_by ne k lt is (cases_order k place))

    pub moved_found : cond (eqb (get_or places place 0) last) (set places place at) places ≡ map (moved last at) places
    moved_found = found_by (cases_eq (get_or places place 0) last)

  pub moved_missing : (place : ℕ) → BelongsAt entry.0 (chosen places entries) place → places ≡ map (moved last at) places
  moved_missing place gap =
      none_moved entries places order last at placed (λ k lt is. stands_once entry.0 (chosen places entries) k place entry order.rising (inside k lt) (named k is) gap)
