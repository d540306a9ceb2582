-- A list that is cut at the first element that passes.
use Rattle.std.proofs.Common.{◌≡◌, ℕ, ◌+◌, ◌-◌, ◌<◌, ◌≤◌, Bool, true, false, cond, nat_lt, List, [], ◌∷◌, length, take, drop, All, Option, Some, None, position, refl, ap, sym, subst, ◌∙◌, arith, take_all}
use Rattle.std.specs.List.{slice_split, position_or_len}
use Rattle.std.proofs.lemmas.List.{drop_all}
use Rattle.std.proofs.lemmas.List.Splits.{slice_split_first, slice_split_none, length-slice_split}
use Rattle.lg_readings.specs.Targets.{is_slash, segments_behind}
use Rattle.lg_routes.specs.Seen.{decoded}
use Rattle.std.proofs.lemmas.List.Sums.{fails_before_first}
use Rattle.std.proofs.lemmas.List.Elements.{All-from_get_or}
use Rattle.std.proofs.lemmas.Grind.{common_steps}

place_some : (a n end : ℕ) → cond (nat_lt a n) (Some a) None ≡ Some end → (a ≡ end) × (a < n)
place_some a n end e = (grind (arith, common_steps, e), grind (arith, common_steps, e))

place_none : (a n : ℕ) → cond (nat_lt a n) (Some a) None ≡ None → n ≤ a
place_none a n e = grind (arith, common_steps, e)

-- what follows a place, as a range up to the end
whole_rest : (n : ℕ) (bs : List ℕ) → take (length bs - n) (drop n bs) ≡ drop n bs
whole_rest n bs = grind (arith, common_steps)

module _ (p : ℕ → Bool) (bs : List ℕ) where
  pub before_at : (end : ℕ) → position p bs ≡ Some end → take end bs ≡ take (position_or_len p bs) bs
  before_at end found = ap (λ (n : ℕ). take n bs) (sym (place_some (position_or_len p bs) (length bs) end found).0)

  pub after_at : (end : ℕ) → position p bs ≡ Some end → take (length bs - (end + 1)) (drop (end + 1) bs) ≡ drop (position_or_len p bs + 1) bs
  after_at end found = whole_rest (end + 1) bs ∙ ap (λ (n : ℕ). drop (n + 1) bs) (sym (place_some (position_or_len p bs) (length bs) end found).0)

  pub before_none : position p bs ≡ None → bs ≡ take (position_or_len p bs) bs
  before_none absent = sym (take_all (position_or_len p bs) bs (place_none (position_or_len p bs) (length bs) absent))

  pub after_none : position p bs ≡ None → [] ≡ drop (position_or_len p bs + 1) bs
  after_none absent = let past = place_none (position_or_len p bs) (length bs) absent in sym (drop_all (position_or_len p bs + 1) bs (omega arith))

  pub within : (end : ℕ) → position p bs ≡ Some end → end < length bs
  within end found = let facts = place_some (position_or_len p bs) (length bs) end found in omega arith

  -- the first piece, and what is left behind it
  pub cut_at : (end : ℕ) → position p bs ≡ Some end → slice_split p bs ≡ take end bs ∷ slice_split p (take (length bs - (end + 1)) (drop (end + 1) bs))
  cut_at end found =
      let facts = place_some (position_or_len p bs) (length bs) end found in
      subst (λ (rest : List ℕ). slice_split p bs ≡ take end bs ∷ slice_split p rest) (sym (whole_rest (end + 1) bs))
      (subst (λ (n : ℕ). slice_split p bs ≡ take n bs ∷ slice_split p (drop (n + 1) bs)) facts.0 (slice_split_first p bs 0 facts.1))

  pub cut_none : position p bs ≡ None → slice_split p bs ≡ bs ∷ []
  cut_none absent =
      let past = place_none (position_or_len p bs) (length bs) absent in
      slice_split_none p bs (All-from_get_or (λ b. p b ≡ false) bs 0 (λ k below. fails_before_first p bs k 0 (omega arith)))

-- pieces behind a first slash
pub behind_first : (pieces : List (List ℕ)) → 0 < length pieces → segments_behind ([] ∷ pieces) ≡ decoded pieces
behind_first [] some = absurd (omega arith)
behind_first (s ∷ ss) some = refl

pub some_piece : (p : ℕ → Bool) (bs : List ℕ) → 0 < length (slice_split p bs)
some_piece p bs = omega (arith, length-slice_split p bs)

pub behind_slash : (path behind : List ℕ) (first : ℕ) → path ≡ first ∷ behind → first ≡ 47 → decoded (slice_split is_slash behind) ≡ segments_behind (slice_split is_slash path)
behind_slash path behind first e is =
    subst (λ (bs : List ℕ). decoded (slice_split is_slash behind) ≡ segments_behind (slice_split is_slash bs)) (sym e)
    (subst (λ (b : ℕ). decoded (slice_split is_slash behind) ≡ segments_behind (slice_split is_slash (b ∷ behind))) (sym is)
    (sym (behind_first (slice_split is_slash behind) (some_piece is_slash behind))))
