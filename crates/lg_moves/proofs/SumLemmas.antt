-- Sums over lists, and what sums of moves say of them.
use Rattle.std.proofs.Common.{◌≡◌, ℕ, ◌+◌, ◌^◌, ◌<◌, ◌≤◌, ◌⊎◌, inl, inr, Bool, true, false, cond, List, [], ◌∷◌, length, take, get_or, refl, arith, ap, sym, subst, ◌∙◌}
use Rattle.std.specs.List.{sum_by, All}
use Rattle.std.proofs.lemmas.List.{length-take}
use Rattle.std.proofs.lemmas.List.Sums.{sum_by-cons, sum_by-le-sum_by, sum_by-take-le, sum_by_more}
use Rattle.std.proofs.lemmas.List.Elements.{All-head, All-tail}
use Rattle.lg_types.specs.declared.moves.Move.{Move}
use Rattle.lg_moves.specs.declared.sums.Sums.{Sums}
use Rattle.lg_base.specs.declared.amounts.Volumes.{Volumes}
use Rattle.lg_base.specs.Volumes.{IsWithinLimit}
use Rattle.lg_types.specs.Tally.{amount_in, amount_out, if_passing, tally}
use Rattle.lg_moves.specs.Sums.{AreSums, IsBounded, sums_with}

-- equal terms have equal sums
pub sum_by_same : {X : Type 0} (f g : X → ℕ) (xs : List X) → All (λ x. f x ≡ g x) xs → sum_by f xs ≡ sum_by g xs
sum_by_same f g [] h = refl
sum_by_same f g (x ∷ xs) h =
    omega (arith, sum_by-cons f x xs, sum_by-cons g x xs, All-head (λ y. f y ≡ g y) x xs h, sum_by_same f g xs (All-tail (λ y. f y ≡ g y) x xs h))

pub sum_by_alike : {X : Type 0} (f g : X → ℕ) (xs : List X) → ((x : X) → f x ≡ g x) → sum_by f xs ≡ sum_by g xs
sum_by_alike f g xs h = sum_by_same f g xs (λ k d l. h _)

-- terms that are all 0
pub sum_by_none : {X : Type 0} (f : X → ℕ) (xs : List X) → All (λ x. f x ≡ 0) xs → sum_by f xs ≡ 0
sum_by_none f [] h = refl
sum_by_none f (x ∷ xs) h =
    omega (arith, sum_by-cons f x xs, All-head (λ y. f y ≡ 0) x xs h, sum_by_none f xs (All-tail (λ y. f y ≡ 0) x xs h))

-- ones add up to the length
pub sum_by_ones : {X : Type 0} (xs : List X) → sum_by (λ _. 1) xs ≡ length xs
sum_by_ones [] = refl
sum_by_ones {X} (x ∷ xs) = omega (arith, sum_by-cons {X = X} (λ _. 1) x xs, sum_by_ones xs)

-- sums of two terms
pub sum_by_both : {X : Type 0} (f g : X → ℕ) (xs : List X) → sum_by (λ x. f x + g x) xs ≡ sum_by f xs + sum_by g xs
sum_by_both f g [] = refl
sum_by_both f g (x ∷ xs) =
    omega (arith, sum_by-cons f x xs, sum_by-cons g x xs, sum_by-cons (λ y. f y + g y) x xs, sum_by_both f g xs)

-- the sums of one total are those of an equal one
pub same_total : {s : Sums} {t u : (Move → ℕ) → ℕ} → AreSums s t → ((part : Move → ℕ) → t part ≡ u part) → AreSums s u
same_total {s} {t} {u} h e = record {
  input = h.input ∙ e amount_in;
  output = h.output ∙ e amount_out;
  count = h.count ∙ e (λ _. 1);
}

-- with one more move
pub with_move : {s : Sums} {t : (Move → ℕ) → ℕ} → AreSums s t → (m : Move) → AreSums (sums_with s m) (λ part. t part + part m)
with_move {s} {t} h m = record {
  input = ap (λ n. n + amount_in m) h.input;
  output = ap (λ n. n + amount_out m) h.output;
  count = ap (λ n. n + 1) h.count;
}

-- a test passes or fails
pub true_or_false : (x : Bool) → (x ≡ true) ⊎ (x ≡ false)
true_or_false true = inl refl
true_or_false false = inr refl

-- a choice of a number or nothing
pub cond_le : (b : Bool) (n : ℕ) → cond b n 0 ≤ n
cond_le true n = omega arith
cond_le false n = omega arith

-- sums of parts that are within the whole parts are within the limits too, with room for one more move
pub record FitsOneMore (s : Sums) : Type 0 where
  pub input : s.input < 2 ^ 127
  pub output : s.output < 2 ^ 127
  pub count : s.count + 1 < 2 ^ 64

pub fits_one_more : {s : Sums} {t u : (Move → ℕ) → ℕ} → AreSums s t → IsBounded u → ((part : Move → ℕ) → t part ≤ u part) → t (λ _. 1) + 1 ≤ u (λ _. 1) → FitsOneMore s
fits_one_more {s} {t} {u} h b le c = record {
  input = omega (arith, h.input, b.input, le amount_in);
  output = omega (arith, h.output, b.output, le amount_out);
  count = omega (arith, h.count, b.count, c);
}

-- what is bounded stays so for smaller totals
pub bounded_below : {t u : (Move → ℕ) → ℕ} → IsBounded u → ((part : Move → ℕ) → t part ≤ u part) → IsBounded t
bounded_below h le = record {
  input = omega (arith, h.input, le amount_in);
  output = omega (arith, h.output, le amount_out);
  count = omega (arith, h.count, le (λ _. 1));
}

-- a part of the moves that pass is within the whole part
pub passing_le : (test : Move → Bool) (part : Move → ℕ) (m : Move) → if_passing test part m ≤ part m
passing_le test part m = cond_le (test m) (part m)

pub sum_passing_le : (test : Move → Bool) (part : Move → ℕ) (ms : List Move) → sum_by (if_passing test part) ms ≤ sum_by part ms
sum_passing_le test part ms = sum_by-le-sum_by (if_passing test part) part ms (passing_le test part)

abbrev same_volumes : ℕ → ℕ → Volumes
same_volumes i o = record { input = i; output = o }

-- sums are the volumes of the moves that pass
pub tally_of_sums : (s : Sums) (test : Move → Bool) (ms : List Move) (v : Volumes) → v ≡ record { input = s.input; output = s.output } →
    AreSums s (λ part. sum_by (if_passing test part) ms) → v ≡ tally test ms
tally_of_sums s test ms v is h =
    is ∙ (ap (λ (n : ℕ). same_volumes n s.output) h.input ∙ ap (λ (n : ℕ). same_volumes (sum_by (if_passing test amount_in) ms) n) h.output)

-- volumes of moves that pass are within the limit where all moves are
pub tally_within : (s : Sums) (test : Move → Bool) (ms : List Move) (v : Volumes) → v ≡ record { input = s.input; output = s.output } →
    AreSums s (λ part. sum_by (if_passing test part) ms) → IsBounded (λ part. sum_by part ms) → IsWithinLimit v
tally_within s test ms v is h b = rw is (record {
  input = omega (arith, h.input, b.input, sum_passing_le test amount_in ms);
  output = omega (arith, h.output, b.output, sum_passing_le test amount_out ms);
})

-- one more move of a list
pub passing_fits : (test : Move → Bool) (ms : List Move) (i : ℕ) (s : Sums) → i < length ms → IsBounded (λ part. sum_by part ms) → AreSums s (λ part. sum_by (if_passing test part) (take i ms)) → FitsOneMore s
passing_fits test ms i s lt all h =
    fits_one_more h all
    (λ part. omega (arith, sum_passing_le test part (take i ms), sum_by-take-le part ms i))
    (let n : sum_by (λ (_ : Move). 1) ms ≡ length ms = sum_by_ones ms in
    let k : sum_by (λ (_ : Move). 1) (take i ms) ≡ length (take i ms) = sum_by_ones (take i ms) in
    omega (arith, sum_passing_le test (λ _. 1) (take i ms), n, k, length-take i ms))

pub passing_more : (test : Move → Bool) (ms : List Move) (i : ℕ) (s : Sums) (m : Move) → i < length ms → ((d : Move) → m ≡ get_or ms i d) →
    AreSums s (λ part. sum_by (if_passing test part) (take i ms) + if_passing test part m) → AreSums s (λ part. sum_by (if_passing test part) (take (i + 1) ms))
passing_more test ms i s m lt is h =
    same_total h (λ part. subst (λ (z : Move). sum_by (if_passing test part) (take i ms) + if_passing test part z ≡ sum_by (if_passing test part) (take (i + 1) ms)) (sym (is m)) (sym (sum_by_more (if_passing test part) ms i m lt)))

-- two sums together are those of both totals
pub plus_sums : {s u : Sums} {t v : (Move → ℕ) → ℕ} → AreSums s t → AreSums u v → (r : Sums) → r ≡ record { input = s.input + u.input; output = s.output + u.output; count = s.count + u.count } → AreSums r (λ part. t part + v part)
plus_sums {s} {u} {t} {v} a b r is = rw is (record {
  input = omega (arith, a.input, b.input);
  output = omega (arith, a.output, b.output);
  count = omega (arith, a.count, b.count);
})

-- they fit where both totals are within a bounded one
pub record FitTogether (s u : Sums) : Type 0 where
  pub input : s.input + u.input < 2 ^ 128
  pub output : s.output + u.output < 2 ^ 128
  pub count : s.count + u.count < 2 ^ 64

pub fit_together : {s u : Sums} {t v w : (Move → ℕ) → ℕ} → AreSums s t → AreSums u v → IsBounded w → ((part : Move → ℕ) → t part + v part ≤ w part) → FitTogether s u
fit_together a b h le = record {
  input = omega (arith, a.input, b.input, h.input, le amount_in);
  output = omega (arith, a.output, b.output, h.output, le amount_out);
  count = omega (arith, a.count, b.count, h.count, le (λ _. 1));
}
