-- Totals stay within the limit, posting by posting.
use Rattle.std.proofs.Common.{◌≡◌, ℕ, ◌+◌, ◌^◌, ◌<◌, ◌≤◌, ℤ, Bool, true, false, cond, ◌&&◌, ◌||◌, List, [], ◌∷◌, ◌++◌, map, Option, Some, None, refl, sym, ap, subst, ◌∙◌, append_assoc, arith}
use Rattle.std.specs.Prelude.{if◌then◌else◌}
use Rattle.std.specs.List.{flat_map, sum_by}
use Rattle.std.specs.Str.{bytes_eq}
use Rattle.std.proofs.lemmas.Bool.{leb-false}
use Rattle.std.proofs.lemmas.List.{append-nil}
use Rattle.std.proofs.lemmas.List.Sums.{sum_by-cons}
use Rattle.std.proofs.lemmas.Slice.Eq.{bytes_eq-Decides}
use Rattle.lg_base.specs.Volumes.{sum_of, IsWithinLimit}
use Rattle.lg_types.specs.declared.moves.Move.{Move}
use Rattle.lg_types.specs.declared.records.Posting.{Posting}
use Rattle.lg_types.specs.declared.refusals.Refusal.TheVariants.{Limit}
use Rattle.lg_types.specs.Moves.{Placed, what_of, out_move, in_move, posting_moves, pair_moves, volumes, total}
use Rattle.lg_types.specs.Tally.{amount_in, amount_out, if_passing, tally}
use Rattle.lg_types.specs.Trial.{passes_limit, tried_moves, is_over, limit_from}
use Rattle.lg_types.specs.MoveLaws.{IsWithin, posting_volumes}
use Rattle.lg_types.proofs.MoveSums.{same_volumes, volumes-append}

-- ---- one posting

one_of : (id : ℕ) (inserted effective : ℤ) (p : Posting) (c d : Bool) → tally (λ _. true) (map what_of (cond c (out_move id inserted effective p ∷ cond d (in_move id inserted effective p ∷ []) []) (cond d (in_move id inserted effective p ∷ []) [])))
    ≡ record { input = cond d p.amount 0; output = cond c p.amount 0 }
one_of id inserted effective p true true = same_volumes _ _ _ _ (omega arith) (omega arith)
one_of id inserted effective p true false = same_volumes _ _ _ _ (omega arith) (omega arith)
one_of id inserted effective p false true = same_volumes _ _ _ _ (omega arith) (omega arith)
one_of id inserted effective p false false = refl

pub total-posting : (id : ℕ) (inserted effective : ℤ) (p : Posting) (account asset : List ℕ) → total (posting_moves id inserted effective p) account asset ≡ posting_volumes account asset p
total-posting id inserted effective p account asset = one_of id inserted effective p (bytes_eq p.source account && bytes_eq p.asset asset) (bytes_eq p.destination account && bytes_eq p.asset asset)

-- no total looks at the transaction and the dates of a move
pub total-postings : (id : ℕ) (inserted effective : ℤ) (ps : List Posting) (account asset : List ℕ) → total (flat_map (posting_moves id inserted effective) ps) account asset ≡ total (flat_map tried_moves ps) account asset
total-postings id inserted effective [] account asset = refl
total-postings id inserted effective (p ∷ ps) account asset =
    volumes-append (posting_moves id inserted effective p) (flat_map (posting_moves id inserted effective) ps) (λ _. true) account asset
    ∙ ap (λ v. sum_of v (total (flat_map (posting_moves id inserted effective) ps) account asset)) (total-posting id inserted effective p account asset)
    ∙ ap (sum_of (posting_volumes account asset p)) (total-postings id inserted effective ps account asset)
    ∙ ap (λ v. sum_of v (total (flat_map tried_moves ps) account asset)) (sym (total-posting 0 _ _ p account asset))
    ∙ sym (volumes-append (tried_moves p) (flat_map tried_moves ps) (λ _. true) account asset)

pub total-tried : (ms : List Placed) (id : ℕ) (inserted effective : ℤ) (ps : List Posting) (account asset : List ℕ) → total (ms ++ flat_map (posting_moves id inserted effective) ps) account asset ≡ total (ms ++ flat_map tried_moves ps) account asset
total-tried ms id inserted effective ps account asset =
    volumes-append ms (flat_map (posting_moves id inserted effective) ps) (λ _. true) account asset
    ∙ ap (sum_of (total ms account asset)) (total-postings id inserted effective ps account asset)
    ∙ sym (volumes-append ms (flat_map tried_moves ps) (λ _. true) account asset)

-- ---- the limit

not_over : (a b : Bool) → (a || b) ≡ false → (a ≡ false) × (b ≡ false)
not_over true b h = absurd (let f : true ≡ false = h in cc)
not_over false b h = (refl, h)

both_true : (a b : Bool) → (a && b) ≡ true → (a ≡ true) × (b ≡ true)
both_true true b h = (refl, h)
both_true false b h = absurd (let f : false ≡ true = h in cc)

below_limit : (n : ℕ) → passes_limit n ≡ false → n < 2 ^ 127
below_limit n h = leb-false (2 ^ 127) n h

same : (x y : List ℕ) → bytes_eq x y ≡ true → x ≡ y
same x y h = (bytes_eq-Decides x y).0 h

-- an amount that is added where a test holds keeps a bound that holds there with it
added : (b : Bool) (n m bound : ℕ) → n < bound → (b ≡ true → n + m < bound) → n + cond b m 0 < bound
added true n m bound h k = k refl
added false n m bound h k = omega (arith, h)

pub within-more : (ms : List Placed) (p : Posting) → IsWithin ms → is_over ms p ≡ false → IsWithin (ms ++ tried_moves p)
within-more ms p h over = record {
  each = λ account asset. subst IsWithinLimit (sym (volumes-append ms (tried_moves p) (λ _. true) account asset ∙ ap (sum_of (total ms account asset)) (total-posting 0 _ _ p account asset))) (record {
    input = added (bytes_eq p.destination account && bytes_eq p.asset asset) (total ms account asset).input p.amount (2 ^ 127) (h.each account asset).input
        (λ t. let eqs = both_true (bytes_eq p.destination account) (bytes_eq p.asset asset) t in
        subst (λ a. (total ms a asset).input + p.amount < 2 ^ 127) (same p.destination account eqs.0)
        (subst (λ s. (total ms p.destination s).input + p.amount < 2 ^ 127) (same p.asset asset eqs.1) (below_limit _ limits.1)));
    output = added (bytes_eq p.source account && bytes_eq p.asset asset) (total ms account asset).output p.amount (2 ^ 127) (h.each account asset).output
        (λ t. let eqs = both_true (bytes_eq p.source account) (bytes_eq p.asset asset) t in
        subst (λ a. (total ms a asset).output + p.amount < 2 ^ 127) (same p.source account eqs.0)
        (subst (λ s. (total ms p.source s).output + p.amount < 2 ^ 127) (same p.asset asset eqs.1) (below_limit _ limits.0)));
  });
}
  where
    limits : (passes_limit ((total ms p.source p.asset).output + p.amount) ≡ false) × (passes_limit ((total ms p.destination p.asset).input + p.amount) ≡ false)
    limits = not_over _ _ over

if_none : {A : Type 0} (b : Bool) (x : A) (o : Option A) → (if b then Some x else o) ≡ None → (b ≡ false) × (o ≡ None)
if_none {A} true x o h = absurd (let f : ◌≡◌ {A = Option A} (Some x) None = h in cc)
if_none false x o h = (refl, h)

-- postings that don't pass the limit leave all totals within it
pub within-tried : (ms : List Placed) (k : ℕ) (ps : List Posting) → IsWithin ms → limit_from ms k ps ≡ None → IsWithin (ms ++ flat_map tried_moves ps)
within-tried ms k [] h none = subst IsWithin (sym (append-nil ms)) h
within-tried ms k (p ∷ ps) h none =
    let parts = if_none (is_over ms p) (Limit k) (limit_from (ms ++ tried_moves p) (k + 1) ps) none in
    subst IsWithin (append_assoc ms (tried_moves p) (flat_map tried_moves ps)) (within-tried (ms ++ tried_moves p) (k + 1) ps (within-more ms p h parts.0) parts.1)

-- ---- a part of the moves

part-below : (test : Move → Bool) (part : Move → ℕ) (ms : List Move) → sum_by (if_passing test part) ms ≤ sum_by (if_passing (λ _. true) part) ms
part-below test part [] = omega arith
part-below test part (m ∷ ms) =
    let rest = part-below test part ms in
    let x = sum_by-cons (if_passing test part) m ms in
    let y = sum_by-cons (if_passing (λ _. true) part) m ms in
    let one : if_passing test part m ≤ part m = at_most (test m) (part m) in
    omega (arith, rest, x, y, one)
  where
    at_most : (b : Bool) (n : ℕ) → cond b n 0 ≤ n
    at_most true n = omega arith
    at_most false n = omega arith

pub volumes-below : (ms : List Placed) (test : Move → Bool) (account asset : List ℕ) → ((volumes ms test account asset).input ≤ (total ms account asset).input) × ((volumes ms test account asset).output ≤ (total ms account asset).output)
volumes-below ms test account asset = (part-below test amount_in (pair_moves ms account asset), part-below test amount_out (pair_moves ms account asset))

-- volumes under any test are within the limit where the totals are
pub within-test : (ms : List Placed) (test : Move → Bool) (account asset : List ℕ) → IsWithin ms → IsWithinLimit (volumes ms test account asset)
within-test ms test account asset h =
    let below = volumes-below ms test account asset in
    let limit = h.each account asset in
    record { input = (let a = below.0 in let b = limit.input in omega (arith, a, b)); output = (let a = below.1 in let b = limit.output in omega (arith, a, b)) }
