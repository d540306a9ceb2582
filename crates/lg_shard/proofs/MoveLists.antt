-- Moves that follow others, and the moves of postings on one account and one asset.
use Rattle.std.proofs.Common.{◌≡◌, ℕ, ◌+◌, ◌<◌, ◌≤◌, ℤ, Bool, true, false, cond, ◌&&◌, List, [], ◌∷◌, ◌++◌, length, get_or, take, drop, map, sum_by, refl, sym, ap, ap₂, subst, ◌∙◌, append_assoc, length-append, arith}
use Rattle.std.specs.List.{flat_map, filter}
use Rattle.std.proofs.lemmas.List.{append-nil, take_more, drop_more, flat_map_more}
use Rattle.std.proofs.lemmas.List.Sums.{sum_by-cons, sum_by_more}
use Rattle.lg_types.specs.declared.moves.Move.{Move}
use Rattle.lg_types.specs.declared.records.Posting.{Posting}
use Rattle.lg_types.specs.Moves.{Placed, what_of, is_of, out_move, in_move, posting_moves, pair_moves}
use Rattle.lg_types.specs.Parts.{has_move}
use Rattle.lg_shard.specs.Accounts.{one_if, only_if}
use Rattle.lg_shard.specs.Holdings.{MovesFollow}
use Rattle.lg_shard.specs.Sides.{is_side, side_moves, posting_count, posting_items}

-- the first of moves that follow, and the others after them
pub MovesFollow-split : (before xs ys : List Move) → MovesFollow before (xs ++ ys) → MovesFollow before xs × MovesFollow (before ++ xs) ys
MovesFollow-split before [] ys h = (tt, subst (λ (l : List Move). MovesFollow l ys) (sym (append-nil before)) h)
MovesFollow-split before (m ∷ xs) ys h =
    let rest = MovesFollow-split (before ++ m ∷ []) xs ys h.2 in
    ((h.0, h.1, rest.0), subst (λ (l : List Move). MovesFollow l ys) (append_assoc before (m ∷ []) xs) rest.1)

length-only_if : (b : Bool) (item : Move) → length (only_if b item) ≡ one_if b
length-only_if true item = refl
length-only_if false item = refl

module _ (s : ℕ) (ledger : List ℕ) (id : ℕ) (inserted effective : ℤ) (a b : List ℕ) where
  pub length-posting_items : (p : Posting) → length (posting_items s ledger id inserted effective a b p) ≡ posting_count s ledger a b p
  length-posting_items p =
      length-append (side_moves s ledger p.source p.asset _ a b) (side_moves s ledger p.destination p.asset _ a b)
      ∙ ap₂ (λ m n. m + n) (length-only_if (is_side s ledger p.source p.asset a b) _) (length-only_if (is_side s ledger p.destination p.asset a b) _)

  pub length-items : (ps : List Posting) → length (flat_map (posting_items s ledger id inserted effective a b) ps) ≡ sum_by (posting_count s ledger a b) ps
  length-items [] = refl
  length-items (p ∷ ps) =
      length-append (posting_items s ledger id inserted effective a b p) (flat_map (posting_items s ledger id inserted effective a b) ps)
      ∙ ap₂ (λ m n. m + n) (length-posting_items p) (length-items ps)
      ∙ sym (sum_by-cons (posting_count s ledger a b) p ps)

  shown : List Placed → List Move
  shown ms = map what_of (filter (is_of a b) ms)

  one_move : (own pair : Bool) (m : Placed) (ms : List Placed) → is_of a b m ≡ pair → shown (cond own (m ∷ ms) ms) ≡ only_if (own && pair) m.what ++ shown ms
  unfolding shown
  one_move true true m ms e = ap (λ t. map what_of (cond t (m ∷ filter (is_of a b) ms) (filter (is_of a b) ms))) e
  one_move true false m ms e = ap (λ t. map what_of (cond t (m ∷ filter (is_of a b) ms) (filter (is_of a b) ms))) e
  one_move false true m ms e = refl
  one_move false false m ms e = refl

  own-items_shown : (ps : List Posting) → shown (filter (has_move s ledger) (flat_map (posting_moves id inserted effective) ps)) ≡ flat_map (posting_items s ledger id inserted effective a b) ps
  unfolding shown
  own-items_shown [] = refl
  own-items_shown (p ∷ ps) =
      let rest : List Placed = filter (has_move s ledger) (flat_map (posting_moves id inserted effective) ps) in
      let out = out_move id inserted effective p in let into = in_move id inserted effective p in
      one_move (has_move s ledger out) (is_of a b out) out (cond (has_move s ledger into) (into ∷ rest) rest) refl
      ∙ ap (λ l. only_if (has_move s ledger out && is_of a b out) out.what ++ l) (one_move (has_move s ledger into) (is_of a b into) into rest refl ∙ ap (λ l. only_if (has_move s ledger into && is_of a b into) into.what ++ l) (own-items_shown ps))
      ∙ sym (append_assoc (only_if (has_move s ledger out && is_of a b out) out.what) (only_if (has_move s ledger into && is_of a b into) into.what) (flat_map (posting_items s ledger id inserted effective a b) ps))

  -- the moves of the postings on the stripe's account and the asset
  pub own-items : (ps : List Posting) → pair_moves (filter (has_move s ledger) (flat_map (posting_moves id inserted effective) ps)) a b ≡ flat_map (posting_items s ledger id inserted effective a b) ps
  unfolding shown
  own-items ps = own-items_shown ps

-- a step of a loop over a list, at the item that it takes
module _ {X : Type 0} (xs : List X) (i : ℕ) (x : X) (within : i < length xs) (is : x ≡ get_or xs i x) where
  pub take-step : take (i + 1) xs ≡ take i xs ++ x ∷ []
  take-step = take_more xs i x within ∙ ap (λ y. take i xs ++ y ∷ []) (sym is)

  pub drop-step : drop i xs ≡ x ∷ drop (i + 1) xs
  drop-step = drop_more xs i x within ∙ ap (λ y. y ∷ drop (i + 1) xs) (sym is)

  pub items-step : {A : Type 0} (f : X → List A) (first mid new : List A) → mid ≡ first ++ flat_map f (take i xs) → new ≡ mid ++ f x → new ≡ first ++ flat_map f (take (i + 1) xs)
  items-step f first mid new e h =
      h ∙ ap (λ l. l ++ f x) e ∙ flat_map_more f first (take i xs) x ∙ ap (λ l. first ++ flat_map f l) (sym take-step)

  pub taken-step : (f : X → ℕ) (first mid new : ℕ) → mid + sum_by f (take i xs) ≡ first → new + f x ≡ mid → new + sum_by f (take (i + 1) xs) ≡ first
  taken-step f first mid new e h =
      let more : sum_by f (take (i + 1) xs) ≡ sum_by f (take i xs) + f x = sum_by_more f xs i x within ∙ ap (λ y. sum_by f (take i xs) + f y) (sym is) in
      omega arith

  pub left-step : (f : X → ℕ) (mid new : ℕ) → sum_by f (drop i xs) ≤ mid → new + f x ≡ mid → sum_by f (drop (i + 1) xs) ≤ new
  left-step f mid new e h =
      let more : sum_by f (drop i xs) ≡ f x + sum_by f (drop (i + 1) xs) = ap (sum_by f) drop-step ∙ sum_by-cons f x (drop (i + 1) xs) in
      omega arith

  pub follows-step : (f : X → List Move) (mid new : List Move) → MovesFollow mid (flat_map f (drop i xs)) → new ≡ mid ++ f x → MovesFollow new (flat_map f (drop (i + 1) xs))
  follows-step f mid new h e =
      subst (λ (l : List Move). MovesFollow l (flat_map f (drop (i + 1) xs))) (sym e)
      (MovesFollow-split mid (f x) (flat_map f (drop (i + 1) xs)) (subst (λ (l : List X). MovesFollow mid (flat_map f l)) drop-step h)).1
