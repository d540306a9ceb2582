-- What holds of each account or each pair of a transaction holds of both sides of each posting.
use Rattle.std.proofs.Common.{◌≡◌, ℕ, zero, suc, ◌<◌, ℤ, List, [], ◌∷◌, map, length, get_or, sym, subst, arith}
use Rattle.std.specs.Prelude.{All}
use Rattle.std.specs.List.{flat_map}
use Rattle.lg_types.specs.declared.records.Posting.{Posting}
use Rattle.lg_types.specs.Known.{posting_accounts}
use Rattle.lg_types.specs.Lists.{Each}
use Rattle.lg_types.specs.Moves.{posting_moves}
use Rattle.lg_views.specs.Pairs.{pair_of}
use Rattle.lg_commit_volumes.specs.Lent.{posting_pairs}

pub each_of_all : {X : Type 0} (P : X → Type 0) (xs : List X) → All P xs → Each P xs
each_of_all P [] h = tt
each_of_all P (x ∷ xs) h = (h 0 x (omega arith), each_of_all P xs (λ k d less. h (suc k) d (omega (arith, less))))

pub at_place : {X : Type 0} (P : X → Type 0) (xs : List X) (i : ℕ) (d : X) → Each P xs → i < length xs → P (get_or xs i d)
at_place P [] i d h less = absurd (omega arith)
at_place P (x ∷ xs) zero d h less = h.0
at_place P (x ∷ xs) (suc i) d h less = at_place P xs i d h.1 (omega (arith, less))

-- an item of the list
pub each_at : {X : Type 0} (P : X → Type 0) (xs : List X) (i : ℕ) (x : X) → Each P xs → i < length xs → x ≡ get_or xs i x → P x
each_at P xs i x h less is = subst P (sym is) (at_place P xs i x h less)

-- a step of a loop over a list that is another
pub item_of : {X : Type 0} (xs ys : List X) (i : ℕ) (x : X) → xs ≡ ys → i < length xs → x ≡ get_or xs i x → (i < length ys) × (x ≡ get_or ys i x)
item_of xs ys i x same less is = (subst (λ zs. i < length zs) same less, subst (λ zs. x ≡ get_or zs i x) same is)

module _ (P : List ℕ → Type 0) where
  accounts_split : (ps : List Posting) → Each P (flat_map posting_accounts ps) → Each (λ (p : Posting). P p.source × P p.destination) ps
  accounts_split [] h = tt
  accounts_split (p ∷ ps) h = ((h.0, h.1.0), accounts_split ps h.1.1)

  -- both accounts of a posting
  pub account_sides : (ps : List Posting) (i : ℕ) (p : Posting) → All P (flat_map posting_accounts ps) → i < length ps → p ≡ get_or ps i p → P p.source × P p.destination
  account_sides ps i p h less is = each_at (λ (q : Posting). P q.source × P q.destination) ps i p (accounts_split ps (each_of_all P (flat_map posting_accounts ps) h)) less is

  -- the accounts of the pairs of the moves
  pub pair_accounts : (id : ℕ) (inserted effective : ℤ) (ps : List Posting) → Each P (flat_map posting_accounts ps) → Each (λ (pair : List ℕ × List ℕ). P pair.0) (map pair_of (flat_map (posting_moves id inserted effective) ps))
  pair_accounts id inserted effective [] h = tt
  pair_accounts id inserted effective (p ∷ ps) h = (h.0, (h.1.0, pair_accounts id inserted effective ps h.1.1))

module _ (P : List ℕ × List ℕ → Type 0) where
  pairs_split : (ps : List Posting) → Each P (flat_map posting_pairs ps) → Each (λ (p : Posting). P (p.source, p.asset) × P (p.destination, p.asset)) ps
  pairs_split [] h = tt
  pairs_split (p ∷ ps) h = ((h.0, h.1.0), pairs_split ps h.1.1)

  -- both pairs of a posting
  pub pair_sides : (ps : List Posting) (i : ℕ) (p : Posting) → All P (flat_map posting_pairs ps) → i < length ps → p ≡ get_or ps i p → P (p.source, p.asset) × P (p.destination, p.asset)
  pair_sides ps i p h less is = each_at (λ (q : Posting). P (q.source, q.asset) × P (q.destination, q.asset)) ps i p (pairs_split ps (each_of_all P (flat_map posting_pairs ps) h)) less is
