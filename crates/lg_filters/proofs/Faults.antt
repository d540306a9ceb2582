-- Each value has its first fault, or none.
use Rattle.std.proofs.Common.{ℕ, ◌+◌, inl, inr, List, Bool, true, false, refl}
use Rattle.std.specs.Prelude.{Option, Some, None, MatchBool, codes}
use Rattle.std.specs.Str.{bytes_eq}
use Rattle.lg_json.specs.Tree.{Tree, Trees}
use Rattle.lg_json.specs.Tree.Tree.{null, truth, whole, part, text, list, members}
use Rattle.lg_json.specs.Tree.Trees.{none, item}
use Rattle.lg_json.specs.Tree.Members.{no_member, member}
use Rattle.lg_types.specs.declared.filters.ListKind.{ListKind}
use Rattle.lg_readings.specs.Paths.{Path, below, at_item, path_text}
use Rattle.lg_readings.specs.FilterReadings.{one, is_of_list, LeafFault, FirstOf, FilterFault, ListFault, ItemsFault}
use Rattle.lg_filters.proofs.DecidedLeaves.{dec_leaf}

-- a fault of a kind
abbrev pub HasFault : (Option (List ℕ) → Type 0) → Type 0
HasFault Fault = (r : Option (List ℕ)) × Fault r

matched : (b : Bool) {P Q : Option (List ℕ) → Type 0} → HasFault P → HasFault Q → HasFault (λ r. MatchBool b (P r) (Q r))
matched true p q = p
matched false p q = q

leaf_fault : (kind : ListKind) (path : Path) (name : List ℕ) (over : Tree) → HasFault (LeafFault kind path (one name over))
leaf_fault kind path name over = elim (dec_leaf kind name over) [
  | yes leaf ↦ (None, inl (leaf, refl))
  | no n ↦ (Some (path_text path), inr (n, refl))
]

first_of : (first later : Option (List ℕ)) → HasFault (λ r. FirstOf first later r)
first_of (Some path) later = (Some path, refl)
first_of None later = (later, refl)

items_of : (kind : ListKind) (path : Path) (place : ℕ) (t : Tree) (ts : Trees) → HasFault (FilterFault kind (at_item path place) t) → HasFault (ItemsFault kind path (place + 1) ts) → HasFault (ItemsFault kind path place (item t ts))
items_of kind path place t ts h k =
    let f = first_of h.0 k.0 in
    (f.0, (h.0, k.0, h.1, k.1, f.1))

mutual
  pub filter_fault : (kind : ListKind) (path : Path) (t : Tree) → HasFault (FilterFault kind path t)
  filter_fault kind path null = (Some (path_text path), refl)
  filter_fault kind path (truth b) = (Some (path_text path), refl)
  filter_fault kind path (whole n) = (Some (path_text path), refl)
  filter_fault kind path part = (Some (path_text path), refl)
  filter_fault kind path (text t) = (Some (path_text path), refl)
  filter_fault kind path (list ts) = (Some (path_text path), refl)
  filter_fault kind path (members no_member) = (None, refl)
  filter_fault kind path (members (member name over no_member)) =
      matched (is_of_list name) (list_fault kind (below path name) over)
      (matched (bytes_eq name (codes "$not")) (filter_fault kind (below path name) over) (leaf_fault kind (below path name) name over))
  filter_fault kind path (members (member name over (member a b ms))) = (Some (path_text path), refl)

  list_fault : (kind : ListKind) (path : Path) (t : Tree) → HasFault (ListFault kind path t)
  list_fault kind path null = (Some (path_text path), refl)
  list_fault kind path (truth b) = (Some (path_text path), refl)
  list_fault kind path (whole n) = (Some (path_text path), refl)
  list_fault kind path part = (Some (path_text path), refl)
  list_fault kind path (text t) = (Some (path_text path), refl)
  list_fault kind path (list ts) = items_fault kind path 0 ts
  list_fault kind path (members ms) = (Some (path_text path), refl)

  pub items_fault : (kind : ListKind) (path : Path) (place : ℕ) (ts : Trees) → HasFault (ItemsFault kind path place ts)
  items_fault kind path place none = (None, refl)
  items_fault kind path place (item t ts) =
      items_of kind path place t ts (filter_fault kind (at_item path place) t) (items_fault kind path (place + 1) ts)
