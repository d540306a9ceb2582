-- A value that shows a filter has no fault.
use Rattle.std.proofs.Common.{◌≡◌, inl, inr, ℕ, ◌+◌, List, Option, None, subst, ◌∙◌}
use Rattle.std.specs.Prelude.{codes}
use Rattle.lg_json.specs.Tree.{Tree, Trees}
use Rattle.lg_json.specs.Tree.Trees.{none, item}
use Rattle.lg_types.specs.declared.filters.ListKind.{ListKind}
use Rattle.lg_types.specs.declared.filters.Op.{Op}
use Rattle.lg_types.specs.declared.filters.Op.TheVariants.{Equal, Less, LessEqual, Greater, GreaterEqual}
use Rattle.lg_types.specs.declared.filters.Field.{Field}
use Rattle.lg_types.specs.declared.filters.Value.{Value}
use Rattle.lg_types.specs.declared.filters.Filter.{Filter, All, Compare, Has, Both', Either', Not', Row_of-Filter, end_of-Filter, more_of-Filter}
use Rattle.lg_readings.specs.FilterReadings.{one, IsFilter, AreFilters, IsComparison, IsLeaf, LeafFault, FilterFault, ItemsFault, FirstOf}
use Rattle.lg_readings.specs.Paths.{Path, below, at_item}
use Rattle.lg_views.specs.Tokens.{op_name}

no_leaf_fault : (kind : ListKind) (path : Path) (t : Tree) (r : Option (List ℕ)) → IsLeaf kind t → LeafFault kind path t r → r ≡ None
no_leaf_fault kind path t r leaf h = elim h [ inl x ↦ x.1 | inr x ↦ absurd (x.0 leaf) ]

at_op : (kind : ListKind) (op : Op) (inner : Tree) (path : Path) (r : Option (List ℕ)) → FilterFault kind path (one (op_name op) inner) r → LeafFault kind (below path (op_name op)) (one (op_name op) inner) r
at_op kind Equal inner path r k = k
at_op kind Less inner path r k = k
at_op kind LessEqual inner path r k = k
at_op kind Greater inner path r k = k
at_op kind GreaterEqual inner path r k = k

comparison : (kind : ListKind) (op : Op) (f : Field) (v : Value) (t : Tree) (path : Path) (r : Option (List ℕ)) → IsComparison kind op f v t → FilterFault kind path t r → r ≡ None
comparison kind op f v t path r h k =
    no_leaf_fault kind (below path (op_name op)) _ r (subst (IsLeaf kind) h.is (inl (op, f, v, h))) (at_op kind op _ path r (subst (λ (x : Tree). FilterFault kind path x r) h.is k))

mutual
  pub faultless : (kind : ListKind) (f : Filter) (t : Tree) (path : Path) (r : Option (List ℕ)) → IsFilter kind f t → FilterFault kind path t r → r ≡ None
  faultless kind All t path r h k = subst (λ (x : Tree). FilterFault kind path x r) h k
  faultless kind (Compare op f v) t path r h k = comparison kind op f v t path r h k
  faultless kind (Has name) t path r h k =
      no_leaf_fault kind (below path (codes "$exists")) _ r (subst (IsLeaf kind) h.2 (inr (name, h.0, h.1, h.2))) (subst (λ (x : Tree). FilterFault kind path x r) h.2 k)
  faultless kind (Both' shape filters) t path r h k =
      all_faultless kind filters h.0 (below path (codes "$and")) 0 r h.2 (subst (λ (x : Tree). FilterFault kind path x r) h.1 k)
  faultless kind (Either' shape filters) t path r h k =
      all_faultless kind filters h.0 (below path (codes "$or")) 0 r h.2 (subst (λ (x : Tree). FilterFault kind path x r) h.1 k)
  faultless kind (Not' shape filter) t path r h k =
      one_faultless kind filter h.0 (below path (codes "$not")) r h.2 (subst (λ (x : Tree). FilterFault kind path x r) h.1 k)

  one_faultless : {m : _} (kind : ListKind) (row : Row_of-Filter m) (t : Tree) (path : Path) (r : Option (List ℕ)) → AreFilters kind row (item t none) → FilterFault kind path t r → r ≡ None
  one_faultless kind end_of-Filter t path r h k = absurd (cc)
  one_faultless kind (more_of-Filter f fs) t path r h k = faultless kind f t path r h.0 k

  all_faultless : {m : _} (kind : ListKind) (row : Row_of-Filter m) (ts : Trees) (path : Path) (place : ℕ) (r : Option (List ℕ)) → AreFilters kind row ts → ItemsFault kind path place ts r → r ≡ None
  all_faultless kind end_of-Filter ts path place r h k = subst (λ (x : Trees). ItemsFault kind path place x r) h k
  all_faultless kind (more_of-Filter f fs) none path place r h k = absurd h
  all_faultless kind (more_of-Filter f fs) (item t ts) path place r h k =
      let first : k.0 ≡ None = faultless kind f t (at_item path place) k.0 h.0 k.2 in
      let later : k.1 ≡ None = all_faultless kind fs ts path (place + 1) k.1 h.1 k.3 in
      subst (λ (o : Option (List ℕ)). FirstOf o k.1 r) first k.4 ∙ later
