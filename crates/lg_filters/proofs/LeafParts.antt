-- What an operator over one field is, by its parts.
use Rattle.std.proofs.Common.{◌≡◌, ℕ, inl, inr, List, [], ◌∷◌, length, true, false, refl, sym, ap}
use Rattle.std.specs.Prelude.{codes}
use Rattle.lg_json.specs.Tree.{Tree}
use Rattle.lg_json.specs.Tree.Tree.{members}
use Rattle.lg_json.specs.Tree.Members.{member}
use Rattle.lg_json.specs.declared.json.Member.{Member}
use Rattle.lg_types.specs.declared.filters.ListKind.{ListKind}
use Rattle.lg_types.specs.declared.filters.Op.{Op}
use Rattle.lg_types.specs.declared.filters.Field.{Field}
use Rattle.lg_types.specs.declared.filters.Value.{Value}
use Rattle.lg_views.specs.Tokens.{op_name, field_name}
use Rattle.lg_readings.specs.FilterReadings.{one, IsLeaf, IsComparison, compares_field, ShowsValue}
use Rattle.lg_filters.specs.Parts.{NamesOp, NamesField}
use Rattle.lg_filters.proofs.FieldNames.{same_field, same_op, compares_op}
use Rattle.lg_codec.specs.Seen.{members_seen}

name_in : Tree → List ℕ
name_in (members (member n v ms)) = n
name_in t = []

value_in : Tree → Tree
value_in (members (member n v ms)) = v
value_in t = t

pub same_name : (a b : List ℕ) (s t : Tree) → one a s ≡ one b t → a ≡ b
unfolding name_in
same_name a b s t e = ap name_in e

pub same_value : (a b : List ℕ) (s t : Tree) → one a s ≡ one b t → s ≡ t
unfolding value_in
same_value a b s t e = ap value_in e

-- an operator over what is no object of one member
pub no_leaf : (kind : ListKind) (name : List ℕ) (over : Tree) → ((n : List ℕ) (v : Tree) → ¬ (over ≡ one n v)) → ¬ (IsLeaf kind (one name over))
no_leaf kind name over h leaf = elim leaf [
  | inl w ↦ h _ _ (same_value _ _ _ _ w.3.is)
  | inr w ↦ h _ _ (same_value _ _ _ _ w.3)
]

pub not_one : (ms : List Member) → ¬ (length ms ≡ 1) → (n : List ℕ) (v : Tree) → ¬ (members (members_seen ms) ≡ one n v)
not_one [] h n v e = cc
not_one (m ∷ []) h n v e = h refl
not_one (m ∷ k ∷ ms) h n v e = cc

-- a name that no operator has
pub no_operator : (kind : ListKind) (name : List ℕ) (over : Tree) → ((op : Op) → ¬ (NamesOp name op)) → ¬ (name ≡ codes "$exists") → ¬ (IsLeaf kind (one name over))
no_operator kind name over others none leaf = elim leaf [
  | inl w ↦ others w.0 (sym (same_name _ _ _ _ w.3.is))
  | inr w ↦ none (same_name _ _ _ _ w.3)
]

-- a name that no field has
pub no_field : (kind : ListKind) (op : Op) (name : List ℕ) (t : Tree) → ((f : Field) → ¬ (NamesField name f)) → ¬ (IsLeaf kind (one (op_name op) (one name t)))
no_field kind op name t none leaf = elim leaf [
  | inl w ↦ none w.1 (sym (same_name _ _ _ _ (same_value _ _ _ _ w.3.is)), w.3.grammar)
  | inr w ↦ compares_op op (same_name _ _ _ _ w.3)
]

pub record Compares (kind : ListKind) (op : Op) (f : Field) (t : Tree) : Type 0 where
  pub compared : compares_field kind op f ≡ true
  pub shows : (v : Value) × ShowsValue f t v

-- a comparison of an operator and a field that are known
of_comparison : (kind : ListKind) (op op' : Op) (f f' : Field) (v : Value) (t : Tree) → IsComparison kind op' f' v (one (op_name op) (one (field_name f) t)) → Compares kind op f t
of_comparison kind op op' f f' v t w =
    let o : op ≡ op' = same_op op op' (same_name _ _ _ _ w.is) in
    let e : f ≡ f' = same_field f f' (same_name _ _ _ _ (same_value _ _ _ _ w.is)) in
    let s : t ≡ w.shown = same_value _ _ _ _ (same_value _ _ _ _ w.is) in
    record {
      compared = rw (o, e) w.compared;
      shows = (v, rw (e, s) w.value);
    }

pub of_leaf : (kind : ListKind) (op : Op) (f : Field) (t : Tree) → IsLeaf kind (one (op_name op) (one (field_name f) t)) → Compares kind op f t
of_leaf kind op f t leaf = elim leaf [
  | inl w ↦ of_comparison kind op w.0 f w.1 w.2 t w.3
  | inr w ↦ absurd (compares_op op (same_name _ _ _ _ w.3))
]

pub not_compared : (kind : ListKind) (op : Op) (f : Field) (t : Tree) → compares_field kind op f ≡ false → ¬ (IsLeaf kind (one (op_name op) (one (field_name f) t)))
not_compared kind op f t e leaf = let h = (of_leaf kind op f t leaf).compared in cc

pub no_value : (kind : ListKind) (op : Op) (f : Field) (t : Tree) → ((v : Value) → ¬ (ShowsValue f t v)) → ¬ (IsLeaf kind (one (op_name op) (one (field_name f) t)))
no_value kind op f t none leaf = let h = (of_leaf kind op f t leaf).shows in none h.0 h.1
