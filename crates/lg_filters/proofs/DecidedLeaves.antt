-- Whether a value shows a comparison, or a test for a name of metadata, is decided.
use Rattle.std.proofs.Common.{◌≡◌, ℕ, List, [], Bool, true, false, refl, sym, ap, subst, ◌∙◌}
use Rattle.std.specs.Prelude.{IsUtf8, codes, ℤ}
use Rattle.std.specs.Str.{is_utf8}
use Rattle.std.proofs.lemmas.Str.{IsUtf8-from_is_utf8, is_utf8-from_IsUtf8}
use Rattle.std.proofs.Math.Decide.{map_dec}
use Rattle.lg_containers.specs.AssetGrammar.{is_asset}
use Rattle.lg_json.specs.Tree.{Tree}
use Rattle.lg_json.specs.Tree.Tree.{null, truth, whole, part, text, list, members}
use Rattle.lg_json.specs.Tree.Members.{no_member, member}
use Rattle.lg_types.specs.declared.filters.ListKind.{ListKind}
use Rattle.lg_types.specs.declared.filters.Op.{Op}
use Rattle.lg_types.specs.declared.filters.Field.{Field}
use Rattle.lg_types.specs.declared.filters.Field.TheVariants as field
use Rattle.lg_types.specs.declared.filters.Value.{Value}
use Rattle.lg_types.specs.declared.filters.Value.TheVariants as value
use Rattle.lg_time.specs.Moment.{IsMoment}
use Rattle.lg_views.specs.Tokens.{op_name, field_name}
use Rattle.lg_readings.specs.FilterReadings.{one, compares_field, has_metadata, IsFieldInGrammar, ShowsText, ShowsWhole, ShowsMoment, ShowsTruth, ShowsValue, IsComparison, IsLeaf}
use Rattle.lg_filters.proofs.Moments.{both, either, by_test, dec_bytes, dec_moment}
use Rattle.lg_filters.proofs.FieldNames.{op_of, op_of_name, field_of, field_of_name}
use Rattle.lg_filters.proofs.LeafParts.{same_name, same_value, no_leaf}

dec_true : (b : Bool) → Dec (b ≡ true)
dec_true true = yes refl
dec_true false = no (λ e. cc)

dec_utf8 : (t : List ℕ) → Dec (IsUtf8 t)
dec_utf8 t = by_test (is_utf8 t) (IsUtf8-from_is_utf8 t, is_utf8-from_IsUtf8 t)

dec_grammar : (f : Field) → Dec (IsFieldInGrammar f)
dec_grammar field.Address = yes tt
dec_grammar field.Account = yes tt
dec_grammar field.Source = yes tt
dec_grammar field.Destination = yes tt
dec_grammar field.Reference = yes tt
dec_grammar field.Id = yes tt
dec_grammar field.Timestamp = yes tt
dec_grammar field.Date = yes tt
dec_grammar field.Reverted = yes tt
dec_grammar (field.Metadata name) = dec_utf8 name
dec_grammar (field.Balance asset) = by_test (is_asset asset) (λ e. search, λ h. search)

-- a value that is shown
dec_text : (t : Tree) → Dec ((v : Value) × ShowsText t v)
dec_text null = no (λ h. h.1)
dec_text (truth b) = no (λ h. h.1)
dec_text (whole n) = no (λ h. h.1)
dec_text part = no (λ h. h.1)
dec_text (text t) = map_dec (λ u. (value.Text t, (u, refl))) (λ h. h.1.0) (dec_utf8 t)
dec_text (list ts) = no (λ h. h.1)
dec_text (members ms) = no (λ h. h.1)

dec_whole : (t : Tree) → Dec ((v : Value) × ShowsWhole t v)
dec_whole null = no (λ h. h.1)
dec_whole (truth b) = no (λ h. h.1)
dec_whole (whole n) = yes (value.Whole n, refl)
dec_whole part = no (λ h. h.1)
dec_whole (text t) = no (λ h. h.1)
dec_whole (list ts) = no (λ h. h.1)
dec_whole (members ms) = no (λ h. h.1)

dec_truth : (t : Tree) → Dec ((v : Value) × ShowsTruth t v)
dec_truth null = no (λ h. h.1)
dec_truth (truth b) = yes (value.Truth b, refl)
dec_truth (whole n) = no (λ h. h.1)
dec_truth part = no (λ h. h.1)
dec_truth (text t) = no (λ h. h.1)
dec_truth (list ts) = no (λ h. h.1)
dec_truth (members ms) = no (λ h. h.1)

moment_in : (t : List ℕ) (v : Value) → ShowsMoment (text t) v → (moment : ℤ) × IsMoment t moment
moment_in t (value.Text s) h = absurd h
moment_in t (value.Whole n) h = absurd h
moment_in t (value.Moment moment) h = (moment, h)
moment_in t (value.Truth b) h = absurd h

dec_moment_value : (t : Tree) → Dec ((v : Value) × ShowsMoment t v)
dec_moment_value null = no (λ h. h.1)
dec_moment_value (truth b) = no (λ h. h.1)
dec_moment_value (whole n) = no (λ h. h.1)
dec_moment_value part = no (λ h. h.1)
dec_moment_value (text t) = map_dec (λ h. (value.Moment h.0, h.1)) (λ h. moment_in t h.0 h.1) (dec_moment t)
dec_moment_value (list ts) = no (λ h. h.1)
dec_moment_value (members ms) = no (λ h. h.1)

dec_value : (f : Field) (t : Tree) → Dec ((v : Value) × ShowsValue f t v)
dec_value field.Address t = dec_text t
dec_value field.Account t = dec_text t
dec_value field.Source t = dec_text t
dec_value field.Destination t = dec_text t
dec_value field.Reference t = dec_text t
dec_value field.Id t = dec_whole t
dec_value field.Timestamp t = dec_moment_value t
dec_value field.Date t = dec_moment_value t
dec_value field.Reverted t = dec_truth t
dec_value (field.Metadata name) t = dec_text t
dec_value (field.Balance asset) t = dec_whole t

-- an operator over one member
module _ (kind : ListKind) (name inner : List ℕ) (t : Tree) where
  abbrev op : Op
  op = op_of name

  abbrev f : Field
  f = field_of inner

  record Compared : Type 0 where
    op_is : op_name op ≡ name
    field_is : field_name f ≡ inner
    compared : compares_field kind op f ≡ true
    grammar : IsFieldInGrammar f
    value : (v : Value) × ShowsValue f t v

  dec_compared : Dec Compared
  dec_compared = map_dec (λ h. record { op_is = h.0; field_is = h.1.0; compared = h.1.1.0; grammar = h.1.1.1.0; value = h.1.1.1.1 })
      (λ h. (h.op_is, (h.field_is, (h.compared, (h.grammar, h.value)))))
      (both (dec_bytes (op_name op) name) (both (dec_bytes (field_name f) inner) (both (dec_true (compares_field kind op f)) (both (dec_grammar f) (dec_value f t)))))

  abbrev Comparison : Type 0
  Comparison = (o : Op) × (g : Field) × (v : Value) × IsComparison kind o g v (one name (one inner t))

  to_comparison : Compared → Comparison
  to_comparison h = (op, f, h.value.0, record { compared = h.compared; grammar = h.grammar; shown = t; is = rw (h.op_is, h.field_is) refl; value = h.value.1 })

  of_comparison : Comparison → Compared
  of_comparison h =
      let w = h.3 in
      let n : name ≡ op_name h.0 = same_name _ _ _ _ w.is in
      let m : inner ≡ field_name h.1 = same_name _ _ _ _ (same_value _ _ _ _ w.is) in
      let s : t ≡ w.shown = same_value _ _ _ _ (same_value _ _ _ _ w.is) in
      let o : op ≡ h.0 = ap (λ (l : List ℕ). op_of l) n ∙ op_of_name h.0 in
      let g : f ≡ h.1 = ap (λ (l : List ℕ). field_of l) m ∙ field_of_name h.1 in
      record {
        op_is = ap op_name o ∙ sym n;
        field_is = ap field_name g ∙ sym m;
        compared = ap (λ (x : Op). compares_field kind x f) o ∙ ap (λ (x : Field). compares_field kind h.0 x) g ∙ w.compared;
        grammar = subst IsFieldInGrammar (sym g) w.grammar;
        value = (h.2, subst (λ (x : Field). ShowsValue x t h.2) (sym g) (subst (λ (x : Tree). ShowsValue h.1 x h.2) (sym s) w.value));
      }

  dec_comparison : Dec Comparison
  dec_comparison = map_dec to_comparison of_comparison dec_compared

text_of : Tree → List ℕ
text_of (text t) = t
text_of t = []

module _ (kind : ListKind) (name inner : List ℕ) where
  abbrev Presence : Tree → Type 0
  Presence t = (s : List ℕ) × (has_metadata kind ≡ true) × IsUtf8 s × (one name (one inner t) ≡ one (codes "$exists") (one (codes "metadata") (text s)))

  no_text : (t : Tree) → ((s : List ℕ) → ¬ (t ≡ text s)) → Dec (Presence t)
  no_text t h = no (λ p. h p.0 (same_value _ _ _ _ (same_value _ _ _ _ p.3)))

  abbrev Present : List ℕ → Type 0
  Present t = (has_metadata kind ≡ true) × (IsUtf8 t × ((name ≡ codes "$exists") × (inner ≡ codes "metadata")))

  to_presence : (t : List ℕ) → Present t → Presence (text t)
  to_presence t h = (t, h.0, h.1.0, rw (h.1.1.0, h.1.1.1) refl)

  of_presence : (t : List ℕ) → Presence (text t) → Present t
  unfolding text_of
  of_presence t h =
      let same : t ≡ h.0 = ap text_of (same_value _ _ _ _ (same_value _ _ _ _ h.3)) in
      (h.1, (subst IsUtf8 (sym same) h.2, (same_name _ _ _ _ h.3, same_name _ _ _ _ (same_value _ _ _ _ h.3))))

  dec_presence : (t : Tree) → Dec (Presence t)
  dec_presence null = no_text null (λ s e. cc)
  dec_presence (truth b) = no_text (truth b) (λ s e. cc)
  dec_presence (whole n) = no_text (whole n) (λ s e. cc)
  dec_presence part = no_text part (λ s e. cc)
  dec_presence (text t) = map_dec (to_presence t) (of_presence t) (both (dec_true (has_metadata kind)) (both (dec_utf8 t) (both (dec_bytes name (codes "$exists")) (dec_bytes inner (codes "metadata")))))
  dec_presence (list ts) = no_text (list ts) (λ s e. cc)
  dec_presence (members ms) = no_text (members ms) (λ s e. cc)

-- an operator over anything
pub dec_leaf : (kind : ListKind) (name : List ℕ) (over : Tree) → Dec (IsLeaf kind (one name over))
dec_leaf kind name null = no (no_leaf kind name null (λ n v e. cc))
dec_leaf kind name (truth b) = no (no_leaf kind name (truth b) (λ n v e. cc))
dec_leaf kind name (whole n) = no (no_leaf kind name (whole n) (λ n v e. cc))
dec_leaf kind name part = no (no_leaf kind name part (λ n v e. cc))
dec_leaf kind name (text t) = no (no_leaf kind name (text t) (λ n v e. cc))
dec_leaf kind name (list ts) = no (no_leaf kind name (list ts) (λ n v e. cc))
dec_leaf kind name (members no_member) = no (no_leaf kind name (members no_member) (λ n v e. cc))
dec_leaf kind name (members (member inner t no_member)) = either (dec_comparison kind name inner t) (dec_presence kind name inner t)
dec_leaf kind name (members (member inner t (member a b ms))) = no (no_leaf kind name (members (member inner t (member a b ms))) (λ n v e. cc))
