-- Filters that one value shows have one text.
use Rattle.std.proofs.Common.{◌≡◌, ℕ, Bool, true, false, ◌||◌, List, [], ◌∷◌, ◌++◌, refl, sym, ap, subst, ◌∙◌, arith}
use Rattle.std.specs.Prelude.{codes, if◌then◌else◌}
use Rattle.std.specs.Str.{bytes_eq}
use Rattle.lg_json.specs.Tree.{Tree, Trees}
use Rattle.lg_json.specs.Tree.Tree.{null, truth, whole, part, text, list, members}
use Rattle.lg_json.specs.Tree.Trees.{none, item}
use Rattle.lg_json.specs.Tree.Members.{no_member, member}
use Rattle.lg_time.specs.Moment.{IsMoment}
use Rattle.lg_time.proofs.Facts.{moment_unique}
use Rattle.lg_types.specs.declared.filters.ListKind.{ListKind}
use Rattle.lg_types.specs.declared.filters.Op.{Op}
use Rattle.lg_types.specs.declared.filters.Op.TheVariants.{Equal, Less, LessEqual, Greater, GreaterEqual}
use Rattle.lg_types.specs.declared.filters.Field.{Field}
use Rattle.lg_types.specs.declared.filters.Field.TheVariants as field
use Rattle.lg_types.specs.declared.filters.Value.{Value}
use Rattle.lg_types.specs.declared.filters.Value.TheVariants as value
use Rattle.lg_types.specs.declared.filters.Filter.{Filter, All, Compare, Has, Both', Either', Not', Row_of-Filter, end_of-Filter, more_of-Filter}
use Rattle.lg_readings.specs.FilterReadings.{one, IsComparison, IsFilter, AreFilters, ShowsText, ShowsWhole, ShowsMoment, ShowsTruth, ShowsValue}
use Rattle.lg_views.specs.Tokens.{op_name, field_name, value_text, one_member, filter_text, filters_text, after_commas}

-- ---- what stands in an object of one member

abbrev name_in : Tree → List ℕ
name_in (members (member name t no_member)) = name
name_in t = []

abbrev inside : Tree → Tree
inside (members (member name t no_member)) = t
inside t = null

abbrev list_in : Tree → Trees
list_in (list ts) = ts
list_in t = none

abbrev text_in : Tree → List ℕ
text_in (text t) = t
text_in t = []

same_inside : (t : Tree) (name other : List ℕ) (a b : Tree) → t ≡ one name a → t ≡ one other b → a ≡ b
same_inside t name other a b h k = ap inside (sym h ∙ k)

same_name : (t : Tree) (name other : List ℕ) (a b : Tree) → t ≡ one name a → t ≡ one other b → name ≡ other
same_name t name other a b h k = ap name_in (sym h ∙ k)

-- ---- values that one tree shows

abbrev is_moment_field : Field → Bool
is_moment_field field.Timestamp = true
is_moment_field field.Date = true
is_moment_field f = false

abbrev is_moment_name : List ℕ → Bool
is_moment_name name = bytes_eq name (codes "timestamp") || bytes_eq name (codes "date")

moment_name : (f : Field) → is_moment_name (field_name f) ≡ is_moment_field f
moment_name field.Address = refl
moment_name field.Account = refl
moment_name field.Source = refl
moment_name field.Destination = refl
moment_name field.Reference = refl
moment_name field.Id = refl
moment_name field.Timestamp = refl
moment_name field.Date = refl
moment_name field.Reverted = refl
moment_name (field.Metadata name) = refl
moment_name (field.Balance asset) = refl

-- the value that a tree shows, of a field of moments or of another
abbrev Shown : Bool → Tree → Value → Type 0
Shown true (text t) v = (moment : _) × IsMoment t moment × (v ≡ value.Moment moment)
Shown false (text t) v = v ≡ value.Text t
Shown b (whole n) v = v ≡ value.Whole n
Shown b (truth x) v = v ≡ value.Truth x
Shown b t v = ⊥

text_shown : (t : Tree) (v : Value) → ShowsText t v → Shown false t v
text_shown null v h = absurd h
text_shown (truth b) v h = absurd h
text_shown (whole n) v h = absurd h
text_shown part v h = absurd h
text_shown (list ts) v h = absurd h
text_shown (members ms) v h = absurd h
text_shown (text t) v h = h.1

whole_shown : (t : Tree) (v : Value) → ShowsWhole t v → Shown false t v
whole_shown null v h = absurd h
whole_shown (truth b) v h = absurd h
whole_shown part v h = absurd h
whole_shown (text t) v h = absurd h
whole_shown (list ts) v h = absurd h
whole_shown (members ms) v h = absurd h
whole_shown (whole n) v h = h

truth_shown : (t : Tree) (v : Value) → ShowsTruth t v → Shown false t v
truth_shown null v h = absurd h
truth_shown (whole n) v h = absurd h
truth_shown part v h = absurd h
truth_shown (text t) v h = absurd h
truth_shown (list ts) v h = absurd h
truth_shown (members ms) v h = absurd h
truth_shown (truth b) v h = h

moment_shown : (t : Tree) (v : Value) → ShowsMoment t v → Shown true t v
moment_shown null v h = absurd h
moment_shown (truth b) v h = absurd h
moment_shown (whole n) v h = absurd h
moment_shown part v h = absurd h
moment_shown (list ts) v h = absurd h
moment_shown (members ms) v h = absurd h
moment_shown (text t) (value.Text x) h = absurd h
moment_shown (text t) (value.Whole n) h = absurd h
moment_shown (text t) (value.Truth b) h = absurd h
moment_shown (text t) (value.Moment moment) h = (moment, h, refl)

value_shown : (f : Field) (t : Tree) (v : Value) → ShowsValue f t v → Shown (is_moment_field f) t v
value_shown field.Address t v h = text_shown t v h
value_shown field.Account t v h = text_shown t v h
value_shown field.Source t v h = text_shown t v h
value_shown field.Destination t v h = text_shown t v h
value_shown field.Reference t v h = text_shown t v h
value_shown field.Id t v h = whole_shown t v h
value_shown field.Timestamp t v h = moment_shown t v h
value_shown field.Date t v h = moment_shown t v h
value_shown field.Reverted t v h = truth_shown t v h
value_shown (field.Metadata name) t v h = text_shown t v h
value_shown (field.Balance asset) t v h = whole_shown t v h

one_value : (b : Bool) (t : Tree) (v w : Value) → Shown b t v → Shown b t w → v ≡ w
one_value true (text t) v w h k = h.2 ∙ ap value.Moment (moment_unique t h.0 k.0 h.1 k.1) ∙ sym k.2
one_value false (text t) v w h k = h ∙ sym k
one_value true (whole n) v w h k = h ∙ sym k
one_value false (whole n) v w h k = h ∙ sym k
one_value true (truth x) v w h k = h ∙ sym k
one_value false (truth x) v w h k = h ∙ sym k
one_value true null v w h k = absurd h
one_value false null v w h k = absurd h
one_value true part v w h k = absurd h
one_value false part v w h k = absurd h
one_value true (list ts) v w h k = absurd h
one_value false (list ts) v w h k = absurd h
one_value true (members ms) v w h k = absurd h
one_value false (members ms) v w h k = absurd h

compared_alike : (kind : ListKind) (t : Tree) (op other : Op) (f g : Field) (v w : Value) → IsComparison kind op f v t → IsComparison kind other g w t → filter_text (Compare op f v) ≡ filter_text (Compare other g w)
compared_alike kind t op other f g v w h k =
    let ops : op_name op ≡ op_name other = same_name t (op_name op) (op_name other) (one (field_name f) h.shown) (one (field_name g) k.shown) h.is k.is in
    let within : one (field_name f) h.shown ≡ one (field_name g) k.shown = same_inside t (op_name op) (op_name other) (one (field_name f) h.shown) (one (field_name g) k.shown) h.is k.is in
    let fields : field_name f ≡ field_name g = ap name_in within in
    let shown : h.shown ≡ k.shown = ap inside within in
    let moments : is_moment_field f ≡ is_moment_field g = sym (moment_name f) ∙ ap is_moment_name fields ∙ moment_name g in
    let first : Shown (is_moment_field g) k.shown v = subst (λ (b : Bool). Shown b k.shown v) moments (subst (λ (s : Tree). Shown (is_moment_field f) s v) shown (value_shown f h.shown v h.value)) in
    let values : v ≡ w = one_value (is_moment_field g) k.shown v w first (value_shown g k.shown w k.value) in
    λ i. one_member (ops i) (one_member (fields i) (value_text (values i)))

-- ---- the form of a filter shows in its value

abbrev form_of_name : List ℕ → ℕ
form_of_name name =
    (if bytes_eq name (codes "$exists") then 2
    else (if bytes_eq name (codes "$and") then 3
    else (if bytes_eq name (codes "$or") then 4
    else (if bytes_eq name (codes "$not") then 5
    else 1))))

abbrev form_of : Tree → ℕ
form_of (members no_member) = 0
form_of (members (member name t no_member)) = form_of_name name
form_of t = 6

abbrev form : Filter → ℕ
form All = 0
form (Compare op f v) = 1
form (Has name) = 2
form (Both' shape filters) = 3
form (Either' shape filters) = 4
form (Not' shape filters) = 5

form_of_op : (op : Op) → form_of_name (op_name op) ≡ 1
form_of_op Equal = refl
form_of_op Less = refl
form_of_op LessEqual = refl
form_of_op Greater = refl
form_of_op GreaterEqual = refl

form_shows : (kind : ListKind) (f : Filter) (t : Tree) → IsFilter kind f t → form_of t ≡ form f
form_shows kind All t h = ap form_of h
form_shows kind (Compare op f v) t h = ap form_of h.is ∙ form_of_op op
form_shows kind (Has name) t h = ap form_of h.2
form_shows kind (Both' shape filters) t h = ap form_of h.1
form_shows kind (Either' shape filters) t h = ap form_of h.1
form_shows kind (Not' shape filters) t h = ap form_of h.1

one_form : (kind : ListKind) (t : Tree) (f g : Filter) → IsFilter kind f t → IsFilter kind g t → form f ≡ form g
one_form kind t f g h k = sym (form_shows kind f t h) ∙ form_shows kind g t k

-- ---- filters

-- filters one after another
record AreAlike {m n : _} (fs : Row_of-Filter m) (gs : Row_of-Filter n) : Type 0 where
  first : filters_text fs ≡ filters_text gs
  others : after_commas fs ≡ after_commas gs

mutual
  pub filters_have_one_text : (kind : ListKind) (t : Tree) (f g : Filter) → IsFilter kind f t → IsFilter kind g t → filter_text f ≡ filter_text g
  filters_have_one_text kind t All All h k = refl
  filters_have_one_text kind t All (Compare b_op b_field b_value) h k = absurd (let e : 0 ≡ 1 = one_form kind t All (Compare b_op b_field b_value) h k in omega arith)
  filters_have_one_text kind t All (Has b_name) h k = absurd (let e : 0 ≡ 2 = one_form kind t All (Has b_name) h k in omega arith)
  filters_have_one_text kind t All (Both' b_shape b_filters) h k = absurd (let e : 0 ≡ 3 = one_form kind t All (Both' b_shape b_filters) h k in omega arith)
  filters_have_one_text kind t All (Either' b_shape b_filters) h k = absurd (let e : 0 ≡ 4 = one_form kind t All (Either' b_shape b_filters) h k in omega arith)
  filters_have_one_text kind t All (Not' b_shape b_filters) h k = absurd (let e : 0 ≡ 5 = one_form kind t All (Not' b_shape b_filters) h k in omega arith)
  filters_have_one_text kind t (Compare a_op a_field a_value) All h k = absurd (let e : 1 ≡ 0 = one_form kind t (Compare a_op a_field a_value) All h k in omega arith)
  filters_have_one_text kind t (Compare a_op a_field a_value) (Compare b_op b_field b_value) h k = compared_alike kind t a_op b_op a_field b_field a_value b_value h k
  filters_have_one_text kind t (Compare a_op a_field a_value) (Has b_name) h k = absurd (let e : 1 ≡ 2 = one_form kind t (Compare a_op a_field a_value) (Has b_name) h k in omega arith)
  filters_have_one_text kind t (Compare a_op a_field a_value) (Both' b_shape b_filters) h k = absurd (let e : 1 ≡ 3 = one_form kind t (Compare a_op a_field a_value) (Both' b_shape b_filters) h k in omega arith)
  filters_have_one_text kind t (Compare a_op a_field a_value) (Either' b_shape b_filters) h k = absurd (let e : 1 ≡ 4 = one_form kind t (Compare a_op a_field a_value) (Either' b_shape b_filters) h k in omega arith)
  filters_have_one_text kind t (Compare a_op a_field a_value) (Not' b_shape b_filters) h k = absurd (let e : 1 ≡ 5 = one_form kind t (Compare a_op a_field a_value) (Not' b_shape b_filters) h k in omega arith)
  filters_have_one_text kind t (Has a_name) All h k = absurd (let e : 2 ≡ 0 = one_form kind t (Has a_name) All h k in omega arith)
  filters_have_one_text kind t (Has a_name) (Compare b_op b_field b_value) h k = absurd (let e : 2 ≡ 1 = one_form kind t (Has a_name) (Compare b_op b_field b_value) h k in omega arith)
  filters_have_one_text kind t (Has a_name) (Has b_name) h k =
      let within : one (codes "metadata") (text a_name) ≡ one (codes "metadata") (text b_name) = same_inside t (codes "$exists") (codes "$exists") (one (codes "metadata") (text a_name)) (one (codes "metadata") (text b_name)) h.2 k.2 in
      ap (λ (name : List ℕ). filter_text (Has name)) (ap (λ (s : Tree). text_in (inside s)) within)
  filters_have_one_text kind t (Has a_name) (Both' b_shape b_filters) h k = absurd (let e : 2 ≡ 3 = one_form kind t (Has a_name) (Both' b_shape b_filters) h k in omega arith)
  filters_have_one_text kind t (Has a_name) (Either' b_shape b_filters) h k = absurd (let e : 2 ≡ 4 = one_form kind t (Has a_name) (Either' b_shape b_filters) h k in omega arith)
  filters_have_one_text kind t (Has a_name) (Not' b_shape b_filters) h k = absurd (let e : 2 ≡ 5 = one_form kind t (Has a_name) (Not' b_shape b_filters) h k in omega arith)
  filters_have_one_text kind t (Both' a_shape a_filters) All h k = absurd (let e : 3 ≡ 0 = one_form kind t (Both' a_shape a_filters) All h k in omega arith)
  filters_have_one_text kind t (Both' a_shape a_filters) (Compare b_op b_field b_value) h k = absurd (let e : 3 ≡ 1 = one_form kind t (Both' a_shape a_filters) (Compare b_op b_field b_value) h k in omega arith)
  filters_have_one_text kind t (Both' a_shape a_filters) (Has b_name) h k = absurd (let e : 3 ≡ 2 = one_form kind t (Both' a_shape a_filters) (Has b_name) h k in omega arith)
  filters_have_one_text kind t (Both' a_shape a_filters) (Both' b_shape b_filters) h k =
      let same : h.0 ≡ k.0 = ap list_in (same_inside t (codes "$and") (codes "$and") (list h.0) (list k.0) h.1 k.1) in
      let alike : AreAlike a_filters b_filters = all_alike kind k.0 a_filters b_filters (subst (AreFilters kind a_filters) same h.2) k.2 in
      ap (λ (l : List ℕ). one_member (codes "$and") (91 ∷ (l ++ (93 ∷ [])))) alike.first
  filters_have_one_text kind t (Both' a_shape a_filters) (Either' b_shape b_filters) h k = absurd (let e : 3 ≡ 4 = one_form kind t (Both' a_shape a_filters) (Either' b_shape b_filters) h k in omega arith)
  filters_have_one_text kind t (Both' a_shape a_filters) (Not' b_shape b_filters) h k = absurd (let e : 3 ≡ 5 = one_form kind t (Both' a_shape a_filters) (Not' b_shape b_filters) h k in omega arith)
  filters_have_one_text kind t (Either' a_shape a_filters) All h k = absurd (let e : 4 ≡ 0 = one_form kind t (Either' a_shape a_filters) All h k in omega arith)
  filters_have_one_text kind t (Either' a_shape a_filters) (Compare b_op b_field b_value) h k = absurd (let e : 4 ≡ 1 = one_form kind t (Either' a_shape a_filters) (Compare b_op b_field b_value) h k in omega arith)
  filters_have_one_text kind t (Either' a_shape a_filters) (Has b_name) h k = absurd (let e : 4 ≡ 2 = one_form kind t (Either' a_shape a_filters) (Has b_name) h k in omega arith)
  filters_have_one_text kind t (Either' a_shape a_filters) (Both' b_shape b_filters) h k = absurd (let e : 4 ≡ 3 = one_form kind t (Either' a_shape a_filters) (Both' b_shape b_filters) h k in omega arith)
  filters_have_one_text kind t (Either' a_shape a_filters) (Either' b_shape b_filters) h k =
      let same : h.0 ≡ k.0 = ap list_in (same_inside t (codes "$or") (codes "$or") (list h.0) (list k.0) h.1 k.1) in
      let alike : AreAlike a_filters b_filters = all_alike kind k.0 a_filters b_filters (subst (AreFilters kind a_filters) same h.2) k.2 in
      ap (λ (l : List ℕ). one_member (codes "$or") (91 ∷ (l ++ (93 ∷ [])))) alike.first
  filters_have_one_text kind t (Either' a_shape a_filters) (Not' b_shape b_filters) h k = absurd (let e : 4 ≡ 5 = one_form kind t (Either' a_shape a_filters) (Not' b_shape b_filters) h k in omega arith)
  filters_have_one_text kind t (Not' a_shape a_filters) All h k = absurd (let e : 5 ≡ 0 = one_form kind t (Not' a_shape a_filters) All h k in omega arith)
  filters_have_one_text kind t (Not' a_shape a_filters) (Compare b_op b_field b_value) h k = absurd (let e : 5 ≡ 1 = one_form kind t (Not' a_shape a_filters) (Compare b_op b_field b_value) h k in omega arith)
  filters_have_one_text kind t (Not' a_shape a_filters) (Has b_name) h k = absurd (let e : 5 ≡ 2 = one_form kind t (Not' a_shape a_filters) (Has b_name) h k in omega arith)
  filters_have_one_text kind t (Not' a_shape a_filters) (Both' b_shape b_filters) h k = absurd (let e : 5 ≡ 3 = one_form kind t (Not' a_shape a_filters) (Both' b_shape b_filters) h k in omega arith)
  filters_have_one_text kind t (Not' a_shape a_filters) (Either' b_shape b_filters) h k = absurd (let e : 5 ≡ 4 = one_form kind t (Not' a_shape a_filters) (Either' b_shape b_filters) h k in omega arith)
  filters_have_one_text kind t (Not' a_shape a_filters) (Not' b_shape b_filters) h k =
      let same : h.0 ≡ k.0 = same_inside t (codes "$not") (codes "$not") h.0 k.0 h.1 k.1 in
      let alike : AreAlike a_filters b_filters = all_alike kind (item k.0 none) a_filters b_filters (subst (λ (s : Tree). AreFilters kind a_filters (item s none)) same h.2) k.2 in
      ap (one_member (codes "$not")) alike.first

  all_alike : {m n : _} (kind : ListKind) (ts : Trees) (fs : Row_of-Filter m) (gs : Row_of-Filter n) → AreFilters kind fs ts → AreFilters kind gs ts → AreAlike fs gs
  all_alike kind ts end_of-Filter end_of-Filter h k = record { first = refl; others = refl }
  all_alike kind ts end_of-Filter (more_of-Filter g gs) h k = absurd (subst (AreFilters kind (more_of-Filter g gs)) h k)
  all_alike kind ts (more_of-Filter f fs) end_of-Filter h k = absurd (subst (AreFilters kind (more_of-Filter f fs)) k h)
  all_alike kind none (more_of-Filter f fs) (more_of-Filter g gs) h k = absurd h
  all_alike kind (item t ts) (more_of-Filter f fs) (more_of-Filter g gs) h k =
      let one : filter_text f ≡ filter_text g = filters_have_one_text kind t f g h.0 k.0 in
      let rest : AreAlike fs gs = all_alike kind ts fs gs h.1 k.1 in
      record { first = λ i. one i ++ rest.others i; others = λ i. 44 ∷ (one i ++ rest.others i) }
