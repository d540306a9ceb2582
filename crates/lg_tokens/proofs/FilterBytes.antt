-- The texts of filters are bytes.
use Rattle.std.proofs.Common.{ℕ, ◌+◌, ◌-◌, List, [], ◌∷◌, ◌++◌, refl, sym, ap, subst, arith}
use Rattle.std.specs.Prelude.{ℤ, pos, negsuc, true, false, codes, decimal}
use Rattle.lg_base.specs.Texts.{quoted}
use Rattle.lg_json.specs.Grammar.{InRange, Fits, AllFit}
use Rattle.lg_json.specs.Tree.{Tree, Trees}
use Rattle.lg_json.specs.Tree.Tree.{null, truth, whole, part, text, list, members}
use Rattle.lg_json.specs.Tree.Trees.{none, item}
use Rattle.lg_types.specs.declared.filters.ListKind.{ListKind}
use Rattle.lg_types.specs.declared.filters.Op.{Op}
use Rattle.lg_types.specs.declared.filters.Op.TheVariants.{Equal, Less, LessEqual, Greater, GreaterEqual}
use Rattle.lg_types.specs.declared.filters.Field.{Field}
use Rattle.lg_types.specs.declared.filters.Field.TheVariants as field
use Rattle.lg_types.specs.declared.filters.Value.{Value}
use Rattle.lg_types.specs.declared.filters.Value.TheVariants as value
use Rattle.lg_types.specs.declared.filters.Filter.{Filter, All, Compare, Has, Both', Either', Not', Row_of-Filter, end_of-Filter, more_of-Filter}
use Rattle.lg_readings.specs.FilterReadings.{one, IsComparison, IsFieldInGrammar, IsFilter, AreFilters, ShowsText, ShowsWhole, ShowsMoment, ShowsTruth, ShowsValue}
use Rattle.lg_views.specs.Tokens.{op_name, field_name, in_brackets, whole_text, value_text, one_member, filter_text, filters_text, after_commas}
use Rattle.lg_entry_lines.proofs.Names.{asset_utf8}
use Rattle.lg_tokens.proofs.Bytes.{AreBytes, literal, both, together, byte_first, quoted_bytes, member_bytes, utf8_bytes, decimal_bytes, wide_bytes, date_bytes}
use Rattle.lg_tokens.proofs.Values.{FitsInside, fits_inside}

op_bytes : (op : Op) → AreBytes (op_name op)
op_bytes Equal = literal (codes "$match") refl
op_bytes Less = literal (codes "$lt") refl
op_bytes LessEqual = literal (codes "$lte") refl
op_bytes Greater = literal (codes "$gt") refl
op_bytes GreaterEqual = literal (codes "$gte") refl

brackets_bytes : (word name : List ℕ) → AreBytes word → AreBytes name → AreBytes (in_brackets word name)
brackets_bytes word name w h = together (word ∷ codes "[" ∷ name ∷ codes "]" ∷ []) (w, (literal (codes "[") refl, (h, (literal (codes "]") refl, tt))))

field_bytes : (f : Field) → IsFieldInGrammar f → AreBytes (field_name f)
field_bytes field.Address h = literal (codes "address") refl
field_bytes field.Account h = literal (codes "account") refl
field_bytes field.Source h = literal (codes "source") refl
field_bytes field.Destination h = literal (codes "destination") refl
field_bytes field.Reference h = literal (codes "reference") refl
field_bytes field.Id h = literal (codes "id") refl
field_bytes field.Timestamp h = literal (codes "timestamp") refl
field_bytes field.Date h = literal (codes "date") refl
field_bytes field.Reverted h = literal (codes "reverted") refl
field_bytes (field.Metadata name) h = brackets_bytes (codes "metadata") name (literal (codes "metadata") refl) (utf8_bytes name h)
field_bytes (field.Balance asset) h = brackets_bytes (codes "balance") asset (literal (codes "balance") refl) (utf8_bytes asset (asset_utf8 asset h))

number_bytes : (n : ℤ) → InRange n → AreBytes (whole_text n)
number_bytes (pos n) h = decimal_bytes n h
number_bytes (negsuc n) h = byte_first 45 (decimal (n + 1)) (omega arith) (wide_bytes (n + 1) (omega arith) (omega arith))

text_bytes : (t : Tree) (v : Value) → ShowsText t v → AreBytes (value_text v)
text_bytes null v h = absurd h
text_bytes (truth b) v h = absurd h
text_bytes (whole n) v h = absurd h
text_bytes part v h = absurd h
text_bytes (list ts) v h = absurd h
text_bytes (members ms) v h = absurd h
text_bytes (text t) v h = subst AreBytes (sym (ap value_text h.1)) (quoted_bytes t (utf8_bytes t h.0))

whole_bytes : (t : Tree) (v : Value) (room : ℕ) → ShowsWhole t v → Fits room t → AreBytes (value_text v)
whole_bytes null v room h k = absurd h
whole_bytes (truth b) v room h k = absurd h
whole_bytes part v room h k = absurd h
whole_bytes (text t) v room h k = absurd h
whole_bytes (list ts) v room h k = absurd h
whole_bytes (members ms) v room h k = absurd h
whole_bytes (whole n) v room h k = subst AreBytes (sym (ap value_text h)) (number_bytes n k)

truth_bytes : (t : Tree) (v : Value) → ShowsTruth t v → AreBytes (value_text v)
truth_bytes null v h = absurd h
truth_bytes (whole n) v h = absurd h
truth_bytes part v h = absurd h
truth_bytes (text t) v h = absurd h
truth_bytes (list ts) v h = absurd h
truth_bytes (members ms) v h = absurd h
truth_bytes (truth true) v h = subst AreBytes (sym (ap value_text h)) (literal (codes "true") refl)
truth_bytes (truth false) v h = subst AreBytes (sym (ap value_text h)) (literal (codes "false") refl)

moment_bytes : (t : Tree) (v : Value) → ShowsMoment t v → AreBytes (value_text v)
moment_bytes null v h = absurd h
moment_bytes (truth b) v h = absurd h
moment_bytes (whole n) v h = absurd h
moment_bytes part v h = absurd h
moment_bytes (list ts) v h = absurd h
moment_bytes (members ms) v h = absurd h
moment_bytes (text t) (value.Text x) h = absurd h
moment_bytes (text t) (value.Whole n) h = absurd h
moment_bytes (text t) (value.Truth b) h = absurd h
moment_bytes (text t) (value.Moment moment) h = date_bytes moment h.in_range

value_bytes : (f : Field) (t : Tree) (v : Value) (room : ℕ) → ShowsValue f t v → Fits room t → AreBytes (value_text v)
value_bytes field.Address t v room h k = text_bytes t v h
value_bytes field.Account t v room h k = text_bytes t v h
value_bytes field.Source t v room h k = text_bytes t v h
value_bytes field.Destination t v room h k = text_bytes t v h
value_bytes field.Reference t v room h k = text_bytes t v h
value_bytes field.Id t v room h k = whole_bytes t v room h k
value_bytes field.Timestamp t v room h k = moment_bytes t v h
value_bytes field.Date t v room h k = moment_bytes t v h
value_bytes field.Reverted t v room h k = truth_bytes t v h
value_bytes (field.Metadata name) t v room h k = text_bytes t v h
value_bytes (field.Balance asset) t v room h k = whole_bytes t v room h k

compared_bytes : (kind : ListKind) (op : Op) (f : Field) (v : Value) (room : ℕ) (t : Tree) → IsComparison kind op f v t → Fits room t → AreBytes (filter_text (Compare op f v))
compared_bytes kind op f v room t h k =
    let outer : FitsInside room (one (field_name f) h.shown) = fits_inside room (op_name op) (one (field_name f) h.shown) (subst (Fits room) h.is k) in
    let inner : FitsInside (room - 1) h.shown = fits_inside (room - 1) (field_name f) h.shown outer.inside in
    member_bytes (op_name op) (one_member (field_name f) (value_text v)) (op_bytes op)
    (member_bytes (field_name f) (value_text v) (field_bytes f h.grammar) (value_bytes f h.shown v (room - 1 - 1) h.value inner.inside))

array_bytes : (inner : List ℕ) → AreBytes inner → AreBytes (91 ∷ (inner ++ (93 ∷ [])))
array_bytes inner h = byte_first 91 (inner ++ (93 ∷ [])) (omega arith) (both inner (93 ∷ []) h (literal (93 ∷ []) refl))

mutual
  pub filter_bytes : (kind : ListKind) (filter : Filter) (room : ℕ) (t : Tree) → IsFilter kind filter t → Fits room t → AreBytes (filter_text filter)
  filter_bytes kind All room t h k = literal (codes "{}") refl
  filter_bytes kind (Compare op f v) room t h k = compared_bytes kind op f v room t h k
  filter_bytes kind (Has name) room t h k =
      member_bytes (codes "$exists") (one_member (codes "metadata") (quoted name)) (literal (codes "$exists") refl) (member_bytes (codes "metadata") (quoted name) (literal (codes "metadata") refl) (quoted_bytes name (utf8_bytes name h.1)))
  filter_bytes kind (Both' shape filters) room t h k =
      let outer : FitsInside room (list h.0) = fits_inside room (codes "$and") (list h.0) (subst (Fits room) h.1 k) in
      member_bytes (codes "$and") (91 ∷ (filters_text filters ++ (93 ∷ []))) (literal (codes "$and") refl) (array_bytes (filters_text filters) (filters_bytes kind filters (room - 1 - 1) h.0 h.2 outer.inside.1))
  filter_bytes kind (Either' shape filters) room t h k =
      let outer : FitsInside room (list h.0) = fits_inside room (codes "$or") (list h.0) (subst (Fits room) h.1 k) in
      member_bytes (codes "$or") (91 ∷ (filters_text filters ++ (93 ∷ []))) (literal (codes "$or") refl) (array_bytes (filters_text filters) (filters_bytes kind filters (room - 1 - 1) h.0 h.2 outer.inside.1))
  filter_bytes kind (Not' shape filters) room t h k =
      let outer : FitsInside room h.0 = fits_inside room (codes "$not") h.0 (subst (Fits room) h.1 k) in
      member_bytes (codes "$not") (filters_text filters) (literal (codes "$not") refl) (filters_bytes kind filters (room - 1) (item h.0 none) h.2 (outer.inside, tt))

  filters_bytes : {m : _} (kind : ListKind) (filters : Row_of-Filter m) (room : ℕ) (ts : Trees) → AreFilters kind filters ts → AllFit room ts → AreBytes (filters_text filters)
  filters_bytes kind end_of-Filter room ts h k = literal [] refl
  filters_bytes kind (more_of-Filter f filters) room none h k = absurd h
  filters_bytes kind (more_of-Filter f filters) room (item t ts) h k =
      both (filter_text f) (after_commas filters) (filter_bytes kind f room t h.0 k.0) (others_bytes kind filters room ts h.1 k.1)

  others_bytes : {m : _} (kind : ListKind) (filters : Row_of-Filter m) (room : ℕ) (ts : Trees) → AreFilters kind filters ts → AllFit room ts → AreBytes (after_commas filters)
  others_bytes kind end_of-Filter room ts h k = literal [] refl
  others_bytes kind (more_of-Filter f filters) room none h k = absurd h
  others_bytes kind (more_of-Filter f filters) room (item t ts) h k =
      byte_first 44 (filter_text f ++ after_commas filters) (omega arith)
      (both (filter_text f) (after_commas filters) (filter_bytes kind f room t h.0 k.0) (others_bytes kind filters room ts h.1 k.1))
