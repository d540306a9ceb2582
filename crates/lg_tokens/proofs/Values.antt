-- Objects of one member, and what fields are compared with, as JSON texts.
use Rattle.std.proofs.Common.{◌≡◌, ℕ, ◌-◌, ◌<◌, true, false, List, [], ◌∷◌, ◌++◌, refl, sym, ap, subst, append_assoc}
use Rattle.std.specs.Prelude.{IsUtf8, codes}
use Rattle.std.proofs.lemmas.Str.{IsUtf8-append}
use Rattle.lg_base.specs.Texts.{quoted}
use Rattle.lg_json.specs.Grammar.{IsString, IsValue, Fits}
use Rattle.lg_json.specs.Tree.{Tree}
use Rattle.lg_json.specs.Tree.Tree.{null, truth, whole, part, text, list, members}
use Rattle.lg_time.specs.Canonical.{moment_text}
use Rattle.lg_time.proofs.CanonicalLemmas.{moment_text_is}
use Rattle.lg_types.specs.declared.filters.Op.{Op}
use Rattle.lg_types.specs.declared.filters.Op.TheVariants.{Equal, Less, LessEqual, Greater, GreaterEqual}
use Rattle.lg_types.specs.declared.filters.Field.{Field}
use Rattle.lg_types.specs.declared.filters.Field.TheVariants as field
use Rattle.lg_types.specs.declared.filters.Value.{Value}
use Rattle.lg_types.specs.declared.filters.Value.TheVariants as value
use Rattle.lg_readings.specs.FilterReadings.{one, IsFieldInGrammar, ShowsText, ShowsWhole, ShowsMoment, ShowsTruth, ShowsValue}
use Rattle.lg_views.specs.Tokens.{op_name, field_name, in_brackets, value_text, one_member}
use Rattle.lg_entry_lines.proofs.Strings.{text_is_string, literal_is_string, plain_utf8, plain_parts_of, all_plain}
use Rattle.lg_entry_lines.proofs.Names.{asset_utf8}
use Rattle.lg_entry_lines.proofs.Moments.{date_is_string}
use Rattle.lg_entry_lines.proofs.Objects.{is_member}
use Rattle.lg_tokens.proofs.Decimals.{whole_is}

-- ---- objects of one member

pub is_one : (name : List ℕ) (t : Tree) (written : List ℕ) → IsString name (quoted name) → IsValue t written → IsValue (one name t) (one_member name written)
is_one name t written s v =
    (quoted name ++ 58 ∷ written, is_member name t written s v, ap (λ (l : List ℕ). 123 ∷ l) (sym (append_assoc (quoted name) (58 ∷ written) (125 ∷ []))))

pub one_fits : (room : ℕ) (name : List ℕ) (t : Tree) → 0 < room → Fits (room - 1) t → Fits room (one name t)
one_fits room name t some h = (some, (tt, h, tt))

-- what is in one that fits
pub record FitsInside (room : ℕ) (t : Tree) : Type 0 where
  pub some : 0 < room
  pub inside : Fits (room - 1) t

pub fits_inside : (room : ℕ) (name : List ℕ) (t : Tree) → Fits room (one name t) → FitsInside room t
fits_inside room name t h = record { some = h.0; inside = h.1.1 }

-- ---- the names of operators and fields are strings

pub op_string : (op : Op) → IsString (op_name op) (quoted (op_name op))
op_string Equal = literal_is_string (codes "$match") refl
op_string Less = literal_is_string (codes "$lt") refl
op_string LessEqual = literal_is_string (codes "$lte") refl
op_string Greater = literal_is_string (codes "$gt") refl
op_string GreaterEqual = literal_is_string (codes "$gte") refl

literal_utf8 : (t : List ℕ) → all_plain t ≡ true → IsUtf8 t
literal_utf8 t h = plain_utf8 t (plain_parts_of t h)

brackets_utf8 : (word name : List ℕ) → IsUtf8 word → IsUtf8 name → IsUtf8 (in_brackets word name)
brackets_utf8 word name w u =
    IsUtf8-append word (91 ∷ (name ++ (93 ∷ []))) w (IsUtf8-append (91 ∷ []) (name ++ (93 ∷ [])) (literal_utf8 (91 ∷ []) refl) (IsUtf8-append name (93 ∷ []) u (literal_utf8 (93 ∷ []) refl)))

pub field_string : (f : Field) → IsFieldInGrammar f → IsString (field_name f) (quoted (field_name f))
field_string field.Address h = literal_is_string (codes "address") refl
field_string field.Account h = literal_is_string (codes "account") refl
field_string field.Source h = literal_is_string (codes "source") refl
field_string field.Destination h = literal_is_string (codes "destination") refl
field_string field.Reference h = literal_is_string (codes "reference") refl
field_string field.Id h = literal_is_string (codes "id") refl
field_string field.Timestamp h = literal_is_string (codes "timestamp") refl
field_string field.Date h = literal_is_string (codes "date") refl
field_string field.Reverted h = literal_is_string (codes "reverted") refl
field_string (field.Metadata name) h = text_is_string (in_brackets (codes "metadata") name) (brackets_utf8 (codes "metadata") name (literal_utf8 (codes "metadata") refl) h)
field_string (field.Balance asset) h = text_is_string (in_brackets (codes "balance") asset) (brackets_utf8 (codes "balance") asset (literal_utf8 (codes "balance") refl) (asset_utf8 asset h))

-- ---- what fields are compared with

-- a value's text is a JSON text of a tree that shows it within the limits
pub record Spelled (Shows : Tree → Value → Type 0) (v : Value) (room : ℕ) : Type 0 where
  pub shown : Tree
  pub shows : Shows shown v
  pub written : IsValue shown (value_text v)
  pub fits : Fits room shown

text_spelled : (t : Tree) (v : Value) (room : ℕ) → ShowsText t v → Spelled ShowsText v room
text_spelled null v room h = absurd h
text_spelled (truth b) v room h = absurd h
text_spelled (whole n) v room h = absurd h
text_spelled part v room h = absurd h
text_spelled (list ts) v room h = absurd h
text_spelled (members ms) v room h = absurd h
text_spelled (text t) v room h = record {
  shown = text t;
  shows = h;
  written = subst (λ (l : List ℕ). IsString t l) (sym (ap value_text h.1)) (text_is_string t h.0);
  fits = tt;
}

whole_spelled : (t : Tree) (v : Value) (room : ℕ) → ShowsWhole t v → Fits room t → Spelled ShowsWhole v room
whole_spelled null v room h k = absurd h
whole_spelled (truth b) v room h k = absurd h
whole_spelled part v room h k = absurd h
whole_spelled (text t) v room h k = absurd h
whole_spelled (list ts) v room h k = absurd h
whole_spelled (members ms) v room h k = absurd h
whole_spelled (whole n) v room h k = record {
  shown = whole n;
  shows = h;
  written = subst (λ (l : List ℕ). IsValue (whole n) l) (sym (ap value_text h)) (whole_is n k);
  fits = k;
}

truth_spelled : (t : Tree) (v : Value) (room : ℕ) → ShowsTruth t v → Spelled ShowsTruth v room
truth_spelled null v room h = absurd h
truth_spelled (whole n) v room h = absurd h
truth_spelled part v room h = absurd h
truth_spelled (text t) v room h = absurd h
truth_spelled (list ts) v room h = absurd h
truth_spelled (members ms) v room h = absurd h
truth_spelled (truth true) v room h = record { shown = truth true; shows = h; written = ap value_text h; fits = tt }
truth_spelled (truth false) v room h = record { shown = truth false; shows = h; written = ap value_text h; fits = tt }

moment_spelled : (t : Tree) (v : Value) (room : ℕ) → ShowsMoment t v → Spelled ShowsMoment v room
moment_spelled null v room h = absurd h
moment_spelled (truth b) v room h = absurd h
moment_spelled (whole n) v room h = absurd h
moment_spelled part v room h = absurd h
moment_spelled (list ts) v room h = absurd h
moment_spelled (members ms) v room h = absurd h
moment_spelled (text t) (value.Text x) room h = absurd h
moment_spelled (text t) (value.Whole n) room h = absurd h
moment_spelled (text t) (value.Truth b) room h = absurd h
moment_spelled (text t) (value.Moment moment) room h = record {
  shown = text (moment_text moment);
  shows = moment_text_is moment h.in_range;
  written = date_is_string moment h.in_range;
  fits = tt;
}

pub value_spelled : (f : Field) (t : Tree) (v : Value) (room : ℕ) → ShowsValue f t v → Fits room t → Spelled (ShowsValue f) v room
value_spelled field.Address t v room h k = text_spelled t v room h
value_spelled field.Account t v room h k = text_spelled t v room h
value_spelled field.Source t v room h k = text_spelled t v room h
value_spelled field.Destination t v room h k = text_spelled t v room h
value_spelled field.Reference t v room h k = text_spelled t v room h
value_spelled field.Id t v room h k = whole_spelled t v room h k
value_spelled field.Timestamp t v room h k = moment_spelled t v room h
value_spelled field.Date t v room h k = moment_spelled t v room h
value_spelled field.Reverted t v room h k = truth_spelled t v room h
value_spelled (field.Metadata name) t v room h k = text_spelled t v room h
value_spelled (field.Balance asset) t v room h k = whole_spelled t v room h k
