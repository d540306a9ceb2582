-- The text of a filter is a JSON text of a value that shows it.
use Rattle.std.proofs.Common.{ℕ, ◌-◌, List, [], ◌∷◌, ◌++◌, refl, sym, subst}
use Rattle.std.specs.Prelude.{codes}
use Rattle.std.proofs.lemmas.List.{append-nil}
use Rattle.lg_base.specs.Texts.{quoted}
use Rattle.lg_json.specs.Grammar.{Padded, IsValue, AreItems, Fits, AllFit}
use Rattle.lg_json.specs.Tree.{Tree, Trees}
use Rattle.lg_json.specs.Tree.Tree.{text, list, members}
use Rattle.lg_json.specs.Tree.Trees.{none, item}
use Rattle.lg_json.specs.Tree.Members.{no_member}
use Rattle.lg_types.specs.declared.filters.ListKind.{ListKind}
use Rattle.lg_types.specs.declared.filters.Op.{Op}
use Rattle.lg_types.specs.declared.filters.Field.{Field}
use Rattle.lg_types.specs.declared.filters.Value.{Value}
use Rattle.lg_types.specs.declared.filters.Filter.{Filter, All, Compare, Has, Both', Either', Not', Row_of-Filter, end_of-Filter, more_of-Filter}
use Rattle.lg_readings.specs.FilterReadings.{one, IsComparison, IsFilter, AreFilters, ShowsValue}
use Rattle.lg_views.specs.Tokens.{op_name, field_name, value_text, one_member, filter_text, filters_text}
use Rattle.lg_entry_lines.proofs.Strings.{text_is_string, literal_is_string}
use Rattle.lg_tokens.specs.Laws.{IsSpelled}
use Rattle.lg_tokens.proofs.Values.{is_one, one_fits, FitsInside, fits_inside, op_string, field_string, Spelled, value_spelled}

compared : (kind : ListKind) (op : Op) (f : Field) (v : Value) (room : ℕ) (t : Tree) → IsComparison kind op f v t → Fits room t → IsSpelled kind (Compare op f v) room
compared kind op f v room t h k =
    let outer : FitsInside room (one (field_name f) h.shown) = fits_inside room (op_name op) (one (field_name f) h.shown) (subst (Fits room) h.is k) in
    let inner : FitsInside (room - 1) h.shown = fits_inside (room - 1) (field_name f) h.shown outer.inside in
    let s : Spelled (ShowsValue f) v (room - 1 - 1) = value_spelled f h.shown v (room - 1 - 1) h.value inner.inside in
    record {
      shown = one (op_name op) (one (field_name f) s.shown);
      is = record { compared = h.compared; grammar = h.grammar; shown = s.shown; is = refl; value = s.shows };
      written = is_one (op_name op) (one (field_name f) s.shown) (one_member (field_name f) (value_text v)) (op_string op) (is_one (field_name f) s.shown (value_text v) (field_string f h.grammar) s.written);
      fits = one_fits room (op_name op) (one (field_name f) s.shown) outer.some (one_fits (room - 1) (field_name f) s.shown inner.some s.fits);
    }

-- the texts of filters with commas between them are the items of trees that show them
record AreSpelled {m : _} (kind : ListKind) (filters : Row_of-Filter m) (room : ℕ) : Type 0 where
  shown : Trees
  are : AreFilters kind filters shown
  written : AreItems shown (filters_text filters)
  fits : AllFit room shown

-- one filter alone
record IsSpelledAlone {m : _} (kind : ListKind) (filters : Row_of-Filter m) (room : ℕ) : Type 0 where
  shown : Tree
  are : AreFilters kind filters (item shown none)
  written : IsValue shown (filters_text filters)
  fits : Fits room shown

padded : (t : Tree) (bytes : List ℕ) → IsValue t bytes → Padded (IsValue t) bytes
padded t bytes v = ([], bytes, [], tt, v, tt, sym (append-nil bytes))

joined : {m : _} (kind : ListKind) (f g : Filter) (gs : Row_of-Filter m) (room : ℕ) (us : Trees) → IsSpelled kind f room → AreFilters kind (more_of-Filter g gs) us
    → AreItems us (filters_text (more_of-Filter g gs)) → AllFit room us → AreSpelled kind (more_of-Filter f (more_of-Filter g gs)) room
joined kind f g gs room none s are written fits = absurd are
joined kind f g gs room (item u us) s are written fits = record {
  shown = item s.shown (item u us);
  are = (s.is, are);
  written = (filter_text f, filters_text (more_of-Filter g gs), padded s.shown (filter_text f) s.written, written, refl);
  fits = (s.fits, fits);
}

mutual
  pub filters_spelled : (kind : ListKind) (filter : Filter) (room : ℕ) (t : Tree) → IsFilter kind filter t → Fits room t → IsSpelled kind filter room
  filters_spelled kind All room t h k = record { shown = members no_member; is = refl; written = ([], tt, refl); fits = subst (Fits room) h k }
  filters_spelled kind (Compare op f v) room t h k = compared kind op f v room t h k
  filters_spelled kind (Has name) room t h k =
      let outer : FitsInside room (one (codes "metadata") (text name)) = fits_inside room (codes "$exists") (one (codes "metadata") (text name)) (subst (Fits room) h.2 k) in
      let inner : FitsInside (room - 1) (text name) = fits_inside (room - 1) (codes "metadata") (text name) outer.inside in
      record {
        shown = one (codes "$exists") (one (codes "metadata") (text name));
        is = (h.0, h.1, refl);
        written = is_one (codes "$exists") (one (codes "metadata") (text name)) (one_member (codes "metadata") (quoted name)) (literal_is_string (codes "$exists") refl) (is_one (codes "metadata") (text name) (quoted name) (literal_is_string (codes "metadata") refl) (text_is_string name h.1));
        fits = one_fits room (codes "$exists") (one (codes "metadata") (text name)) outer.some (one_fits (room - 1) (codes "metadata") (text name) inner.some tt);
      }
  filters_spelled kind (Both' shape filters) room t h k =
      let outer : FitsInside room (list h.0) = fits_inside room (codes "$and") (list h.0) (subst (Fits room) h.1 k) in
      let r : AreSpelled kind filters (room - 1 - 1) = all_spelled kind filters (room - 1 - 1) h.0 h.2 outer.inside.1 in
      record {
        shown = one (codes "$and") (list r.shown);
        is = (r.shown, refl, r.are);
        written = is_one (codes "$and") (list r.shown) (91 ∷ (filters_text filters ++ (93 ∷ []))) (literal_is_string (codes "$and") refl) (filters_text filters, r.written, refl);
        fits = one_fits room (codes "$and") (list r.shown) outer.some (outer.inside.0, r.fits);
      }
  filters_spelled kind (Either' shape filters) room t h k =
      let outer : FitsInside room (list h.0) = fits_inside room (codes "$or") (list h.0) (subst (Fits room) h.1 k) in
      let r : AreSpelled kind filters (room - 1 - 1) = all_spelled kind filters (room - 1 - 1) h.0 h.2 outer.inside.1 in
      record {
        shown = one (codes "$or") (list r.shown);
        is = (r.shown, refl, r.are);
        written = is_one (codes "$or") (list r.shown) (91 ∷ (filters_text filters ++ (93 ∷ []))) (literal_is_string (codes "$or") refl) (filters_text filters, r.written, refl);
        fits = one_fits room (codes "$or") (list r.shown) outer.some (outer.inside.0, r.fits);
      }
  filters_spelled kind (Not' shape filters) room t h k =
      let outer : FitsInside room h.0 = fits_inside room (codes "$not") h.0 (subst (Fits room) h.1 k) in
      let s : IsSpelledAlone kind filters (room - 1) = alone_spelled kind filters (room - 1) h.0 h.2 outer.inside in
      record {
        shown = one (codes "$not") s.shown;
        is = (s.shown, refl, s.are);
        written = is_one (codes "$not") s.shown (filters_text filters) (literal_is_string (codes "$not") refl) s.written;
        fits = one_fits room (codes "$not") s.shown outer.some s.fits;
      }

  all_spelled : {m : _} (kind : ListKind) (filters : Row_of-Filter m) (room : ℕ) (ts : Trees) → AreFilters kind filters ts → AllFit room ts → AreSpelled kind filters room
  all_spelled kind end_of-Filter room ts h k = record { shown = none; are = refl; written = tt; fits = tt }
  all_spelled kind (more_of-Filter f filters) room none h k = absurd h
  all_spelled kind (more_of-Filter f end_of-Filter) room (item t ts) h k =
      let s : IsSpelled kind f room = filters_spelled kind f room t h.0 k.0 in
      record { shown = item s.shown none; are = (s.is, refl); written = ([], filter_text f, [], tt, s.written, tt, refl); fits = (s.fits, tt) }
  all_spelled kind (more_of-Filter f (more_of-Filter g gs)) room (item t ts) h k =
      let s : IsSpelled kind f room = filters_spelled kind f room t h.0 k.0 in
      let r : AreSpelled kind (more_of-Filter g gs) room = all_spelled kind (more_of-Filter g gs) room ts h.1 k.1 in
      joined kind f g gs room r.shown s r.are r.written r.fits

  alone_spelled : {m : _} (kind : ListKind) (filters : Row_of-Filter m) (room : ℕ) (t : Tree) → AreFilters kind filters (item t none) → Fits room t → IsSpelledAlone kind filters room
  alone_spelled kind end_of-Filter room t h k = absurd (cc h)
  alone_spelled kind (more_of-Filter f (more_of-Filter g gs)) room t h k = absurd h.1
  alone_spelled kind (more_of-Filter f end_of-Filter) room t h k =
      let s : IsSpelled kind f room = filters_spelled kind f room t h.0 k in
      record { shown = s.shown; are = (s.is, refl); written = subst (IsValue s.shown) (sym (append-nil (filter_text f))) s.written; fits = s.fits }
