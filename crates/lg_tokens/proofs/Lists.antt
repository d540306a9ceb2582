-- The texts of filters in a list.
use Rattle.std.proofs.Common.{◌≡◌, ℕ, ◌+◌, ◌<◌, Bool, true, false, List, [], ◌∷◌, ◌++◌, length, get_or, drop, refl, sym, ap, ◌∙◌, true≢false}
use Rattle.std.specs.Prelude.{codes}
use Rattle.std.specs.List.{flat_map, concat}
use Rattle.std.proofs.lemmas.List.{drop_more, append-nil}
use mathlib.Core.Former.{Count}
use Rattle.lg_containers.specs.CanonicalTexts.{commas, list_text}
use Rattle.lg_types.specs.declared.filters.Filter.{Filter, All, Compare, Has, Both, Either, Not, Both', Either', Not', Row_of-Filter, end_of-Filter, more_of-Filter, items-the_row-Filter, items_hidden-the_row-Filter-0}
use Rattle.lg_types.specs.declared.filters.Filter.TheBlock.{hidden-the_row-Filter-1}
use denote.Hole.Carrier.{hidden}
use Rattle.lg_views.specs.Tokens.{filter_text, filters_text, after_commas, filter_member, one_member}
use Rattle.lg_tokens.specs.TextParts.{comma_unless, parted, is_all_items}

-- ---- the filters that a row holds

after_listed : {m : _} (row : Row_of-Filter m) → after_commas row ≡ flat_map (λ (f : Filter). codes "," ++ filter_text f) (items-the_row-Filter m row)
after_listed end_of-Filter = refl
after_listed (more_of-Filter f rest) = ap (λ (l : List ℕ). 44 ∷ (filter_text f ++ l)) (after_listed rest)

listed : {m : _} (row : Row_of-Filter m) → filters_text row ≡ commas filter_text (items-the_row-Filter m row)
listed end_of-Filter = refl
listed (more_of-Filter f rest) = ap (λ (l : List ℕ). filter_text f ++ l) (after_listed rest)

abbrev row_of : Filter → (m : Count) × Row_of-Filter m
row_of (Both' shape row) = (_, row)
row_of (Either' shape row) = (_, row)
row_of f = (_, end_of-Filter)

pub both_text : (fs : List Filter) → filter_text (Both fs) ≡ one_member (codes "$and") (list_text filter_text fs)
both_text fs =
    let row = row_of (Both fs) in
    ap (λ (l : List ℕ). one_member (codes "$and") (91 ∷ (l ++ (93 ∷ [])))) (listed row.1 ∙ ap (commas filter_text) (items_hidden-the_row-Filter-0 fs))

pub either_text : (fs : List Filter) → filter_text (Either fs) ≡ one_member (codes "$or") (list_text filter_text fs)
either_text fs =
    let row = row_of (Either fs) in
    ap (λ (l : List ℕ). one_member (codes "$or") (91 ∷ (l ++ (93 ∷ [])))) (listed row.1 ∙ ap (commas filter_text) (items_hidden-the_row-Filter-0 fs))

pub not_text : (f : Filter) → filter_text (Not f) ≡ one_member (codes "$not") (filter_text f)
unfolding hidden-the_row-Filter-1 hidden
not_text f = ap (one_member (codes "$not")) (append-nil (filter_text f))

-- ---- the member with the filter

pub no_member : (f : Filter) → is_all_items f ≡ true → [] ≡ filter_member f
no_member All h = refl
no_member (Compare op f v) h = absurd (true≢false (sym h))
no_member (Has name) h = absurd (true≢false (sym h))
no_member (Both' shape filters) h = absurd (true≢false (sym h))
no_member (Either' shape filters) h = absurd (true≢false (sym h))
no_member (Not' shape filters) h = absurd (true≢false (sym h))

member : (f : Filter) → codes ",\"filter\":" ++ filter_text f ≡ concat (codes ",\"filter\":" ∷ filter_text f ∷ [])
member f = ap (λ (l : List ℕ). codes ",\"filter\":" ++ l) (sym (append-nil (filter_text f)))

pub with_member : (f : Filter) → is_all_items f ≡ false → codes ",\"filter\":" ++ filter_text f ≡ filter_member f
with_member All h = absurd (true≢false h)
with_member (Compare op f v) h = member (Compare op f v)
with_member (Has name) h = member (Has name)
with_member (Both' shape filters) h = member (Both' shape filters)
with_member (Either' shape filters) h = member (Either' shape filters)
with_member (Not' shape filters) h = member (Not' shape filters)

-- ---- filters one after another

parted_after : (fs : List Filter) → parted false fs ≡ flat_map (λ (f : Filter). codes "," ++ filter_text f) fs
parted_after [] = refl
parted_after (f ∷ fs) = ap (λ (l : List ℕ). 44 ∷ (filter_text f ++ l)) (parted_after fs)

pub parted_whole : (fs : List Filter) → parted true fs ≡ commas filter_text fs
parted_whole [] = refl
parted_whole (f ∷ fs) = ap (λ (l : List ℕ). filter_text f ++ l) (parted_after fs)

pub parted_more : (is_first : Bool) (fs : List Filter) (i : ℕ) (f : Filter) → i < length fs → f ≡ get_or fs i f → parted is_first (drop i fs) ≡ (comma_unless is_first ++ filter_text f) ++ parted false (drop (i + 1) fs)
parted_more is_first fs i f h is =
    ap (parted is_first) (drop_more fs i f h) ∙ ap (λ (g : Filter). (comma_unless is_first ++ filter_text g) ++ parted false (drop (i + 1) fs)) (sym is)
