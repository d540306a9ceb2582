-- What a filter over filters means.
use Rattle.std.proofs.Common.{◌≡◌, ℕ, Bool, true, false, not, ◌&&◌, ◌||◌, List, refl, ap, ◌∙◌}
use Rattle.std.specs.List.{list_all, list_any}
use mathlib.Core.Former.{Count}
use Rattle.lg_types.specs.declared.filters.Op.{Op}
use Rattle.lg_types.specs.declared.filters.Field.{Field}
use Rattle.lg_types.specs.declared.filters.Value.{Value}
use Rattle.lg_types.specs.declared.filters.Filter.{Filter, Both, Either, Not, Both', Either', Row_of-Filter, end_of-Filter, more_of-Filter, items-the_row-Filter, items_hidden-the_row-Filter-0}
use Rattle.lg_types.specs.declared.filters.Filter.TheBlock.{hidden-the_row-Filter-1}
use denote.Hole.Carrier.{hidden}
use Rattle.lg_views.specs.Filters.{passes, all_pass, any_passes}

abbrev row_of : Filter → (m : Count) × Row_of-Filter m
row_of (Both' shape row) = (_, row)
row_of (Either' shape row) = (_, row)
row_of f = (_, end_of-Filter)

or_false : (b : Bool) → (b || false) ≡ b
or_false true = refl
or_false false = refl

module _ (compares : Op → Field → Value → Bool) (names : List ℕ → Bool) where
  all_listed : {m : _} (row : Row_of-Filter m) → all_pass compares names row ≡ list_all (passes compares names) (items-the_row-Filter m row)
  all_listed end_of-Filter = refl
  all_listed (more_of-Filter f rest) = ap (λ (b : Bool). passes compares names f && b) (all_listed rest)

  any_listed : {m : _} (row : Row_of-Filter m) → any_passes compares names row ≡ list_any (passes compares names) (items-the_row-Filter m row)
  any_listed end_of-Filter = refl
  any_listed (more_of-Filter f rest) = ap (λ (b : Bool). passes compares names f || b) (any_listed rest)

  pub both_passes : (fs : List Filter) → passes compares names (Both fs) ≡ list_all (passes compares names) fs
  both_passes fs =
      let row = row_of (Both fs) in
      all_listed row.1 ∙ ap (list_all (passes compares names)) (items_hidden-the_row-Filter-0 fs)

  pub either_passes : (fs : List Filter) → passes compares names (Either fs) ≡ list_any (passes compares names) fs
  either_passes fs =
      let row = row_of (Either fs) in
      any_listed row.1 ∙ ap (list_any (passes compares names)) (items_hidden-the_row-Filter-0 fs)

  pub not_passes : (f : Filter) → passes compares names (Not f) ≡ not (passes compares names f)
  unfolding hidden-the_row-Filter-1 hidden
  not_passes f = ap not (or_false (passes compares names f))
