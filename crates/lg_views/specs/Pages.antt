-- Pages: the first items of a list after a place.
use Rattle.std.specs.Prelude.{ℕ, Bool, nat_lt, if◌then◌else◌, List, length, take, Option, Some, None}
use Rattle.std.specs.Option.{option_map}
use Rattle.std.specs.List.{filter}
use Rattle.lg_types.specs.Lists.{last_of}
use Rattle.lg_types.specs.declared.filters.ListKind.{ListKind}
use Rattle.lg_types.specs.declared.filters.After.{After}
use Rattle.lg_types.specs.declared.queries.Query.{Query}
use Rattle.lg_views.specs.declared.items.Items.{Items}
use Rattle.lg_views.specs.declared.replies.Content.{Content}
use Rattle.lg_views.specs.declared.replies.Content.TheVariants as content
use Rattle.lg_views.specs.Tokens.{token}

-- what stands after a place, by a test of the place and an item; all of a list without one
abbrev pub after_place : {P A : Type 0} → (P → A → Bool) → Option P → List A → List A
after_place is_after None xs = xs
after_place is_after (Some place) xs = filter (is_after place) xs

-- the last place of a page, where items follow
abbrev pub next_place : {P A : Type 0} → (A → P) → ℕ → List A → Option P
next_place place size rest = if nat_lt size (length rest) then option_map place (last_of (take size rest)) else None

-- the page of what is left of a list: its first items, and the token of the last place where more follow
abbrev pub page_of_rest : {A : Type 0} → ListKind → Query → (A → After) → (List A → Items) → List A → Content
page_of_rest kind query place items rest = content.Page (record {
  page_size = query.page_size;
  has_more = nat_lt query.page_size (length rest);
  next = option_map (token kind query) (next_place place query.page_size rest);
  items = items (take query.page_size rest);
})

-- the page of a whole list
abbrev pub page : {A : Type 0} → ListKind → Query → (After → A → Bool) → (A → After) → (List A → Items) → List A → Content
page kind query is_after place items whole = page_of_rest kind query place items (after_place is_after query.after whole)
