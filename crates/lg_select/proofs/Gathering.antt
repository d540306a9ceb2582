-- What a walk has gathered so far for a page.
use Rattle.std.proofs.Common.{◌≡◌, ℕ, ◌+◌, ◌≤◌, Bool, true, false, cond, List, [], ◌∷◌, ◌++◌, map, length, take, Option, Some, None, refl, sym, ap, subst, ◌∙◌, append_assoc, length-append, arith}
use Rattle.std.specs.Prelude.{nat_lt, IfSome, is_some}
use Rattle.std.specs.List.{filter}
use Rattle.std.proofs.lemmas.List.{append-nil, map-append, take_all}
use Rattle.std.proofs.lemmas.Bool.Decides.{nat_tests}
use Rattle.lg_types.specs.declared.filters.After.{After}
use Rattle.lg_types.specs.Lists.{last_of}
use Rattle.lg_views.specs.PageLaws.{IsInOrder}
use Rattle.lg_views.specs.Pages.{after_place}
use Rattle.lg_views.proofs.ReadBack.{last-snoc}
use Rattle.lg_select.specs.Listing.{first_of, IsSuffix, from_item, IsTransitive}
use Rattle.lg_select.proofs.Suffixes.{from_first, from_next, place_suffix, left_turned}

pub record Gathers {A V : Type 0} (is_after : After → A → Bool) (place : A → After) (whole : List A) (passes : A → Bool) (shown : A → V) (left : List A) (taken : ℕ) (views : List V) (last here : Option A) : Type 0 where
  pub items : List A
  pub all : left ≡ items ++ filter passes (from_item is_after place whole here)
  pub are : views ≡ map shown items
  pub ends : last ≡ last_of items
  pub many : length items ≡ taken
  pub suffix : IsSuffix whole (from_item is_after place whole here)
  pub wanted : IfSome here (λ x. passes x ≡ true)

take_front : {A : Type 0} (n : ℕ) (xs ys : List A) → length xs ≡ n → take n (xs ++ ys) ≡ xs
take_front n [] ys h = subst (λ k. take k ys ≡ []) h refl
take_front n (x ∷ xs) ys h = subst (λ k. take k (x ∷ (xs ++ ys)) ≡ x ∷ xs) h (ap (λ l. x ∷ l) (take_front (length xs) xs ys refl))

module _ {A V : Type 0} (is_after : After → A → Bool) (place : A → After) (whole : List A) (passes : A → Bool) (shown : A → V) where
  pub start : IsInOrder is_after place whole → IsTransitive is_after place → (after : Option After) (here : Option A)
      → IsSuffix whole (from_item is_after place whole here)
      → filter passes (from_item is_after place whole here) ≡ filter passes (from_item is_after place whole (first_of (after_place is_after after whole)))
      → IfSome here (λ x. passes x ≡ true)
      → Gathers is_after place whole passes shown (after_place is_after after (filter passes whole)) 0 [] None here
  start order steps after here s e w =
      record {
        items = [];
        all = left_turned is_after passes after whole
            ∙ ap (filter passes) (sym (from_first is_after place whole order (after_place is_after after whole) (place_suffix is_after place steps after whole order.pairs)))
            ∙ sym e;
        are = refl;
        ends = refl;
        many = refl;
        suffix = s;
        wanted = w;
      }

  pub more : (left : List A) (taken : ℕ) (views : List V) (last : Option A) (x : A) (here : Option A) (view : V) → IsInOrder is_after place whole
      → Gathers is_after place whole passes shown left taken views last (Some x)
      → IsSuffix whole (from_item is_after place whole here)
      → filter passes (from_item is_after place whole here) ≡ filter passes (from_item is_after place whole (first_of (filter (is_after (place x)) whole)))
      → IfSome here (λ y. passes y ≡ true)
      → view ≡ shown x
      → Gathers is_after place whole passes shown left (taken + 1) (views ++ view ∷ []) (Some x) here
  more left taken views last x here view order g s e w v =
      let behind = filter (is_after (place x)) whole in
      let rest = filter passes (from_item is_after place whole here) in
      let next : rest ≡ filter passes behind = e ∙ ap (filter passes) (from_next is_after place whole order x g.suffix) in
      let long = length-append g.items (x ∷ []) in
      let many = g.many in
      record {
        items = g.items ++ x ∷ [];
        all = g.all
            ∙ ap (λ l. g.items ++ l) (ap (λ b. cond b (x ∷ filter passes behind) (filter passes behind)) g.wanted ∙ ap (λ l. x ∷ l) (sym next))
            ∙ sym (append_assoc g.items (x ∷ []) rest);
        are = ap (λ l. l ++ view ∷ []) g.are ∙ ap (λ y. map shown g.items ++ y ∷ []) v ∙ sym (map-append shown g.items (x ∷ []));
        ends = sym (last-snoc g.items x);
        many = omega (arith, long, many);
        suffix = s;
        wanted = w;
      }

  pub ended : (left : List A) (size taken : ℕ) (views : List V) (last : Option A) → taken ≤ size
      → Gathers is_after place whole passes shown left taken views last None
      → (views ≡ map shown (take size left)) × (last ≡ last_of (take size left)) × (false ≡ nat_lt size (length left))
  ended left size taken views last le g =
      let whole_is : left ≡ g.items = g.all ∙ append-nil g.items in
      let many = g.many in
      let long : length left ≡ taken = ap length whole_is ∙ many in
      let front : take size left ≡ g.items = take_all size left (omega (arith, long, le)) ∙ whole_is in
      (g.are ∙ ap (map shown) (sym front), g.ends ∙ ap last_of (sym front), grind (arith, nat_tests, long, le))

  follows : (here : Option A) → IfSome here (λ x. passes x ≡ true) → (size : ℕ) (items : List A) → length items ≡ size → is_some here ≡ nat_lt size (length (items ++ filter passes (from_item is_after place whole here)))
  follows None w size items h = let long = length-append items [] in grind (arith, nat_tests, long, h)
  follows (Some x) w size items h =
      let rest = filter passes (filter (is_after (place x)) whole) in
      let is : filter passes (x ∷ filter (is_after (place x)) whole) ≡ x ∷ rest = ap (λ b. cond b (x ∷ rest) rest) w in
      let long = length-append items (x ∷ rest) in
      ap (λ l. true) is
      ∙ (let r : true ≡ nat_lt size (length (items ++ x ∷ rest)) = grind (arith, nat_tests, long, h) in r)
      ∙ ap (λ l. nat_lt size (length (items ++ l))) (sym is)

  pub full : (left : List A) (size : ℕ) (views : List V) (last here : Option A)
      → Gathers is_after place whole passes shown left size views last here
      → (views ≡ map shown (take size left)) × (last ≡ last_of (take size left)) × (is_some here ≡ nat_lt size (length left))
  full left size views last here g =
      let front : take size left ≡ g.items = ap (take size) g.all ∙ take_front size g.items (filter passes (from_item is_after place whole here)) g.many in (
        g.are ∙ ap (map shown) (sym front),
        g.ends ∙ ap last_of (sym front),
        follows here g.wanted size g.items g.many ∙ ap (λ l. nat_lt size (length l)) (sym g.all),
      )
