-- An account has a move that passes a test where it has one of one of its assets.
use Rattle.std.proofs.Common.{◌≡◌, ℕ, Bool, true, false, ◌&&◌, ◌||◌, List, [], ◌∷◌, refl, sym, ap, subst, ◌∙◌}
use Rattle.std.specs.List.{list_any}
use Rattle.std.specs.Str.{bytes_eq}
use Rattle.lg_types.specs.declared.moves.Move.{Move}
use Rattle.lg_types.specs.Moves.{Placed, is_of, pair_moves}
use Rattle.lg_types.specs.PartLaws.{is_account}
use Rattle.lg_shard.proofs.AccountLemmas.{bytes_same, bytes_itself}
use Rattle.lg_accounts.proofs.Known.{any_of_pair}

-- an item that passes, which any list test finds that it passes
record Found {X : Type 0} (p : X → Bool) (xs : List X) : Type 0 where
  pub item : X
  pub passes : p item ≡ true
  pub there : (q : X → Bool) → q item ≡ true → list_any q xs ≡ true

or_second : (a b : Bool) → b ≡ true → (a || b) ≡ true
or_second true b h = refl
or_second false b h = h

find-any : {X : Type 0} (p : X → Bool) (xs : List X) → list_any p xs ≡ true → Found p xs
find-any p [] h = absurd (let no : false ≡ true = h in cc)
find-any p (x ∷ xs) h = by_test (p x) refl (find-any p xs)
  where
    by_test : (b : Bool) → p x ≡ b → (list_any p xs ≡ true → Found p xs) → Found p (x ∷ xs)
    by_test true is rest = record { item = x; passes = is; there = λ q k. ap (λ (b : Bool). b || list_any q xs) k }
    by_test false is rest =
        let found = rest (sym (ap (λ (b : Bool). b || list_any p xs) is) ∙ h) in
        record { item = found.item; passes = found.passes; there = λ q k. or_second (q x) (list_any q xs) (found.there q k) }

pub alike : (a b : Bool) → (a ≡ true → b ≡ true) → (b ≡ true → a ≡ true) → a ≡ b
alike true b h k = sym (h refl)
alike false true h k = k refl
alike false false h k = refl

both_true : (a b : Bool) → a ≡ true → b ≡ true → (a && b) ≡ true
both_true true b h k = k
both_true false b h k = absurd (let no : false ≡ true = h in cc)

first_true : (a b : Bool) → (a && b) ≡ true → a ≡ true
first_true true b h = refl
first_true false b h = absurd (let no : false ≡ true = h in cc)

second_true : (a b : Bool) → (a && b) ≡ true → b ≡ true
second_true true b h = h
second_true false b h = absurd (let no : false ≡ true = h in cc)

module _ (ms : List Placed) (test : Move → Bool) (account : List ℕ) (names : List (List ℕ)) (members : (name : List ℕ) → list_any (is_account name) names ≡ list_any (is_of account name) ms) where
  abbrev of_it : Placed → Bool
  of_it m = bytes_eq account m.account && test m.what

  abbrev of_asset : List ℕ → Bool
  of_asset asset = list_any test (pair_moves ms account asset)

  turned : (x y : List ℕ) → bytes_eq x y ≡ true → bytes_eq y x ≡ true
  turned x y h = subst (λ (z : List ℕ). bytes_eq z x ≡ true) (bytes_same x y h) (bytes_itself x)

  by_asset : list_any of_it ms ≡ true → list_any of_asset names ≡ true
  by_asset h =
      let found = find-any of_it ms h in
      let m : Placed = found.item in
      let own : bytes_eq m.account account ≡ true = turned account m.account (first_true (bytes_eq account m.account) (test m.what) found.passes) in
      let passes : test m.what ≡ true = second_true (bytes_eq account m.account) (test m.what) found.passes in
      let is : is_of account m.asset m ≡ true = both_true (bytes_eq m.account account) (bytes_eq m.asset m.asset) own (bytes_itself m.asset) in
      let listed = find-any (is_account m.asset) names (members m.asset ∙ found.there (is_of account m.asset) is) in
      let counts : of_asset m.asset ≡ true = any_of_pair ms test account m.asset ∙ found.there (λ x. is_of account m.asset x && test x.what) (both_true (is_of account m.asset m) (test m.what) is passes) in
      listed.there of_asset (subst (λ (asset : List ℕ). of_asset asset ≡ true) (sym (bytes_same listed.item m.asset listed.passes)) counts)

  by_move : list_any of_asset names ≡ true → list_any of_it ms ≡ true
  by_move h =
      let listed = find-any of_asset names h in
      let asset : List ℕ = listed.item in
      let found = find-any (λ x. is_of account asset x && test x.what) ms (sym (any_of_pair ms test account asset) ∙ listed.passes) in
      let m : Placed = found.item in
      let is : is_of account asset m ≡ true = first_true (is_of account asset m) (test m.what) found.passes in
      let own : bytes_eq account m.account ≡ true = turned m.account account (first_true (bytes_eq m.account account) (bytes_eq m.asset asset) is) in
      found.there of_it (both_true (bytes_eq account m.account) (test m.what) own (second_true (is_of account asset m) (test m.what) found.passes))

  pub any_asset : list_any of_asset names ≡ list_any of_it ms
  any_asset = alike (list_any of_asset names) (list_any of_it ms) by_move by_asset
