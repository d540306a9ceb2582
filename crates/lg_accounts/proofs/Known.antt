-- What the shard of an account's stripe knows of the account is what the log knows of it.
use Rattle.std.proofs.Common.{◌≡◌, ℕ, ℤ, Bool, true, false, cond, ◌&&◌, ◌||◌, List, [], ◌∷◌, map, refl, sym, ap, ap₂, ◌∙◌}
use Rattle.std.specs.Prelude.{Option, None}
use Rattle.std.specs.List.{filter, list_any}
use Rattle.std.specs.Str.{bytes_eq}
use Rattle.lg_meta.specs.MetaFold.{meta_at, dated_change, changes_about}
use Rattle.lg_types.specs.declared.classes.Class.TheVariants.{Account as AccountClass}
use Rattle.lg_types.specs.declared.moves.Move.{Move}
use Rattle.lg_types.specs.declared.records.Entry.{Entry}
use Rattle.lg_types.specs.declared.records.Event.{Event}
use Rattle.lg_types.specs.declared.records.Target.{Target}
use Rattle.lg_types.specs.declared.records.Target.TheVariants.{Account}
use Rattle.lg_types.specs.Changes.{is_about, metadata_at}
use Rattle.lg_types.specs.Log.{log}
use Rattle.lg_types.specs.Moves.{Placed, is_of, moves, pair_moves, volumes, what_of}
use Rattle.lg_types.specs.Parts.{Share, part_changes, part_moves, part_of}
use Rattle.lg_types.specs.PartLaws.{is_account}
use Rattle.lg_types.specs.Stripes.{stripe}
use Rattle.lg_types.specs.Tally.{is_between, is_to, tally}
use Rattle.lg_types.proofs.StripeKnows.{knows-changes, knows-moves}
use Rattle.lg_views.specs.Views.{account_volumes, asset_of, assets, effective_by, inserted_by, is_counted}
use Rattle.lg_shard.specs.Shown.{ListsExactly, account_changes, account_moves, is_moved}
use Rattle.lg_accounts.specs.Volumes.{counted_in, is_counted_in, volumes_in}
use Rattle.lg_accounts.proofs.AssetMaps.{names-passing, same_assets}

-- ---- tests of lists

pub any-map : {X Y : Type 0} (p : Y → Bool) (f : X → Y) (xs : List X) → list_any p (map f xs) ≡ list_any (λ x. p (f x)) xs
any-map p f [] = refl
any-map p f (x ∷ xs) = ap (λ (b : Bool). p (f x) || b) (any-map p f xs)

any_step : {X : Type 0} (p : X → Bool) (b : Bool) (x : X) (xs : List X) → list_any p (cond b (x ∷ xs) xs) ≡ ((b && p x) || list_any p xs)
any_step p true x xs = refl
any_step p false x xs = refl

pub any-filter : {X : Type 0} (p q : X → Bool) (xs : List X) → list_any p (filter q xs) ≡ list_any (λ x. q x && p x) xs
any-filter p q [] = refl
any-filter p q (x ∷ xs) = any_step p (q x) x (filter q xs) ∙ ap (λ (b : Bool). (q x && p x) || b) (any-filter p q xs)

pub any-same : {X : Type 0} (p q : X → Bool) → ((x : X) → p x ≡ q x) → (xs : List X) → list_any p xs ≡ list_any q xs
any-same p q same [] = refl
any-same p q same (x ∷ xs) = ap₂ (λ (a b : Bool). a || b) (same x) (any-same p q same xs)

and_swap : (a b c : Bool) → ((a && b) && c) ≡ ((a && c) && b)
and_swap true true true = refl
and_swap true true false = refl
and_swap true false true = refl
and_swap true false false = refl
and_swap false b c = refl

pub and_true : (b : Bool) → (b && true) ≡ b
and_true true = refl
and_true false = refl

-- what one of a list passes both tests, passes the first
both_or : (a b x y : Bool) → (x && y) ≡ x → (((a && b) || x) && (a || y)) ≡ ((a && b) || x)
both_or true true x y h = refl
both_or true false x true h = and_true x
both_or true false x false h = and_true x
both_or false b x y h = h

any_both : {X : Type 0} (p q : X → Bool) (xs : List X) → (list_any (λ x. p x && q x) xs && list_any p xs) ≡ list_any (λ x. p x && q x) xs
any_both p q [] = refl
any_both p q (x ∷ xs) = both_or (p x) (q x) (list_any (λ y. p y && q y) xs) (list_any p xs) (any_both p q xs)

-- ---- moves by asset

module _ (ms : List Placed) (test : Move → Bool) (account : List ℕ) where
  pub any_of_pair : (asset : List ℕ) → list_any test (pair_moves ms account asset) ≡ list_any (λ m. is_of account asset m && test m.what) ms
  any_of_pair asset = any-map test what_of (filter (is_of account asset) ms) ∙ any-filter (λ m. test m.what) (is_of account asset) ms

  -- an asset is listed where a move of it counts
  pub is_listed : (asset : List ℕ) → list_any (is_account asset) (assets ms test account) ≡ list_any test (pair_moves ms account asset)
  is_listed asset =
      any-map (is_account asset) asset_of (filter (is_counted test account) ms)
      ∙ any-filter (λ m. is_account asset m.asset) (is_counted test account) ms
      ∙ any-same (λ m. is_counted test account m && is_account asset m.asset) (λ m. is_of account asset m && test m.what) (λ m. and_swap (bytes_eq m.account account) (test m.what) (bytes_eq m.asset asset)) ms
      ∙ sym (any_of_pair asset)

  -- and then it has a move
  pub counted_and_moved : (asset : List ℕ) → (list_any test (pair_moves ms account asset) && list_any (is_of account asset) ms) ≡ list_any test (pair_moves ms account asset)
  counted_and_moved asset =
      ap (λ (b : Bool). b && list_any (is_of account asset) ms) (any_of_pair asset)
      ∙ any_both (is_of account asset) (λ m. test m.what) ms
      ∙ sym (any_of_pair asset)

-- ---- the account's own stripe

module _ (shares : List Share) (events : List Event) (ledger account : List ℕ) (known : shares ≡ part_of (stripe AccountClass ledger account) events) where
  pub moves_known : (asset : List ℕ) → account_moves shares ledger account asset ≡ pair_moves (moves (log events ledger)) account asset
  moves_known asset =
      ap (λ (s : List Share). pair_moves (part_moves ledger s) account asset) known
      ∙ knows-moves (stripe AccountClass ledger account) ledger account asset events refl

  pub changes_known : account_changes shares ledger account ≡ changes_about (Account account) (log events ledger)
  changes_known =
      ap (map dated_change)
      (ap (λ (s : List Share). filter (is_about (Account account)) (part_changes ledger s)) known
      ∙ knows-changes (stripe AccountClass ledger account) ledger account events refl)

  pub metadata_known : ((g : List Entry) (target : Target) (date : Option ℤ) → metadata_at g target date ≡ meta_at date (changes_about target g)) → (pit : Option ℤ) → meta_at pit (account_changes shares ledger account) ≡ metadata_at (log events ledger) (Account account) pit
  metadata_known by_changes pit = ap (meta_at pit) changes_known ∙ sym (by_changes (log events ledger) (Account account) pit)

  pub volumes_known : (test : Move → Bool) (names : List (List ℕ)) → ListsExactly names (is_moved shares ledger account) → volumes_in shares ledger account test names ≡ account_volumes (moves (log events ledger)) test account
  volumes_known test names exactly =
      same_assets (counted_in shares ledger account test) (volumes (moves (log events ledger)) test account)
      (filter (is_counted_in shares ledger account test) names) (assets (moves (log events ledger)) test account)
      (λ asset. ap (tally test) (moves_known asset))
      (λ asset.
      names-passing (is_counted_in shares ledger account test) names asset
      ∙ ap (λ (b : Bool). is_counted_in shares ledger account test asset && b) (exactly.members asset)
      ∙ counted_and_moved (part_moves ledger shares) test account asset
      ∙ ap (list_any test) (moves_known asset)
      ∙ sym (is_listed (moves (log events ledger)) test account asset))

-- ---- tests up to a date

pub by_insertion : (pit : Option ℤ) → is_between None pit true ≡ inserted_by pit
by_insertion pit = λ i m. and_true (is_to pit m.inserted) i

pub by_effect : (pit : Option ℤ) → is_between None pit false ≡ effective_by pit
by_effect pit = λ i m. and_true (is_to pit m.effective) i
