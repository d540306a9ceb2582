-- An account is there at a date by what the shard of its stripe knows of it.
use Rattle.std.proofs.Common.{◌≡◌, ℕ, ℤ, Bool, true, false, ◌&&◌, ◌||◌, List, sym, ap, ap₂, subst, ◌∙◌}
use Rattle.std.specs.Prelude.{Option, None}
use Rattle.std.specs.List.{list_any}
use Rattle.std.specs.Str.{bytes_eq}
use Rattle.lg_meta.specs.declared.change.DatedChange.{DatedChange}
use Rattle.lg_meta.specs.MetaFold.{first_date}
use Rattle.lg_types.specs.declared.classes.Class.TheVariants.{Account as AccountClass}
use Rattle.lg_types.specs.declared.moves.Move.{Move}
use Rattle.lg_types.specs.declared.records.Event.{Event}
use Rattle.lg_types.specs.declared.records.Target.TheVariants.{Account}
use Rattle.lg_types.specs.Log.{log}
use Rattle.lg_types.specs.Moves.{Placed, is_of, moves, pair_moves}
use Rattle.lg_types.specs.Parts.{Share, part_moves, part_of}
use Rattle.lg_types.specs.PartLaws.{is_account}
use Rattle.lg_types.specs.Stripes.{stripe}
use Rattle.lg_types.specs.Tally.{is_between}
use Rattle.lg_views.specs.Reads.{is_account_at}
use Rattle.lg_shard.specs.Shown.{ListsExactly, account_changes, is_moved}
use Rattle.lg_shard.proofs.AccountLemmas.{bytes_same, bytes_itself}
use Rattle.lg_accounts.specs.Dates.{NeverFall, is_begun}
use Rattle.lg_accounts.specs.Volumes.{is_counted_in}
use Rattle.lg_accounts.proofs.Begun.{changed_by}
use Rattle.lg_accounts.proofs.Known.{and_true, any-same, any_of_pair, by_effect, by_insertion, changes_known, moves_known}
use Rattle.lg_accounts.proofs.Moved.{alike, any_asset}
use Rattle.lg_accounts.proofs.Named.{is_move_of, there_at}

turned : (x y : List ℕ) → bytes_eq x y ≡ true → bytes_eq y x ≡ true
turned x y h = subst (λ (z : List ℕ). bytes_eq z x ≡ true) (bytes_same x y h) (bytes_itself x)

either_way : (x y : List ℕ) → bytes_eq x y ≡ bytes_eq y x
either_way x y = alike (bytes_eq x y) (bytes_eq y x) (turned x y) (turned y x)

any_of_it : (ms : List Placed) (account asset : List ℕ) → list_any (λ (m : Move). true) (pair_moves ms account asset) ≡ list_any (is_of account asset) ms
any_of_it ms account asset =
    any_of_pair ms (λ (m : Move). true) account asset
    ∙ any-same (λ m. is_of account asset m && true) (is_of account asset) (λ m. and_true (is_of account asset m)) ms

module _ (shares : List Share) (events : List Event) (ledger account : List ℕ) (known : shares ≡ part_of (stripe AccountClass ledger account) events) (names : List (List ℕ)) (exactly : ListsExactly names (is_moved shares ledger account)) where
  members : (name : List ℕ) → list_any (is_account name) names ≡ list_any (is_of account name) (moves (log events ledger))
  members name =
      exactly.members name
      ∙ sym (any_of_it (part_moves ledger shares) account name)
      ∙ ap (list_any (λ (m : Move). true)) (moves_known shares events ledger account known name)
      ∙ any_of_it (moves (log events ledger)) account name

  counted : (test : Move → Bool) → list_any (is_counted_in shares ledger account test) names ≡ list_any (is_move_of account test) (moves (log events ledger))
  counted test =
      any-same (is_counted_in shares ledger account test) (λ asset. list_any test (pair_moves (moves (log events ledger)) account asset)) (λ asset. ap (list_any test) (moves_known shares events ledger account known asset)) names
      ∙ any_asset (moves (log events ledger)) test account names members

  pub there_known : NeverFall (log events ledger) → (pit : Option ℤ)
      → ((is_begun pit (first_date (account_changes shares ledger account)) || list_any (is_counted_in shares ledger account (is_between None pit true)) names) || list_any (is_counted_in shares ledger account (is_between None pit false)) names)
      ≡ is_account_at (log events ledger) pit account
  there_known rise pit =
      ap₂ (λ (x y : Bool). x || y)
      (ap₂ (λ (x y : Bool). x || y)
      (ap (λ (ds : List DatedChange). is_begun pit (first_date ds)) (changes_known shares events ledger account known) ∙ sym (changed_by (Account account) pit (log events ledger) rise))
      (counted (is_between None pit true) ∙ ap (λ (test : Move → Bool). list_any (is_move_of account test) (moves (log events ledger))) (by_insertion pit)))
      (counted (is_between None pit false) ∙ ap (λ (test : Move → Bool). list_any (is_move_of account test) (moves (log events ledger))) (by_effect pit))
      ∙ sym (there_at account (either_way account) pit (log events ledger))
