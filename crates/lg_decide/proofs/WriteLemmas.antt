-- What each kind of write comes to, once it shows that what was looked up is what the log says.
use Rattle.std.proofs.Common.{◌≡◌, ℕ, ℤ, Bool, List, length, Option, option_and_then, option_copied, sym, ◌∙◌, ap, subst}
use Rattle.lg_types.specs.declared.calls.Write.{Write}
use Rattle.lg_types.specs.declared.calls.Write.TheVariants.{Create, Revert, SetMeta, DropMeta}
use Rattle.lg_types.specs.declared.records.Entry.{Entry}
use Rattle.lg_types.specs.declared.records.EntryBody.TheVariants.{NewTransaction, SetMetadata, DeleteMetadata}
use Rattle.lg_types.specs.declared.records.Posting.{Posting}
use Rattle.lg_types.specs.declared.records.Target.{Target}
use Rattle.lg_types.specs.declared.refusals.Refusal.{Refusal}
use Rattle.lg_types.specs.Changes.{MetaOf}
use Rattle.lg_types.specs.Known.{used, transactions}
use Rattle.lg_types.specs.Lists.{or_else}
use Rattle.lg_containers.specs.NameTable.{NameTable}
use Rattle.lg_views.specs.declared.decided.Decided.{Decided}
use Rattle.lg_views.specs.Writes.{granted_unless, is_used, new_transaction, if_target, decided}
use Rattle.lg_decide.specs.declared.looked.Looked.{Looked}
use Rattle.lg_decide.specs.Looking.{Shows, transaction_at, target_id}

module _ (g : List Entry) (date : ℤ) (write : Write) (looked : Looked) (tried : Option Refusal) (d : Decided) where
  pub as_created : (ps : List Posting) (reference : Option (List ℕ)) (timestamp : Option ℤ) (metadata : MetaOf) (accounts : NameTable MetaOf) (force : Bool) → write ≡ Create ps reference timestamp metadata accounts force
      → (looked.transactions ≡ length (transactions g) → looked.used ≡ option_and_then (used g) reference → d ≡ granted_unless (or_else tried (is_used g reference)) (NewTransaction (new_transaction g date ps metadata reference timestamp) accounts))
      → Shows g write looked tried → d ≡ decided g date write
  as_created ps reference timestamp metadata accounts force is h shows =
      let own : Shows g (Create ps reference timestamp metadata accounts force) looked tried = subst (λ w. Shows g w looked tried) is shows in
      h own.count own.referred
      ∙ ap (λ t. granted_unless (or_else t (is_used g reference)) (NewTransaction (new_transaction g date ps metadata reference timestamp) accounts)) own.refused
      ∙ ap (decided g date) (sym is)

  pub as_reverted : (id : ℕ) (force at_effective_date : Bool) → write ≡ Revert id force at_effective_date
      → (Shows g (Revert id force at_effective_date) looked tried → d ≡ decided g date (Revert id force at_effective_date))
      → Shows g write looked tried → d ≡ decided g date write
  as_reverted id force at_effective_date is h shows = h (subst (λ w. Shows g w looked tried) is shows) ∙ ap (decided g date) (sym is)

  pub as_set : (target : Target) (metadata : MetaOf) → write ≡ SetMeta target metadata
      → (option_copied looked.transaction ≡ option_and_then (transaction_at g) (target_id target) → d ≡ if_target g target (SetMetadata target metadata))
      → Shows g write looked tried → d ≡ decided g date write
  as_set target metadata is h shows =
      let own : Shows g (SetMeta target metadata) looked tried = subst (λ w. Shows g w looked tried) is shows in
      h own.known ∙ ap (decided g date) (sym is)

  pub as_dropped : (target : Target) (name : List ℕ) → write ≡ DropMeta target name
      → (option_copied looked.transaction ≡ option_and_then (transaction_at g) (target_id target) → d ≡ if_target g target (DeleteMetadata target name))
      → Shows g write looked tried → d ≡ decided g date write
  as_dropped target name is h shows =
      let own : Shows g (DropMeta target name) looked tried = subst (λ w. Shows g w looked tried) is shows in
      h own.known ∙ ap (decided g date) (sym is)
