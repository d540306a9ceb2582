-- The sixteen shards of a list of events, lent to a call.
use Rattle.std.proofs.Common.{◌≡◌, ℕ, ◌<◌, true, false, List, [], sym, ap, subst, refl}
use Rattle.std.specs.Prelude.{Option, Some, None, IsSome, slice_get}
use Rattle.std.specs.Option.{IsSomeAnd}
use Rattle.std.proofs.lemmas.Option.{slice_get-get_or}
use Rattle.lg_types.specs.declared.calls.Call.{Call}
use Rattle.lg_types.specs.declared.calls.Call.TheVariants.{Read as ReadCall}
use Rattle.lg_types.specs.declared.queries.Read.{Read}
use Rattle.lg_types.specs.declared.records.Event.{Event}
use Rattle.lg_types.specs.declared.records.Transaction.{Transaction}
use Rattle.lg_types.specs.Log.{log}
use Rattle.lg_types.specs.Parts.{part_of}
use Rattle.lg_shard.specs.State.{StripeState}
use Rattle.lg_weigh.specs.Lent.{AreLent, AreParts}
use Rattle.lg_weigh.specs.Reach.{needs}
use Rattle.lg_weigh.proofs.LentLemmas.{all_lent}
use Rattle.lg_plan.specs.Events.{AreShards}
use Rattle.lg_query.specs.Asked.{AreReady, named_transaction}

no_shard : StripeState
no_shard = record { stripe = 0; shares = []; prepared = [] }

is_there : (events : List Event) (shards : List StripeState) → AreShards events [] shards → (k : ℕ) → k < 16 → IsSome (slice_get shards k)
is_there events shards h k below =
    subst (λ (o : Option StripeState). IsSome o) (sym (slice_get-get_or shards k no_shard (subst (λ (n : ℕ). k < n) (sym h.count) below))) refl

-- the shards of all stripes are lent to any call
pub every_lent : (events : List Event) (shards : List StripeState) (call : Call) (known : Option Transaction) → AreShards events [] shards → AreLent (needs call known) (λ k. slice_get shards k)
every_lent events shards call known h = all_lent (λ k. slice_get shards k) call known (is_there events shards h)

some_and : (o : Option StripeState) (P : StripeState → Type 0) → IsSome o → ((s : StripeState) → o ≡ Some s → P s) → IsSomeAnd o P
some_and None P h f = absurd (let no : false ≡ true = h in cc)
some_and (Some s) P h f = f s refl

-- and they are the parts of the events
pub every_part : (events : List Event) (shards : List StripeState) (call : Call) (known : Option Transaction) → AreShards events [] shards → AreParts (needs call known) (λ k. slice_get shards k) events
every_part events shards call known h =
    let lent : AreLent (needs call known) (λ k. slice_get shards k) = every_lent events shards call known h in
    record {
      each = λ k wanted. some_and (slice_get shards k) (λ state. state.shares ≡ part_of k events) (lent.each k wanted) (λ s is. ap (λ (x : StripeState). x.shares) (h.each k s is));
    }

-- so a reading of a ledger is ready
pub always_ready : (events : List Event) (shards : List StripeState) (ledger : List ℕ) (read : Read) → AreShards events [] shards → AreReady (λ k. slice_get shards k) events ledger read
always_ready events shards ledger read h = record {
  all = every_lent events shards (ReadCall ledger read) (named_transaction (log events ledger) read) h;
  parts = every_part events shards (ReadCall ledger read) (named_transaction (log events ledger) read) h;
}
