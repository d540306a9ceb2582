-- The shard of an account's stripe, where a reading of the account is ready, holds the stripe's part of the events.
use Rattle.std.proofs.Common.{◌≡◌, ℕ, ℤ, Bool, true, ◌||◌, List, Some, sym, ap, subst, ◌∙◌, false, arith}
use Rattle.std.specs.Prelude.{Option, nat_eq}
use Rattle.std.specs.Option.{IsSomeAnd}
use Rattle.std.proofs.lemmas.Bool.Decides.{nat_tests}
use Rattle.lg_types.specs.declared.classes.Class.TheVariants.{Account as AccountClass}
use Rattle.lg_types.specs.declared.queries.Expand.{Expand}
use Rattle.lg_types.specs.declared.queries.Read.TheVariants.{Account}
use Rattle.lg_types.specs.declared.records.Event.{Event}
use Rattle.lg_types.specs.Parts.{part_of}
use Rattle.lg_types.specs.Stripes.{stripe}
use Rattle.lg_shard.specs.State.{StripeState}
use Rattle.lg_query.specs.Asked.{AreReady}

itself : (n : ℕ) → nat_eq n n ≡ true
itself n = grind (arith, nat_tests)

some_and : (o : Option StripeState) (P : StripeState → Type 0) (state : StripeState) → o ≡ Some state → IsSomeAnd o P → P state
some_and o P state is h = subst (λ (x : Option StripeState). IsSomeAnd x P) is h

pub own_part : (lent : ℕ → Option StripeState) (events : List Event) (ledger address : List ℕ) (pit : Option ℤ) (expand : Expand) (k : ℕ) (state : StripeState)
    → AreReady lent events ledger (Account address pit expand) → k ≡ stripe AccountClass ledger address → Some state ≡ lent k → state.shares ≡ part_of (stripe AccountClass ledger address) events
own_part lent events ledger address pit expand k state ready is found =
    let own : ℕ = stripe AccountClass ledger address in
    let needed : (nat_eq own own || false) ≡ true = ap (λ (b : Bool). b || false) (itself own) in
    some_and (lent own) (λ s. s.shares ≡ part_of own events) state (ap lent (sym is) ∙ sym found) (ready.parts.each own needed)
