use Rattle.std.proofs.Common.{◌-◌, List, [], length, take, drop, sym, ap, subst, ◌∙◌}
use Rattle.std.specs.List.{drop-map}
use Rattle.std.proofs.lemmas.List.{take_rest}
use Rattle.lg_shard.specs.declared.kept.KeptEvent.{KeptEvent}
use Rattle.lg_shard.specs.Held.{IsHeld, shown, all_shown, shares_done, state_of}
use Rattle.lg_shard.specs.State.{PlacedEvent, StripeState, all_shares}
use Rattle.lg_shard.specs.Ties.{LedgersTied}
use Rattle.lg_shard.proofs.HeldLemmas.{held-cut, state-cut}
use Rattle.lg_shard.proofs.shard.Shard.forget.Goals as goal

pub invariant_of-self : goal.invariant_of-self
invariant_of-self c =
    let x = c.self.inside in
    subst (λ (ks : List KeptEvent). IsHeld x.stripe ks x.applied c.release_events.new.ledgers) (sym c.truncate.ensures.items)
    (held-cut x.stripe x.events.items x.applied c.release_events.new.ledgers c.self.invariant.within c.self.invariant.limits (c.release_events.ensures _
    (subst (λ (ps : List PlacedEvent). LedgersTied x.ledgers (shares_done x.stripe x.applied (all_shown x.events.items)) (all_shares x.stripe ps)) (drop-map shown x.applied x.events.items ∙ ap all_shown (sym (take_rest x.events.items x.applied) ∙ ap (λ (ks : List KeptEvent). take (length ks - x.applied) (drop x.applied ks)) (sym c.deref.ensures.value))) c.self.invariant.tied)))

pub returns : goal.returns
returns c =
    let x = c.self.inside in
    ap (λ (ks : List KeptEvent). state_of x.stripe ks x.applied) c.truncate.ensures.items
    ∙ state-cut x.stripe x.events.items x.applied
    ∙ ap (λ (v : StripeState). let w : StripeState = record { stripe = v.stripe; shares = v.shares; prepared = [] } in w) c.self.view_is
