use Rattle.std.proofs.Common.{List, [], ◌∷◌, ◌++◌, sym, ap, subst, ◌∙◌, arith}
use Rattle.lg_types.specs.declared.records.Event.{Event}
use Rattle.lg_types.specs.Parts.{shares_of}
use Rattle.lg_shard.specs.declared.kept.KeptEvent.{KeptEvent}
use Rattle.lg_shard.specs.Following.{Follows}
use Rattle.lg_shard.specs.Held.{IsHeld, state_of}
use Rattle.lg_shard.specs.State.{StripeState, coming_shares}
use Rattle.lg_shard.proofs.HeldLemmas.{held-kept, held-push, room-for}
use Rattle.lg_shard.proofs.shard.Shard.prepare.Goals as goal

pub invariant_of-self-in_err-names : goal.invariant_of-self-in_err-names
invariant_of-self-in_err-names c =
    let x = c.self.inside in
    subst (λ (ks : List KeptEvent). IsHeld x.stripe ks x.applied c.prepare_event.new.ledgers) (sym c.reserve.ensures.items)
    (held-kept x.stripe x.events.items x.applied x.ledgers c.prepare_event.new.ledgers c.self.invariant (c.in_err-names.ensures.err _ _ c.self.invariant.tied) c.prepare_event.ensures.still)

pub invariant_of-self-2 : goal.invariant_of-self-2
invariant_of-self-2 c =
    let x = c.self.inside in
    let kept : KeptEvent = record { place = c.args.place; event = c.get.result.now; names = c.in_ok-names.names } in
    let follows : Follows (coming_shares (state_of x.stripe x.events.items x.applied)) (shares_of x.stripe c.args.place c.get.result.now) =
    subst (λ (event : Event). Follows (coming_shares (state_of x.stripe x.events.items x.applied)) (shares_of x.stripe c.args.place event)) (sym c.get.ensures)
    (subst (λ (v : StripeState). Follows (coming_shares v) (shares_of v.stripe c.args.place c.args.event.now)) (sym c.self.view_is) c.requires) in
    subst (λ (ks : List KeptEvent). IsHeld x.stripe ks x.applied c.prepare_event.new.ledgers)
    (sym (c.push_kept.ensures
    ∙ ap (λ (ks : List KeptEvent). ks ++ (record { place = c.args.place; event = c.in_ok-shared.shared; names = c.in_ok-names.names }) ∷ []) c.reserve.ensures.items
    ∙ ap (λ (event : Event). x.events.items ++ (record { place = c.args.place; event = event; names = c.in_ok-names.names }) ∷ []) (c.in_ok-shared.ensures ∙ sym c.get.ensures)))
    (held-push x.stripe x.events.items x.applied kept c.self.invariant.within x.ledgers c.prepare_event.new.ledgers c.self.invariant
    (c.in_ok-names.ensures.ok c.args.place _ _ (room-for x.stripe x.applied x.events.items _ (omega arith)) c.self.invariant.tied)
    c.prepare_event.ensures.still c.in_ok-names.ensures.ready follows)
