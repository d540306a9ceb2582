use Rattle.std.proofs.Common.{◌≡◌, ◌++◌, drop, slice_get, Some, sym, ap, subst, ◌∙◌}
use Rattle.lg_types.specs.Parts.{shares_of}
use Rattle.lg_shard.specs.State.{StripeState, placed}
use Rattle.lg_shard.proofs.HeldLemmas.{state-first}
use Rattle.lg_shard.proofs.shard.Shard.apply.Goals as goal

pub returns : goal.returns
returns c =
    let x = c.self.inside in
    state-first x.stripe x.events.items c.apply_next.new.events.items x.applied (placed c.args.place c.args.event.now)
    (subst (λ (v : StripeState). slice_get v.prepared 0 ≡ Some (placed c.args.place c.args.event.now)) (sym c.self.view_is) c.requires) c.apply_next.ensures.shown
    ∙ ap (λ (v : StripeState). let w : StripeState = record { stripe = v.stripe; shares = v.shares ++ shares_of v.stripe c.args.place c.args.event.now; prepared = drop 1 v.prepared } in w) c.self.view_is
