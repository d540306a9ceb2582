use Rattle.std.proofs.Common.{◌≡◌, true, [], length, sym, ap, subst, ◌∙◌}
use Rattle.lg_types.specs.Lists.{Each}
use Rattle.lg_types.specs.Marked.{events_of}
use Rattle.lg_types.specs.Parts.{part_of}
use Rattle.lg_types.proofs.Shares.{part-nil}
use Rattle.lg_turns.proofs.Fronts.{each-front}
use Rattle.lg_turns.proofs.start.lock_part.Goals as goal

pub invariant_of-new : goal.invariant_of-new
invariant_of-new g c =
    let idle = c.idle-idle.ensures.idle in
    let stripe = g.P.Part.stripe_of c.in-Some.part in
    let facts = each-front (λ p. (g.P.Part.clean p ≡ true) × (g.P.Part.shares p ≡ [])) c.pop.new.self.items c.in-Some.part (subst (λ ps. Each (λ p. (g.P.Part.clean p ≡ true) × (g.P.Part.shares p ≡ [])) ps) c.in-Some.ensures.items c.requires.parts) in record {
      named = c.idle-idle.ensures.table.1;
      empty = c.idle-idle.ensures.slots.1;
      idle = (ap (λ v. v.pen) idle, ap (λ v. v.weight) idle, ap (λ v. v.made) idle);
      known_is = ap (λ v. length v.seen) idle;
      is_part = facts.1.1 ∙ sym (ap (λ v. part_of stripe (events_of v.seen)) idle ∙ part-nil 0 stripe);
      clean = λ _. facts.1.0;
    }
