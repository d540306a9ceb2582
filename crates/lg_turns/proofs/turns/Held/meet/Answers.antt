use Rattle.std.proofs.Common.{refl, ap, ◌∙◌}
use Rattle.lg_turns.proofs.Places.{all-mapped}
use Rattle.lg_turns.proofs.turns.Held.meet.Goals as goal

pub invariant_of-result : goal.invariant_of-result
invariant_of-result g c =
    let e = c.meet_desk.ensures in
    (λ _. e.desk.1 ∙ ap (λ d. d.prepared) c.deref_mut.ensures.value ∙ c.lock_desk-desk.ensures.unprepared, rw e.desk.2 e.row)

pub returns-clause-parts : goal.returns-clause-parts
returns-clause-parts g c = let e = c.meet_desk.ensures in (e.parts ∙ c.self.view_is, refl, all-mapped _ _ _ _ e.row (λ k a s. s.unprepared refl))

pub returns-clause-shares : goal.returns-clause-shares
returns-clause-shares g c = let e = c.meet_desk.ensures in rw e.desk.2 (all-mapped _ _ _ _ e.row (λ k a s. s.shares_is))
