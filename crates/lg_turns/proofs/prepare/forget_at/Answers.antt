use Rattle.std.specs.Prelude.{slice_get}
use Rattle.std.proofs.Common.{◌≡◌, true, false, Some, sym, ap, subst, ◌∙◌, arith}
use Rattle.lg_turns.proofs.Places.{held-more, held-none, held-put, same-none, same-put}
use Rattle.lg_turns.proofs.Stages.{forgotten-skip, forgotten-else, forgotten-here}
use Rattle.lg_turns.proofs.prepare.forget_at.Goals as goal

pub returns-then-not-has-clause-row : goal.returns-then-not-has-clause-row
returns-then-not-has-clause-row g c =
    let none : g.C.Change.touched c.args.change.now c.args.place ≡ false = sym (c.requires.set c.args.place (omega arith)) ∙ (sym c.has.ensures ∙ c.if-not-has.true) in
    held-more _ _ _ c.requires.row (λ k a lt h. forgotten-skip none h)

pub returns-in_default-clause-row : goal.returns-in_default-clause-row
returns-in_default-clause-row g c = rw (c.take.ensures.others, c.from.ensures) (held-none _ _ _ _ c.requires.row (λ k a n h. forgotten-else n h))

pub forget_slot-requires : goal.forget_slot-requires
forget_slot-requires g c =
    let there = ap (slice_get c.args.row.now) (sym c.from.ensures) ∙ c.in-Some.ensures.value in
    let r = c.requires.row c.args.place c.in-Some.guard there in
    let yes : g.C.Change.touched c.args.change.now c.args.place ≡ true = sym (c.requires.set c.args.place (omega arith)) ∙ (sym c.has.ensures ∙ c.if-not-has.false) in
    subst (λ s. g.C.Change.on_part c.args.change.now s.part) (sym c.deref_mut.ensures.value) (r.ready (omega arith) (omega arith) yes)

pub returns-clause-row : goal.returns-clause-row
returns-clause-row g c =
    let there = ap (slice_get c.args.row.now) (sym c.from.ensures) ∙ c.in-Some.ensures.value in
    let r = c.requires.row c.args.place c.in-Some.guard there in
    let e = c.forget_slot.ensures in
    let v = c.deref_mut.ensures.value in
    let known = e.slot.2 ∙ ap (λ s. s.known) v in
    rw (c.put.ensures.others, c.take.ensures.others, c.from.ensures, c.from-2.ensures) (held-put _ _ _ _ _ c.requires.row (λ k a n h. forgotten-else n h)
    (forgotten-here (e.slot.1 ∙ ap (λ s. g.P.Part.stripe_of s.part) v ∙ r.stripe_is) (omega (arith, known, r.known_fits)) (e.slot.0 ∙ ap (λ s. g.P.Part.shares s.part) v ∙ r.shares_is) e.forgotten))

pub returns-in_default-clause-held : goal.returns-in_default-clause-held
returns-in_default-clause-held g c = rw c.take.ensures.others (same-none _ _ (c.take.ensures.value ∙ ap Some c.in_default.is))

pub returns-clause-held : goal.returns-clause-held
returns-clause-held g c =
    let there = ap (slice_get c.args.row.now) (sym c.from.ensures) ∙ c.in-Some.ensures.value in
    rw (c.put.ensures.others, c.take.ensures.others, c.from.ensures, c.from-2.ensures) (same-put _ _ _ _ there)
