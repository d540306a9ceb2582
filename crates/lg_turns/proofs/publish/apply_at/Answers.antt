use Rattle.std.specs.Prelude.{slice_get}
use Rattle.std.proofs.Common.{◌≡◌, ◌++◌, true, false, Some, sym, ap, subst, ◌∙◌, arith}
use Rattle.lg_types.specs.Parts.{part_of}
use Rattle.lg_turns.proofs.Places.{held-more, held-none, held-put, same-none, same-put}
use Rattle.lg_turns.proofs.Stages.{applying-skip, applying-else, applying-here}
use Rattle.lg_turns.proofs.publish.apply_at.Goals as goal

pub returns-then-not-has-clause-row : goal.returns-then-not-has-clause-row
returns-then-not-has-clause-row g c =
    let none : g.C.Change.touched c.args.change.now c.args.place ≡ false = sym (c.requires.set c.args.place c.requires.place) ∙ (sym c.has.ensures ∙ c.if-not-has.true) in
    held-more _ _ _ c.requires.row (λ k a lt h. applying-skip none (c.requires.quiet c.args.place c.requires.place none) h)

pub returns-in_default-clause-row : goal.returns-in_default-clause-row
returns-in_default-clause-row g c = rw (c.take.ensures.others, c.from.ensures) (held-none _ _ _ _ c.requires.row (λ k a n h. applying-else n h))

pub apply_slot-requires-clause-on : goal.apply_slot-requires-clause-on
apply_slot-requires-clause-on g c =
    let there = ap (slice_get c.args.row.now) (sym c.from.ensures) ∙ c.in-Some.ensures.value in
    let r = c.requires.row c.args.place c.in-Some.guard there in
    let yes : g.C.Change.touched c.args.change.now c.args.place ≡ true = sym (c.requires.set c.args.place c.requires.place) ∙ (sym c.has.ensures ∙ c.if-not-has.false) in
    subst (λ s. g.C.Change.on_part c.args.change.now s.part) (sym c.deref_mut.ensures.value) (r.ready (omega arith) yes)

pub apply_slot-requires-clause-shares : goal.apply_slot-requires-clause-shares
apply_slot-requires-clause-shares g c =
    let there = ap (slice_get c.args.row.now) (sym c.from.ensures) ∙ c.in-Some.ensures.value in
    let r = c.requires.row c.args.place c.in-Some.guard there in
    let events = g.J.Journal.events c.args.before.now.value in
    let v = c.deref_mut.ensures.value in
    ap (λ s. g.P.Part.shares s.part) v ∙ (r.shares_is (omega arith) ∙ (ap (λ j. part_of j events) (sym r.stripe_is) ∙ ap (λ s. part_of (g.P.Part.stripe_of s.part) events) (sym v)))

pub returns-clause-row : goal.returns-clause-row
returns-clause-row g c =
    let there = ap (slice_get c.args.row.now) (sym c.from.ensures) ∙ c.in-Some.ensures.value in
    let r = c.requires.row c.args.place c.in-Some.guard there in
    let events = g.J.Journal.events c.args.before.now.value ++ g.C.Change.added c.args.change.now in
    let v = c.deref_mut.ensures.value in
    let e = c.apply_slot.ensures in
    let stripe = ap (λ s. g.P.Part.stripe_of s.part) v ∙ r.stripe_is in
    rw (c.put.ensures.others, c.take.ensures.others, c.from.ensures, c.from-2.ensures) (held-put _ _ _ _ _ c.requires.row (λ k a n h. applying-else n h)
    (applying-here (e.stripe ∙ stripe) e.known (e.shares ∙ ap (λ j. part_of j events) stripe) e.clean))

pub returns-in_default-clause-held : goal.returns-in_default-clause-held
returns-in_default-clause-held g c = rw c.take.ensures.others (same-none _ _ (c.take.ensures.value ∙ ap Some c.in_default.is))

pub returns-clause-held : goal.returns-clause-held
returns-clause-held g c =
    let there = ap (slice_get c.args.row.now) (sym c.from.ensures) ∙ c.in-Some.ensures.value in
    rw (c.put.ensures.others, c.take.ensures.others, c.from.ensures, c.from-2.ensures) (same-put _ _ _ _ there)
