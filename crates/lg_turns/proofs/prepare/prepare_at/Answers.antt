use Rattle.std.specs.Prelude.{slice_get}
use Rattle.std.proofs.Common.{◌≡◌, ◌≤◌, true, false, length, Some, refl, sym, ap, ◌∙◌, arith}
use Rattle.lg_types.specs.Marked.{events_of}
use Rattle.lg_types.specs.Parts.{part_of}
use Rattle.lg_turns.proofs.Places.{held-more, held-none, held-put, same-none, same-put}
use Rattle.lg_turns.proofs.Stages.{staged-skip, staged-more, staged-same, staged-new, staged-failed, staged-clean, match-both}
use Rattle.lg_turns.proofs.prepare.prepare_at.Goals as goal

pub returns-then-not-has-clause-row : goal.returns-then-not-has-clause-row
returns-then-not-has-clause-row g c =
    let none : g.C.Change.touched c.args.change.now c.args.place ≡ false = sym (c.requires.set c.args.place (omega arith)) ∙ (sym c.has.ensures ∙ c.if-not-has.true) in
    held-more _ _ _ c.requires.row (λ k a lt h. staged-skip none h)

pub returns-in_default-clause-row : goal.returns-in_default-clause-row
returns-in_default-clause-row g c = rw (c.take.ensures.others, c.from.ensures) (held-none _ _ _ _ c.requires.row (λ k a n h. staged-more n refl (λ o. o) h))

pub prepare_slot-prepared-requires-clause-clean : goal.prepare_slot-prepared-requires-clause-clean
prepare_slot-prepared-requires-clause-clean g c =
    let there = ap (slice_get c.args.row.now) (sym c.from.ensures) ∙ c.in-Some.ensures.value in
    let r = c.requires.row c.args.place c.in-Some.guard there in
    rw c.deref_mut.ensures.value (staged-clean r)

pub prepare_slot-prepared-requires-clause-fits : goal.prepare_slot-prepared-requires-clause-fits
prepare_slot-prepared-requires-clause-fits g c =
    let there = ap (slice_get c.args.row.now) (sym c.from.ensures) ∙ c.in-Some.ensures.value in
    let r = c.requires.row c.args.place c.in-Some.guard there in
    let events = events_of c.args.pen.now.me.0.seen in
    rw c.deref_mut.ensures.value (events, c.requires.fits, r.shares_is ∙ ap (λ j. part_of j events) (sym r.stripe_is))

pub returns-clause-row : goal.returns-clause-row
returns-clause-row g c =
    let there = ap (slice_get c.args.row.now) (sym c.from.ensures) ∙ c.in-Some.ensures.value in
    let r = c.requires.row c.args.place c.in-Some.guard there in
    let e = c.prepare_slot-prepared.ensures in
    let v = c.deref_mut.ensures.value in
    let known = e.slot.2 ∙ ap (λ s. s.known) v in
    let fits : c.prepare_slot-prepared.new.slot.known ≤ length c.args.pen.now.me.0.seen = omega (arith, known, r.known_fits) in
    let stripe = e.slot.1 ∙ ap (λ s. g.P.Part.stripe_of s.part) v ∙ r.stripe_is in
    let shares = e.slot.0 ∙ ap (λ s. g.P.Part.shares s.part) v ∙ r.shares_is in
    let yes : g.C.Change.touched c.prepare_slot-prepared.new.change c.args.place ≡ true = ap (λ t. t c.args.place) e.same.2 ∙ (sym (c.requires.set c.args.place (omega arith)) ∙ (sym c.has.ensures ∙ c.if-not-has.false)) in
    rw (c.put.ensures.others, c.take.ensures.others, c.from.ensures, c.from-2.ensures) (match-both c.prepare_slot-prepared.result
    (λ h. held-put _ _ _ _ _ c.requires.row (λ k a n q. staged-more n e.same.2 (e.others _) q) (staged-new stripe fits shares h.1 yes h.0))
    (λ h. held-put _ _ _ _ _ c.requires.row (λ k a n q. staged-same e.same.2 (e.others _) q) (staged-failed stripe fits shares h))
    e.prepared)

pub returns-in_default-clause-held : goal.returns-in_default-clause-held
returns-in_default-clause-held g c = rw c.take.ensures.others (same-none _ _ (c.take.ensures.value ∙ ap Some c.in_default.is))

pub returns-clause-held : goal.returns-clause-held
returns-clause-held g c =
    let there = ap (slice_get c.args.row.now) (sym c.from.ensures) ∙ c.in-Some.ensures.value in
    rw (c.put.ensures.others, c.take.ensures.others, c.from.ensures, c.from-2.ensures) (same-put _ _ _ _ there)
