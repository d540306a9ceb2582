use Rattle.std.specs.Sync.Mutex.{mutex_guard_value}
use Rattle.std.proofs.Common.{◌≡◌, Some, ap, ◌∙◌, arith}
use Rattle.lg_turns.proofs.Places.{held-none, held-put, mapped-none, mapped-put}
use Rattle.lg_turns.proofs.Stages.{refreshing-else, refreshing-here}
use Rattle.lg_turns.proofs.rows.refresh_at.Goals as goal

pub returns-in_default-clause-row : goal.returns-in_default-clause-row
returns-in_default-clause-row g c = rw c.take.ensures.others (held-none _ _ _ _ c.requires.row (λ k a n h. refreshing-else n h))

pub returns-in_default-clause-parts : goal.returns-in_default-clause-parts
returns-in_default-clause-parts g c = rw c.take.ensures.others (mapped-none _ _ _ (c.take.ensures.value ∙ ap Some c.in_default.is))

pub refresh_slot-requires-clause-current : goal.refresh_slot-requires-clause-current
refresh_slot-requires-clause-current g c =
    let r = (c.requires.row c.args.place c.in-Some.guard c.in-Some.ensures.value).after (omega arith) in
    rw c.deref_mut.ensures.value r.current

pub refresh_slot-requires-clause-quiet : goal.refresh_slot-requires-clause-quiet
refresh_slot-requires-clause-quiet g c =
    let r = (c.requires.row c.args.place c.in-Some.guard c.in-Some.ensures.value).after (omega arith) in
    rw (c.deref_mut.ensures.value, r.stripe_is) (c.requires.quiet c.args.place c.requires.place)

pub returns-clause-row : goal.returns-clause-row
returns-clause-row g c =
    let r = (c.requires.row c.args.place c.in-Some.guard c.in-Some.ensures.value).after (omega arith) in
    let e = c.refresh_slot.ensures in
    let part : c.refresh_slot.new.slot.part ≡ (mutex_guard_value c.in-Some.guard).part = e.same.0 ∙ ap (λ s. s.part) c.deref_mut.ensures.value in
    rw (c.put.ensures.others, c.take.ensures.others) (held-put _ _ _ _ _ c.requires.row (λ k a n h. refreshing-else n h)
    (refreshing-here (ap g.P.Part.stripe_of part ∙ r.stripe_is) (e.same.1 ∙ ap (λ s. s.prepared) c.deref_mut.ensures.value ∙ r.unprepared) e.known e.shares))

pub returns-clause-parts : goal.returns-clause-parts
returns-clause-parts g c =
    let part : c.refresh_slot.new.slot.part ≡ (mutex_guard_value c.in-Some.guard).part = c.refresh_slot.ensures.same.0 ∙ ap (λ s. s.part) c.deref_mut.ensures.value in
    rw (c.put.ensures.others, c.take.ensures.others) (mapped-put _ _ _ _ _ c.in-Some.ensures.value part)
