use Rattle.std.specs.Sync.Mutex.{mutex_guard_value}
use Rattle.std.specs.Prelude.{is_some}
use Rattle.std.proofs.Common.{◌≡◌, true, None, get_or, sym, ap, subst, ◌∙◌, arith}
use Rattle.lg_types.specs.Marked.{events_of}
use Rattle.lg_types.specs.Parts.{part_of}
use Rattle.lg_turns.specs.Rows.{AllHeld}
use Rattle.lg_turns.proofs.Places.{held-more, within, all-mapped, all-of_mapped, same-both}
use Rattle.lg_turns.proofs.Stages.{staged-of, stripe-of_applied}
use Rattle.lg_turns.proofs.Touched.{grown_events}
use Rattle.lg_turns.proofs.turns.Met.publish.Goals as goal

pub publish_all-requires-clause-row : goal.publish_all-requires-clause-row
publish_all-requires-clause-row g c =
    let ready = c.requires.prepared.1 in
    let touched = g.C.Change.touched c.args.change in
    let parts = all-of_mapped c.self.inside.guards (λ a. (mutex_guard_value a).part) (λ k p. touched k ≡ true → g.C.Change.on_part c.args.change p) (subst (λ ps. AllHeld ps (λ k p. touched k ≡ true → g.C.Change.on_part c.args.change p)) (sym (ap (λ m. m.parts) c.self.view_is)) ready.parts) in
    let flags = all-of_mapped c.self.inside.guards (λ a. (mutex_guard_value a).prepared) (λ k b. b ≡ touched k) (subst (λ bs. AllHeld bs (λ k b. b ≡ touched k)) (sym (ap (λ m. m.dirty) c.self.view_is)) ready.flags) in
    let seen = sym (ap (λ d. d.pen.me.0.seen) c.deref_mut.ensures.value) in
    λ k a e. staged-of (let lt = within _ k a e in omega (arith, lt, c.len-places.ensures.1)) (parts k a e) (flags k a e) seen (c.self.invariant.1 k a e)

pub invariant_of-self : goal.invariant_of-self
invariant_of-self g c =
    let d = c.deref_mut.result.now in
    let e = c.publish_all.ensures in
    let grows = sym (ap events_of e.desk.0 ∙ grown_events d.pen.me.0.seen (g.C.Change.mark c.args.change) (g.C.Change.added c.args.change) (g.J.Journal.events d.journal) d.list) in
    ((λ _. e.desk.2), held-more _ _ _ e.row (λ k a lt h. stripe-of_applied grows h))

pub returns-clause-parts : goal.returns-clause-parts
returns-clause-parts g c =
    let d = c.deref_mut.result.now in
    let e = c.publish_all.ensures in
    let grows = sym (ap events_of e.desk.0 ∙ grown_events d.pen.me.0.seen (g.C.Change.mark c.args.change) (g.C.Change.added c.args.change) (g.J.Journal.events d.journal) d.list) in
    all-mapped _ _ _ _ e.row (λ k a h. h.shares_is ∙ ap (part_of k) grows)

pub returns-clause-stripes : goal.returns-clause-stripes
returns-clause-stripes g c = all-mapped _ _ _ _ c.publish_all.ensures.row (λ k a h. h.stripe_is)

pub returns-clause-held : goal.returns-clause-held
returns-clause-held g c = λ k. same-both _ _ _ c.publish_all.ensures.held k ∙ ap (λ m. is_some (get_or m.parts k None)) c.self.view_is
