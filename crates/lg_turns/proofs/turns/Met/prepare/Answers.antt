use Rattle.std.specs.Prelude.{is_some}
use Rattle.std.proofs.Common.{◌≡◌, List, None, get_or, true, false, length, refl, sym, ap, ◌∙◌, arith}
use Rattle.lg_types.specs.declared.marks.Marked.{Marked}
use Rattle.lg_types.specs.Marked.{events_of}
use Rattle.lg_types.specs.Parts.{part_of}
use Rattle.lg_turns.proofs.Places.{held-more, held-within, all-mapped, same-both}
use Rattle.lg_turns.proofs.Stages.{stripe-to, stripe-of_staged, staged-flag}
use Rattle.lg_turns.proofs.turns.Met.prepare.Goals as goal

pub prepare_all-requires-clause-row : goal.prepare_all-requires-clause-row
prepare_all-requires-clause-row g c =
    let free = ap (λ m. m.prepared) c.self.view_is ∙ c.requires.free in
    held-more _ _ _ c.self.invariant.1 (λ k a lt h. stripe-to (λ _. free) (sym (ap (λ d. d.pen.me.0.seen) c.deref_mut.ensures.value)) h)

pub invariant_of-self : goal.invariant_of-self
invariant_of-self g c = ((λ q. absurd (let f : true ≡ false = q in cc)), held-more _ _ _ c.in-Ok.ensures.row (λ k a lt h. stripe-of_staged (sym c.prepare_all.ensures.desk.1) h))

pub invariant_of-self-in-Err : goal.invariant_of-self-in-Err
invariant_of-self-in-Err g c = ((λ _. c.in-Err.ensures.journal), held-more _ _ _ c.in-Err.ensures.row (λ k a lt h. stripe-to (λ _. refl) (sym c.prepare_all.ensures.desk.1) h))

pub returns-in-Ok-clause-shares : goal.returns-in-Ok-clause-shares
returns-in-Ok-clause-shares g c = all-mapped _ _ _ _ c.in-Ok.ensures.row (λ k a h. h.shares_is ∙ ap (λ (ms : List Marked). part_of k (events_of ms)) (sym c.prepare_all.ensures.desk.1))

pub returns-in-Ok-clause-done : goal.returns-in-Ok-clause-done
returns-in-Ok-clause-done g c =
    let held = held-within _ _ c.in-Ok.ensures.row in
    let places : length c.prepare_all.new.row ≡ 16 = c.in-Ok.ensures.length in (
      refl,
      record {
        parts = all-mapped _ _ _ _ held (λ k a h t. h.1.ready (omega arith) (omega (arith, h.0, places)) t);
        flags = all-mapped _ _ _ _ held (λ k a h. staged-flag (omega (arith, h.0, places)) h.1);
        the_journal = c.in-Ok.ensures.journal.0;
        room = c.in-Ok.ensures.journal.1;
      },
    )

pub returns-in-Err-clause-shares : goal.returns-in-Err-clause-shares
returns-in-Err-clause-shares g c = all-mapped _ _ _ _ c.in-Err.ensures.row (λ k a h. h.shares_is ∙ ap (λ (ms : List Marked). part_of k (events_of ms)) (sym c.prepare_all.ensures.desk.1))

pub returns-in-Ok-clause-stripes : goal.returns-in-Ok-clause-stripes
returns-in-Ok-clause-stripes g c = all-mapped _ _ _ _ c.in-Ok.ensures.row (λ k a h. h.stripe_is)

pub returns-in-Err-clause-stripes : goal.returns-in-Err-clause-stripes
returns-in-Err-clause-stripes g c = all-mapped _ _ _ _ c.in-Err.ensures.row (λ k a h. h.stripe_is)

pub returns-in-Ok-clause-held : goal.returns-in-Ok-clause-held
returns-in-Ok-clause-held g c = λ k. same-both _ _ _ c.prepare_all.ensures.held k ∙ ap (λ m. is_some (get_or m.parts k None)) c.self.view_is

pub returns-in-Err-clause-held : goal.returns-in-Err-clause-held
returns-in-Err-clause-held g c = λ k. same-both _ _ _ c.prepare_all.ensures.held k ∙ ap (λ m. is_some (get_or m.parts k None)) c.self.view_is
