use Rattle.std.proofs.Common.{◌≡◌, ℕ, List, false, ap, sym, subst, ◌∙◌, position}
use Rattle.std.specs.Prelude.{codes}
use Rattle.std.specs.Str.{bytes_eq}
use Rattle.lg_readings.specs.Values.{present_in}
use Rattle.lg_batch.proofs.TakenOut.{is_called, value_at, value_nowhere, called, kept}
use Rattle.lg_batch.proofs.bodies.take_body.Goals as goal

pub returns-in-Some-clause-body : goal.returns-in-Some-clause-body
returns-in-Some-clause-body c =
    let at = ap (position (is_called (codes "body"))) (sym c.as_slice.ensures) ∙ sym c.body_place.ensures ∙ c.in-Some.is in
    c.value_in.ensures ∙ ap present_in (sym (value_at (codes "body") c.args.members.now c.in-Some.place c.remove.result at c.remove.ensures.item))

pub returns-in-Some-clause-others : goal.returns-in-Some-clause-others
returns-in-Some-clause-others c = λ name h.
    let at = ap (position (is_called (codes "body"))) (sym c.as_slice.ensures) ∙ sym c.body_place.ensures ∙ c.in-Some.is in
    let other : bytes_eq c.remove.result.name name ≡ false =
    subst (λ (x : List ℕ). bytes_eq x name ≡ false) (sym (called (codes "body") c.args.members.now c.in-Some.place c.remove.result at c.remove.ensures.item)) h in
    rw c.remove.ensures.rest (kept name c.args.members.now c.in-Some.place c.remove.result c.remove.ensures.item other)

pub returns-in-None-clause-body : goal.returns-in-None-clause-body
returns-in-None-clause-body c =
    ap present_in (sym (value_nowhere (codes "body") c.args.members.now (ap (position (is_called (codes "body"))) (sym c.as_slice.ensures) ∙ sym c.body_place.ensures ∙ c.in-None.is)))
