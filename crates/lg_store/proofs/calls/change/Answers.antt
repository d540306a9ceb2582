use Rattle.std.proofs.Common.{ℤ, subst, w64}
use Rattle.std.proofs.lemmas.Int.{to_z-of_z}
use Rattle.std.proofs.lemmas.Result.{IfOk-weaker}
use Rattle.lg_decide.specs.declared.decisions.Decision.{Decision}
use Rattle.lg_decide.specs.declared.decisions.Decision.TheVariants.{Kept}
use Rattle.lg_decide.specs.Decisions.{IsOutcome}
use Rattle.lg_store.proofs.DoneCalls.{kept_done}
use Rattle.lg_store.proofs.calls.change.Goals as goal

pub returns-in-Kept-clause-done : goal.returns-in-Kept-clause-done
returns-in-Kept-clause-done c =
    let is : IsOutcome c.args.book.now.events c.args.call.now c.args.now (Kept c.in-Kept.entry) = subst (λ (d : Decision). IsOutcome c.args.book.now.events c.args.call.now c.args.now d) c.in-Kept.is (subst (λ (t : ℤ). IsOutcome c.args.book.now.events c.args.call.now t c.in_ok-refusal.field-0) (to_z-of_z w64 c.args.now c.ranges.now) c.in_ok-refusal.ensures) in
    IfOk-weaker c.repeat.result _ _ (kept_done c.args.book.now.events c.args.call.now c.args.now c.in-Kept.entry c.ledger_of.result.now c.ledger_of.ensures is) c.repeat.ensures
