use Rattle.std.proofs.Common.{◌≡◌, ℤ, length, sym, subst, ◌∙◌, w64}
use Rattle.std.specs.Prelude.{IfOk}
use Rattle.std.proofs.lemmas.Int.{to_z-of_z}
use Rattle.lg_views.specs.Writes.{written}
use Rattle.lg_decide.specs.Deciding.{write_decision}
use Rattle.std.proofs.lemmas.Result.{IfOk-weaker}
use Rattle.lg_types.specs.Log.{log, is_there}
use Rattle.lg_decide.proofs.PlanLemmas.{count_there, none_counted, unknown-decision, there-decision}
use Rattle.lg_decide.proofs.logged.decide_by_log.Goals as goal

pub decide_there-requires : goal.decide_there-requires
decide_there-requires g c =
    let events = c.args.book.now.events in
    let counted = count_there (is_there events c.args.ledger.now) c.in-Some.entries (length (log events c.args.ledger.now)) (sym c.in-Some.is ∙ c.log_len.ensures) in
    record { there = counted.0; count = counted.1; ground = c.requires.ground; weighed = c.requires.weighed }

pub returns-in-None : goal.returns-in-None
returns-in-None g c =
    let events = c.args.book.now.events in
    IfOk-weaker c.refuse_unknown.result _ _
    (λ d is. unknown-decision events c.args.ledger.now c.args.key.now c.args.write.now c.args.now d (none_counted (is_there events c.args.ledger.now) (length (log events c.args.ledger.now)) (sym c.in-None.is ∙ c.log_len.ensures)) is)
    c.refuse_unknown.ensures

pub returns-in-Some : goal.returns-in-Some
returns-in-Some g c =
    let events = c.args.book.now.events in
    let counted = count_there (is_there events c.args.ledger.now) c.in-Some.entries (length (log events c.args.ledger.now)) (sym c.in-Some.is ∙ c.log_len.ensures) in
    IfOk-weaker c.decide_there.result _ _
    (λ d is. there-decision events c.args.ledger.now c.args.key.now c.args.write.now c.args.now d counted.0 is)
    (subst (λ (t : ℤ). IfOk c.decide_there.result (λ d. d ≡ write_decision events c.args.ledger.now (written (log events c.args.ledger.now) c.args.key.now c.args.write.now t))) (to_z-of_z w64 c.args.now c.ranges.now) c.decide_there.ensures)
