use Rattle.std.proofs.Common.{length, sym, ◌∙◌}
use Rattle.std.proofs.lemmas.Result.{IfOk-weaker}
use Rattle.lg_types.specs.Log.{log, is_there}
use Rattle.lg_views.specs.Outcome.{made_ledger}
use Rattle.lg_decide.proofs.PlanLemmas.{count_there, none_counted, made-outcome, made-refused, made-planned}
use Rattle.lg_decide.proofs.ledgers.decide_ledger.Goals as goal

pub returns-in-Some : goal.returns-in-Some
returns-in-Some c =
    let events = c.args.book.now.events in
    let name = c.args.ledger.now in
    let counted = count_there (is_there events name) _ (length (log events name)) (sym c.in-Some.is ∙ c.log_len.ensures) in
    made-outcome events name c.args.bucket.now c.args.metadata.now c.args.now.now _ (made-refused events c.in_ok-info.info (made_ledger name c.args.bucket.now c.args.metadata.now c.args.now.now) c.in_ok-info.ensures counted.0)

pub returns-in-None : goal.returns-in-None
returns-in-None c =
    let events = c.args.book.now.events in
    let name = c.args.ledger.now in
    let none = none_counted (is_there events name) (length (log events name)) (sym c.in-None.is ∙ c.log_len.ensures) in
    IfOk-weaker c.plan_ledger.result _ _
    (λ d planned. made-outcome events name c.args.bucket.now c.args.metadata.now c.args.now.now d (made-planned events c.in_ok-info.info (made_ledger name c.args.bucket.now c.args.metadata.now c.args.now.now) d c.in_ok-info.ensures none planned))
    c.plan_ledger.ensures
