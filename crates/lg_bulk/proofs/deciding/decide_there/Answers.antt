use Rattle.std.proofs.Common.{ap, ◌∙◌}
use Rattle.std.proofs.lemmas.Result.{IfOk-weaker}
use Rattle.lg_types.specs.Log.{log}
use Rattle.lg_views.specs.Bulk.{batched, bulk_answer}
use Rattle.lg_bulk.specs.Gathering.{gathering_decision}
use Rattle.lg_bulk.proofs.PlanLemmas.{paired, list-outcome}
use Rattle.lg_bulk.proofs.deciding.decide_there.Goals as goal

pub decide_gathering-requires : goal.decide_gathering-requires
decide_gathering-requires g c =
    let log_of = log c.args.book.now.events c.args.ledger.now in
    paired log_of (bulk_answer c.args.atomic (batched log_of 0 c.args.go_on c.args.now.now c.args.elements.now)) c.in_ok-gathering.gathering c.in_ok-gathering.ensures

pub returns : goal.returns
returns g c =
    IfOk-weaker c.decide_gathering.result _ _
    (λ d is. list-outcome (g.S.Shards.lent c.args.lent.now) c.args.book.now.events c.args.ledger.now c.args.elements.now c.args.atomic c.args.go_on c.args.now.now c.requires.ground c.in_ok-gathering.gathering c.in_ok-gathering.ensures d
    (is ∙ ap (λ n. gathering_decision n c.args.ledger.now c.in_ok-gathering.gathering) c.len.ensures.len))
    c.decide_gathering.ensures
