use Rattle.std.proofs.Common.{subst}
use Rattle.lg_types.specs.Log.{log}
use Rattle.lg_views.specs.Bulk.{batched, bulk_answer}
use Rattle.lg_commit_volumes.proofs.SideLemmas.{item_of}
use Rattle.lg_bulk.specs.Gathering.{IsTurn}
use Rattle.lg_bulk.proofs.BatchLemmas.{goes-on, fails}
use Rattle.lg_bulk.proofs.lists.gather.Goals as goal

pub loop-place-preserved : goal.loop-place-preserved
loop-place-preserved g c =
    let log_of = log c.args.book.now.events c.args.ledger.now in
    let at = item_of c.as_slice-element-items.result.now c.args.elements.now c.loop-place.place c.element-item.result c.as_slice-element-items.ensures.value c.loop-place-test.true c.element-item.is in
    let turn = subst (IsTurn log_of c.args.atomic c.args.go_on c.args.now.now c.loop-place.gathered c.loop-place.place c.element-item.result c.take_turn.new.gathered) c.in-GoOn.is c.in_ok-turn.ensures in
    let next = goes-on log_of c.args.atomic c.args.go_on c.args.now.now (bulk_answer c.args.atomic (batched log_of 0 c.args.go_on c.args.now.now c.args.elements.now)) c.loop-place.gathered c.loop-place.place c.args.elements.now c.loop-place.invariant.same c.element-item.result c.take_turn.new.gathered at.0 at.1 turn in
    record { gathered = next.0; same = next.1 }

pub returns-in-Fail : goal.returns-in-Fail
returns-in-Fail g c =
    let log_of = log c.args.book.now.events c.args.ledger.now in
    let at = item_of c.as_slice-element-items.result.now c.args.elements.now c.loop-place.place c.element-item.result c.as_slice-element-items.ensures.value c.loop-place-test.true c.element-item.is in
    let turn = subst (IsTurn log_of c.args.atomic c.args.go_on c.args.now.now c.loop-place.gathered c.loop-place.place c.element-item.result c.take_turn.new.gathered) c.in-Fail.is c.in_ok-turn.ensures in
    fails log_of c.args.atomic c.args.go_on c.args.now.now (bulk_answer c.args.atomic (batched log_of 0 c.args.go_on c.args.now.now c.args.elements.now)) c.loop-place.gathered c.loop-place.place c.args.elements.now c.loop-place.invariant.same c.element-item.result c.take_turn.new.gathered c.in-Fail.failed at.0 at.1 turn
