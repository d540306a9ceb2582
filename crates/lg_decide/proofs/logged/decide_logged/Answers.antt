use Rattle.std.proofs.Common.{◌≡◌, ℤ, subst, w64, arith}
use Rattle.std.specs.Prelude.{IfOk}
use Rattle.std.proofs.lemmas.Int.{to_z-of_z}
use Rattle.lg_decide.specs.Deciding.{logged_decision}
use Rattle.std.proofs.lemmas.Result.{IfOk-weaker}
use Rattle.lg_decide.proofs.PlanLemmas.{logged-outcome}
use Rattle.lg_decide.proofs.logged.decide_logged.Goals as goal

pub decide_by_log-requires : goal.decide_by_log-requires
decide_by_log-requires g c = record {
  ground = record { grown = c.len-count.ensures.grown; room = omega arith; parts = c.requires.parts; limits = c.totals_within.ensures };
  weighed = c.requires.weighed;
}

pub returns : goal.returns
returns g c =
    IfOk-weaker c.decide_by_log.result _ _
    (λ d is. logged-outcome (g.S.Shards.lent c.args.lent.now) c.args.book.now.events c.args.ledger.now c.args.key.now c.args.write.now c.args.now
    (record { grown = c.len-count.ensures.grown; room = omega arith; parts = c.requires.parts; limits = c.totals_within.ensures }) d is)
    (subst (λ (t : ℤ). IfOk c.decide_by_log.result (λ d. d ≡ logged_decision c.args.book.now.events c.args.ledger.now c.args.key.now c.args.write.now t)) (to_z-of_z w64 c.args.now c.ranges.now) c.decide_by_log.ensures)
