use Rattle.std.proofs.Common.{ℤ, length, sym, subst, ◌∙◌, w64}
use Rattle.std.specs.Prelude.{IfOk}
use Rattle.std.proofs.lemmas.Bool.{lt-ltb}
use Rattle.std.proofs.lemmas.Int.{to_z-of_z}
use Rattle.std.proofs.lemmas.Result.{IfOk-weaker}
use Rattle.lg_types.specs.declared.calls.Call.TheVariants.{Bulk}
use Rattle.lg_types.specs.Log.{log, is_there}
use Rattle.lg_decide.specs.Decisions.{IsOutcome}
use Rattle.lg_decide.proofs.PlanLemmas.{count_there, none_counted}
use Rattle.lg_bulk.proofs.PlanLemmas.{unknown-outcome}
use Rattle.lg_bulk.proofs.deciding.decide_list.Goals as goal

pub decide_there-requires : goal.decide_there-requires
decide_there-requires g c =
    let events = c.args.book.now.events in
    let counted = count_there (is_there events c.args.ledger.now) c.in-Some.logged (length (log events c.args.ledger.now)) (sym c.in-Some.is ∙ c.log_len.ensures) in
    record {
      ground = record { there = counted.0; grown = c.len-count.ensures.grown; parts = λ k below. c.requires.parts.each k (lt-ltb k 16 below); limits = c.totals_within.ensures };
      logged = counted.1;
    }

pub returns-in-None : goal.returns-in-None
returns-in-None g c =
    let events = c.args.book.now.events in
    IfOk-weaker c.refuse_unknown.result _ _
    (λ d is. unknown-outcome events c.args.ledger.now c.args.elements.now c.args.atomic c.args.go_on c.args.now (none_counted (is_there events c.args.ledger.now) (length (log events c.args.ledger.now)) (sym c.in-None.is ∙ c.log_len.ensures)) d is)
    c.refuse_unknown.ensures

pub returns-in-Some : goal.returns-in-Some
returns-in-Some g c =
    subst (λ (t : ℤ). IfOk c.decide_there.result (λ d. IsOutcome c.args.book.now.events (Bulk c.args.ledger.now c.args.elements.now c.args.atomic c.args.go_on) t d)) (to_z-of_z w64 c.args.now c.ranges.now) c.decide_there.ensures
