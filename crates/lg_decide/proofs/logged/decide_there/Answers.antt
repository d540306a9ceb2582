use Rattle.std.proofs.Common.{ap, sym, subst, ◌∙◌, w64}
use Rattle.std.proofs.lemmas.Int.{to_z-of_z}
use Rattle.lg_views.specs.Writes.{appended_if, decided, marked}
use Rattle.std.specs.Prelude.{IsSome}
use Rattle.std.proofs.lemmas.Result.{IfOk-weaker}
use Rattle.lg_types.specs.Known.{date}
use Rattle.lg_types.specs.Log.{log}
use Rattle.lg_weigh.specs.declared.weighed.Weighed.{Weighed}
use Rattle.lg_decide.specs.Deciding.{write_decision}
use Rattle.lg_decide.proofs.KeptLemmas.{written_new}
use Rattle.lg_decide.proofs.PlanLemmas.{key-there, hash-there, kept-decides}
use Rattle.lg_decide.proofs.logged.decide_there.Goals as goal

pub decide_kept-requires : goal.decide_kept-requires
decide_kept-requires g c =
    let log_of = log c.args.book.now.events c.args.ledger.now in
    let is = sym (ap (λ (w : Weighed). w.kept) c.requires.weighed) ∙ c.in-Some.is in
    record {
      key = key-there log_of c.args.key.now c.in-Some.kept is;
      given = subst IsSome (sym (ap (λ (w : Weighed). w.input_hash) c.requires.weighed)) (hash-there log_of c.args.key.now c.args.write.now c.in-Some.kept is);
    }

pub returns-in-Some : goal.returns-in-Some
returns-in-Some g c =
    let is = sym (ap (λ (w : Weighed). w.kept) c.requires.weighed) ∙ c.in-Some.is in
    IfOk-weaker c.decide_kept.result _ _
    (λ d h. kept-decides c.args.book.now.events c.args.ledger.now c.args.key.now c.args.write.now c.args.now c.args.weighed.input_hash c.in-Some.kept d is (ap (λ (w : Weighed). w.input_hash) c.requires.weighed) h)
    c.decide_kept.ensures

pub returns-in-None : goal.returns-in-None
returns-in-None g c =
    let log_of = log c.args.book.now.events c.args.ledger.now in
    let none = sym (ap (λ (w : Weighed). w.kept) c.requires.weighed) ∙ c.in-None.is in
    let day = to_z-of_z w64 c.date_for-date.result (record { sfits = c.date_for-date.type_inv }) ∙ c.date_for-date.ensures ∙ ap (date log_of) (to_z-of_z w64 c.args.now c.ranges.now) in
    IfOk-weaker c.decide_new.result _ _
    (λ d is.
    is
    ∙ ap (λ t. write_decision c.args.book.now.events c.args.ledger.now (appended_if log_of t (marked c.args.key.now c.args.write.now) (decided log_of t c.args.write.now))) day
    ∙ ap (write_decision c.args.book.now.events c.args.ledger.now) (sym (written_new log_of c.args.write.now c.args.now c.args.key.now none)))
    c.decide_new.ensures
