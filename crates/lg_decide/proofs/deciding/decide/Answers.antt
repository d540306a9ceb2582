use Rattle.std.proofs.Common.{◌≡◌, ℤ, sym, subst, w64}
use Rattle.std.specs.Prelude.{IfOk}
use Rattle.std.proofs.lemmas.Int.{to_z-of_z}
use Rattle.lg_types.specs.declared.calls.Call.{Call}
use Rattle.lg_types.specs.declared.calls.Call.TheVariants.{MakeLedger, Write}
use Rattle.lg_weigh.specs.Lent.{AreParts}
use Rattle.lg_weigh.specs.Weighing.{weighed}
use Rattle.lg_decide.specs.Decisions.{IsOutcome, known_to, needed}
use Rattle.lg_decide.proofs.deciding.decide.Goals as goal

pub decide_logged-requires : goal.decide_logged-requires
decide_logged-requires g c =
    let events = c.args.book.now.events in
    record {
      parts = subst (λ (x : Call). AreParts (needed events x) (g.S.Shards.lent c.args.lent.now) events) c.in-Write.is c.requires.parts;
      weighed = subst (λ (x : Call). c.args.weighed ≡ weighed events x (known_to events x)) c.in-Write.is c.requires.weighed;
    }

pub returns-in-MakeLedger : goal.returns-in-MakeLedger
returns-in-MakeLedger g c =
    subst (λ (x : Call). IfOk c.decide_ledger.result (λ d. IsOutcome c.args.book.now.events x c.args.now d)) (sym c.in-MakeLedger.is)
    (subst (λ (t : ℤ). IfOk c.decide_ledger.result (λ d. IsOutcome c.args.book.now.events (MakeLedger c.in-MakeLedger.ledger c.in-MakeLedger.bucket c.in-MakeLedger.metadata) t d)) (to_z-of_z w64 c.args.now c.ranges.now)
    c.decide_ledger.ensures)

pub returns-in-Write : goal.returns-in-Write
returns-in-Write g c =
    subst (λ (x : Call). IfOk c.decide_logged.result (λ d. IsOutcome c.args.book.now.events x c.args.now d)) (sym c.in-Write.is)
    (subst (λ (t : ℤ). IfOk c.decide_logged.result (λ d. IsOutcome c.args.book.now.events (Write c.in-Write.ledger c.in-Write.key c.in-Write.write) t d)) (to_z-of_z w64 c.args.now c.ranges.now)
    c.decide_logged.ensures)
