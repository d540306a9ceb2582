use Rattle.std.proofs.Common.{sym, subst, ap, ◌∙◌}
use Rattle.std.specs.Prelude.{IfOk}
use Rattle.std.proofs.lemmas.Result.{IfOk-weaker}
use Rattle.lg_types.specs.declared.calls.Call.{Call}
use Rattle.lg_types.specs.declared.refusals.Refusal.{Refusal}
use Rattle.lg_types.specs.declared.refusals.Refusal.TheVariants.{NotBuilt}
use Rattle.lg_views.specs.Replies.{refused}
use Rattle.lg_query.specs.Asked.{as_asked}
use Rattle.lg_store.specs.Answering.{IsDone}
use Rattle.lg_store.specs.Built.{as_built}
use Rattle.lg_store.proofs.DoneCalls.{nothing_added, refusal_done}
use Rattle.lg_store.proofs.calls.answer_call.Goals as goal

pub returns-in_ok-copy-in-Unreadable-clause-done : goal.returns-in_ok-copy-in-Unreadable-clause-done
returns-in_ok-copy-in-Unreadable-clause-done c =
    subst (λ (x : Call). IsDone c.args.book.now.events (as_built x) c.args.now c.args.book.now.events c.refused.result) (sym c.in-Unreadable.is)
    (refusal_done c.args.book.now.events c.in-Unreadable.refusal c.args.now c.refused.result c.refused.ensures.events (c.refused.ensures.reply ∙ ap (λ (r : Refusal). refused r) c.in_ok-copy-in-Unreadable.ensures))

pub returns-in-Import-clause-done : goal.returns-in-Import-clause-done
returns-in-Import-clause-done c =
    subst (λ (x : Call). IsDone c.args.book.now.events (as_built x) c.args.now c.args.book.now.events c.refused-in-Import.result) (sym c.in-Import.is)
    (refusal_done c.args.book.now.events NotBuilt c.args.now c.refused-in-Import.result c.refused-in-Import.ensures.events c.refused-in-Import.ensures.reply)

pub returns-in-Ledgers-clause-done : goal.returns-in-Ledgers-clause-done
returns-in-Ledgers-clause-done c =
    subst (λ (x : Call). IsDone c.args.book.now.events (as_built x) c.args.now c.args.book.now.events c.refused-in-Ledgers.result) (sym c.in-Ledgers.is)
    (refusal_done c.args.book.now.events NotBuilt c.args.now c.refused-in-Ledgers.result c.refused-in-Ledgers.ensures.events c.refused-in-Ledgers.ensures.reply)

pub returns-in-Read-clause-done : goal.returns-in-Read-clause-done
returns-in-Read-clause-done c =
    subst (λ (x : Call). IfOk c.asked.result (IsDone c.args.book.now.events (as_built x) c.args.now c.args.book.now.events)) (sym c.in-Read.is)
    (IfOk-weaker c.asked.result _ _ (λ done facts. nothing_added c.args.book.now.events (as_asked c.in-Read.ledger c.in-Read.read) c.args.now done facts.0 (facts.1 c.args.now)) c.asked.ensures)
