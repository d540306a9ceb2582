use Rattle.std.proofs.Common.{ap, ◌∙◌}
use Rattle.std.proofs.lemmas.Result.{IfOk-weaker}
use Rattle.lg_views.specs.Replies.{plain}
use Rattle.lg_types.specs.declared.records.LedgerInfo.{LedgerInfo}
use Rattle.lg_views.specs.declared.replies.Content.TheVariants.{Ledger as LedgerShown}
use Rattle.lg_query.proofs.Asked.{no_record, its_record}
use Rattle.lg_query.proofs.answering.ledger_record.Goals as goal

pub returns-in-None : goal.returns-in-None
returns-in-None c = IfOk-weaker c.no_ledger.result _ _ (λ reply is. no_record c.args.book.now.events c.args.ledger.now c.in-None.ensures reply is) c.no_ledger.ensures

pub returns-in_ok-copy-in-Some : goal.returns-in_ok-copy-in-Some
returns-in_ok-copy-in-Some c = its_record c.args.book.now.events c.args.ledger.now _ c.in-Some.ensures c.plain.result (c.plain.ensures ∙ ap (λ (info : LedgerInfo). plain (LedgerShown info)) c.in_ok-copy-in-Some.ensures)
