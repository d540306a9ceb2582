use Rattle.std.proofs.Common.{ap, ◌∙◌}
use Rattle.std.proofs.lemmas.Result.{IfOk-weaker}
use Rattle.lg_types.specs.declared.queries.Read.TheVariants.{Logs}
use Rattle.lg_views.specs.declared.replies.Content.{Content}
use Rattle.lg_views.specs.Outcome.{ToRead, outcome}
use Rattle.lg_views.specs.Replies.{plain}
use Rattle.lg_query.proofs.Asked.{not_there, read_there}
use Rattle.lg_query.proofs.answering.page_of_log.Goals as goal

pub returns-in-None : goal.returns-in-None
unfolding outcome
returns-in-None c = IfOk-weaker c.no_ledger.result _ _ (λ reply is now. not_there c.args.book.now.events c.args.ledger.now (ToRead (Logs c.args.query.now)) now c.in-None.ensures reply is) c.no_ledger.ensures

pub returns-in_ok-entries_page-in-Some : goal.returns-in_ok-entries_page-in-Some
unfolding outcome
returns-in_ok-entries_page-in-Some c now = read_there c.args.book.now.events c.args.ledger.now (Logs c.args.query.now) now c.in-Some.field-0 c.in-Some.ensures c.plain.result (c.plain.ensures ∙ ap (λ (content : Content). plain content) c.in_ok-entries_page-in-Some.ensures)
