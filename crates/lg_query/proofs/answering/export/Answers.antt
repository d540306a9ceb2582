use Rattle.std.proofs.Common.{ap, ◌∙◌, List, arith}
use Rattle.std.proofs.lemmas.List.{take_all}
use Rattle.std.proofs.lemmas.Result.{IfOk-weaker}
use Rattle.lg_types.specs.declared.queries.Read.TheVariants.{Export}
use Rattle.lg_types.specs.declared.records.Entry.{Entry}
use Rattle.lg_types.specs.Log.{log}
use Rattle.lg_views.specs.declared.replies.Content.TheVariants.{Export as AllShown}
use Rattle.lg_views.specs.Outcome.{ToRead, outcome}
use Rattle.lg_views.specs.Replies.{plain}
use Rattle.lg_query.proofs.Asked.{all_counted, not_there, read_there}
use Rattle.lg_query.proofs.answering.export.Goals as goal

pub entries-requires : goal.entries-requires
entries-requires c = let all = all_counted c.args.book.now.events c.args.ledger.now c.in-Some.count c.in-Some.ensures in omega (arith, all)

pub returns-in-None : goal.returns-in-None
unfolding outcome
returns-in-None c = IfOk-weaker c.no_ledger.result _ _ (λ reply is now. not_there c.args.book.now.events c.args.ledger.now (ToRead Export) now c.in-None.ensures reply is) c.no_ledger.ensures

pub returns-in_ok-entries-in-Some : goal.returns-in_ok-entries-in-Some
unfolding outcome
returns-in_ok-entries-in-Some c now =
    let all = all_counted c.args.book.now.events c.args.ledger.now c.in-Some.count c.in-Some.ensures in
    read_there c.args.book.now.events c.args.ledger.now Export now c.in-Some.count c.in-Some.ensures c.plain.result
    (c.plain.ensures ∙ ap (λ (entries : List Entry). plain (AllShown entries)) (c.in_ok-entries-in-Some.ensures ∙ take_all c.in-Some.count (log c.args.book.now.events c.args.ledger.now) (omega (arith, all))))
