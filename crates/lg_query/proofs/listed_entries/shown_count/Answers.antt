use Rattle.std.proofs.Common.{sym, ap, ◌∙◌}
use Rattle.std.specs.Prelude.{reverse}
use Rattle.std.specs.List.{filter}
use Rattle.lg_types.specs.Log.{log}
use Rattle.lg_views.specs.Reads.{is_dated_to}
use Rattle.lg_query.proofs.Dates.{dated_front, undated_front}
use Rattle.lg_query.proofs.listed_entries.shown_count.Goals as goal

pub returns-in-None-clause-entries : goal.returns-in-None-clause-entries
returns-in-None-clause-entries c =
    let g = log c.args.book.now.events c.args.ledger.now in
    undated_front g c.count.result c.count.ensures ∙ ap (λ o. filter (is_dated_to o) (reverse g)) (sym c.in-None.is)

pub returns-in-Some-clause-entries : goal.returns-in-Some-clause-entries
returns-in-Some-clause-entries c =
    let g = log c.args.book.now.events c.args.ledger.now in
    dated_front g c.in-Some.date c.count_to.result c.count_to.ensures.dated c.count_to.ensures.within ∙ ap (λ o. filter (is_dated_to o) (reverse g)) (sym c.in-Some.is)
