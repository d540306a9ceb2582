use Rattle.std.proofs.Common.{ap, subst, sym, ◌∙◌}
use Rattle.lg_types.specs.declared.records.Entry.{Entry}
use Rattle.lg_types.specs.Log.{log}
use Rattle.lg_views.specs.Writes.{new_entry}
use Rattle.lg_decide.specs.declared.decisions.Decision.TheVariants.{Planned}
use Rattle.lg_decide.specs.Deciding.{MayShowBody, entry_plan}
use Rattle.lg_decide.proofs.planning.append.Goals as goal

pub plan_entry-requires : goal.plan_entry-requires
plan_entry-requires g c =
    let log_of = log c.args.book.now.events c.args.ledger.now in
    subst (MayShowBody (g.S.Shards.lent c.args.lent.now) c.args.book.now.events c.args.ledger.now) (sym (ap (λ (e : Entry). e.body) (c.new_entry-entry.ensures log_of c.requires.count c.head.ensures))) c.requires.shown

pub returns : goal.returns
returns g c = λ write is.
    let log_of = log c.args.book.now.events c.args.ledger.now in
    ap Planned
    (c.in_ok-plan.ensures
    ∙ ap (entry_plan c.args.book.now.events c.args.ledger.now) (c.new_entry-entry.ensures log_of c.requires.count c.head.ensures ∙ ap (λ mark. new_entry log_of c.args.date.now mark c.args.body) (c.in_ok-mark.ensures write is)))
