use Rattle.std.proofs.Common.{◌++◌, ◌∙◌, ap}
use Rattle.lg_types.specs.Log.{log}
use Rattle.lg_views.specs.Writes.{new_entry}
use Rattle.lg_listed.specs.declared.tried.Tried.TheVariants.{Appended}
use Rattle.lg_listed.proofs.new_entries.append.Goals as goal

pub returns : goal.returns
returns c =
    let h = log c.args.book.now.events c.args.ledger.now ++ c.args.earlier.now in
    ap Appended (c.new_entry-entry.ensures h c.requires.count c.head-before.ensures ∙ ap (λ mark. new_entry h c.args.date.now mark c.args.body) c.in_ok-mark.ensures)
