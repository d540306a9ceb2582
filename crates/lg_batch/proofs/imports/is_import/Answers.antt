use Rattle.std.proofs.Common.{sym, ◌∙◌}
use Rattle.lg_batch.proofs.RequestBodies.{import_by}
use Rattle.lg_batch.proofs.imports.is_import.Goals as goal

pub returns-in-Lines : goal.returns-in-Lines
returns-in-Lines c = import_by c.args.method.now c.args.target.now _ (sym c.in-Lines.is ∙ c.in_ok-kind.ensures)

pub returns-in-Json : goal.returns-in-Json
returns-in-Json c = import_by c.args.method.now c.args.target.now _ (sym c.in-Json.is ∙ c.in_ok-kind.ensures)

pub returns-in-Ignored : goal.returns-in-Ignored
returns-in-Ignored c = import_by c.args.method.now c.args.target.now _ (sym c.in-Ignored.is ∙ c.in_ok-kind.ensures)
