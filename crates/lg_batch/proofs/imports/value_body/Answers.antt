use Rattle.std.proofs.Common.{refl, sym, ◌∙◌}
use Rattle.lg_batch.proofs.imports.value_body.Goals as goal

pub returns-then-import : goal.returns-then-import
returns-then-import c = rw (sym c.in_ok-import.ensures ∙ c.if-import.true) c.import_body.ensures

pub returns-else-import : goal.returns-else-import
returns-else-import c = rw (sym c.in_ok-import.ensures ∙ c.if-import.false) refl
