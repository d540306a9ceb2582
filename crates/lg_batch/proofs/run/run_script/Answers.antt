use Rattle.std.proofs.Common.{List, subst}
use Rattle.lg_views.specs.declared.lines.ScriptLine.{ScriptLine}
use Rattle.lg_batch.specs.Runs.{IsOutputOf}
use Rattle.lg_batch.proofs.run.run_script.Goals as goal

pub returns-in-Ok-write_output : goal.returns-in-Ok-write_output
returns-in-Ok-write_output g c =
    let h = c.in-Ok-write_output.ensures in
    (h.0, subst (λ (lines : List ScriptLine). IsOutputOf lines h.0) c.as_slice.ensures h.1, h.2.ok)

pub returns : goal.returns
returns g c =
    let h = c.in-Err-write_output.ensures in
    (h.2.cause.failed, (h.0, subst (λ (lines : List ScriptLine). IsOutputOf lines h.0) c.as_slice.ensures h.1, h.2.stopped))
