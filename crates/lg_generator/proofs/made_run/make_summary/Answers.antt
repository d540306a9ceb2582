use Rattle.lg_generator.proofs.Endings.{holds_front}
use Rattle.lg_generator.proofs.made_run.make_summary.Goals as goal

pub returns : goal.returns
returns g c = (
  c.in-Err-write_whole.ensures.cause.failed,
  (c.in-Ok.text.items, c.in-Ok.ensures, holds_front g.K.Sink _ _ c.in-Ok.text.items c.in-Err-write_whole.field-0 (rw (c.as_slice.ensures.value) at c.in-Err-write_whole.ensures)),
)
