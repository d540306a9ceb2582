use Rattle.std.proofs.Common.{sym, ◌∙◌, []}
use Rattle.lg_generator.proofs.made_run.text_of.Goals as goal

pub returns-in-Ok : goal.returns-in-Ok
returns-in-Ok c = sym c.into_bytes.ensures ∙ c.in-Ok.ensures.ok [] c.new-feed.ensures
