use Rattle.std.proofs.Common.{[], sym, ◌∙◌}
use Rattle.lg_tokens.proofs.written_tokens.token_bytes.Goals as goal

pub returns-in-Ok : goal.returns-in-Ok
returns-in-Ok c = sym c.into_bytes.ensures ∙ c.in-Ok.ensures.ok [] c.new-feed.ensures
