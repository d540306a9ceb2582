use Rattle.std.proofs.Common.{ap, []}
use Rattle.lg_views.specs.declared.replies.Reply.{Reply}
use Rattle.lg_views.specs.Outcome.{outcome}
use Rattle.lg_query.proofs.answering.not_built.Goals as goal

pub returns : goal.returns
unfolding outcome
returns c events now = ap (λ (r : Reply). (r, [])) c.plain.ensures
