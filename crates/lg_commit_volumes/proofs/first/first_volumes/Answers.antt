use Rattle.std.proofs.Common.{◌∙◌}
use Rattle.lg_commit_volumes.proofs.first.first_volumes.Goals as goal

pub returns : goal.returns
returns g c = λ events e made parts ids. c.in_ok-volumes.ensures ∙ c.in_ok-maps.ensures events e made parts ids
