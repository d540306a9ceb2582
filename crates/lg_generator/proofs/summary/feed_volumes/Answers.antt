use Rattle.std.proofs.Common.{◌∙◌}
use Rattle.std.specs.Int.{w128}
use Rattle.std.proofs.lemmas.Int.{to_z-of_z}
use Rattle.lg_generator.specs.Summaries.{volumes_line}
use Rattle.lg_generator.proofs.summary.feed_volumes.Goals as goal

pub returns : goal.returns
unfolding volumes_line
returns g c = rw (to_z-of_z w128 c.balance-balance.result (record { sfits = c.balance-balance.type_inv }) ∙ c.balance-balance.ensures) at c.feed_all.ensures
