use Rattle.std.proofs.Common.{◌∙◌, w64}
use Rattle.std.proofs.lemmas.Int.{to_z-of_z}
use Rattle.lg_generator.specs.Made.{opening}
use Rattle.lg_generator.proofs.line.feed_opening.Goals as goal

pub returns : goal.returns
unfolding opening
returns g c =
    rw (to_z-of_z w64 c.moment-now.result (record { sfits = c.moment-now.type_inv }) ∙ c.moment-now.ensures) at
    (rw (c.caller.ensures, c.phase.ensures) at c.feed_all.ensures)
