use Rattle.std.proofs.Common.{refl}
use Rattle.std.specs.Prelude.{Ok}
use Rattle.lg_codec.proofs.elements.read_element.Goals as goal

pub returns-in-Ok : goal.returns-in-Ok
returns-in-Ok c = record { answer = Ok c.in-Ok.element; is_answer = c.in-Ok.ensures.answers; is_element = refl }
