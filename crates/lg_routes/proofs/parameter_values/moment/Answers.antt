use Rattle.std.proofs.Common.{ℕ, List, Option, subst}
use Rattle.lg_readings.specs.Parameters as values
use Rattle.lg_codec.specs.Results.{Reads}
use Rattle.lg_routes.proofs.parameter_values.moment.Goals as goal

pub returns-in-Some : goal.returns-in-Some
returns-in-Some c =
    subst (λ (v : Option (List ℕ)). Reads (values.MomentValue c.args.name.now v) c.moment_in.result)
    (rw c.as_bytes.ensures.value at (rw c.in-Some.is at c.first_value.ensures)) c.moment_in.ensures
