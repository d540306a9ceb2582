use Rattle.std.proofs.Common.{◌≡◌, drop}
use Rattle.lg_readings.specs.Targets as targets
use Rattle.lg_routes.specs.Seen.{parameters_seen}
use Rattle.lg_routes.proofs.parameters.first_value.Given as goal

abbrev pub invariant-loop-parameter : goal.invariant-loop-parameter
invariant-loop-parameter l =
    targets.first_value l.name (parameters_seen (drop l.parameter-index l.parameters)) ≡ targets.first_value l.name (parameters_seen l.parameters)
