use Rattle.std.proofs.Common.{◌≡◌, map, ◌++◌}
use Rattle.form_urlencoded.specs.Form as form
use Rattle.form_urlencoded.specs.Parse.{pairs_left}
use Rattle.lg_readings.specs.Targets as targets
use Rattle.lg_routes.specs.Seen.{parameters_seen}
use Rattle.lg_routes.proofs.parameters.read_parameters.Given as goal

abbrev pub invariant-loop-pair : goal.invariant-loop-pair
invariant-loop-pair l =
    parameters_seen l.parameters.items ++ map targets.parameter_of (pairs_left l.pair-iterator) ≡ map targets.parameter_of (form.raw_pairs l.query)
