use Rattle.std.proofs.Common.{◌≡◌, drop}
use Rattle.std.specs.Prelude.{codes}
use Rattle.std.specs.List.{list_any}
use Rattle.std.specs.Str.{bytes_eq}
use Rattle.lg_readings.specs.Targets.{all_values}
use Rattle.lg_routes.specs.Seen.{parameters_seen}
use Rattle.lg_routes.proofs.parameter_words.expands.Given as goal

abbrev pub invariant-loop-parameter : goal.invariant-loop-parameter
invariant-loop-parameter l =
    list_any (bytes_eq l.word) (all_values (codes "expand") (parameters_seen (drop l.parameter-index l.parameters)))
    ≡ list_any (bytes_eq l.word) (all_values (codes "expand") (parameters_seen l.parameters))
