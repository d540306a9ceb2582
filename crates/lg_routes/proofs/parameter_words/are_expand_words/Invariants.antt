use Rattle.std.proofs.Common.{◌≡◌, drop}
use Rattle.std.specs.Prelude.{codes}
use Rattle.std.specs.List.{list_all}
use Rattle.lg_readings.specs.Parameters as values
use Rattle.lg_readings.specs.Targets.{all_values}
use Rattle.lg_routes.specs.Seen.{parameters_seen}
use Rattle.lg_routes.proofs.parameter_words.are_expand_words.Given as goal

abbrev pub invariant-loop-parameter : goal.invariant-loop-parameter
invariant-loop-parameter l =
    list_all (values.is_word_of values.expand_words) (all_values (codes "expand") (parameters_seen (drop l.parameter-index l.parameters)))
    ≡ list_all (values.is_word_of values.expand_words) (all_values (codes "expand") (parameters_seen l.parameters))
