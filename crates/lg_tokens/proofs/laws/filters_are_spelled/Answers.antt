use Rattle.lg_tokens.proofs.SpelledFilters.{filters_spelled}
use Rattle.lg_tokens.proofs.laws.filters_are_spelled.Goals as goal

pub returns : goal.returns
returns c = filters_spelled
