use Rattle.std.proofs.Common.{refl}
use Rattle.lg_tokens.proofs.options.read_pit.Goals as goal

pub returns-clause-found : goal.returns-clause-found
returns-clause-found c pit more d other e = c.read_dated.ensures.found 112 _ pit more refl d other e
