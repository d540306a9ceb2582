use Rattle.std.proofs.Common.{refl}
use Rattle.lg_codec.proofs.Readings.{onward, halted}
use Rattle.lg_routes.proofs.lists.ledgers_call.Goals as goal

pub returns-in_err-query : goal.returns-in_err-query
returns-in_err-query g c = halted _ c.from_residual.ensures.1 c.in_err-query.ensures

pub returns : goal.returns
returns g c = onward c.in_ok-query.ensures (record { answers = refl })
