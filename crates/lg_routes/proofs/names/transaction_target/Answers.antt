use Rattle.std.proofs.Common.{refl}
use Rattle.lg_codec.proofs.Readings.{onward, halted}
use Rattle.lg_routes.proofs.names.transaction_target.Goals as goal

pub returns-in_err-id : goal.returns-in_err-id
returns-in_err-id c = halted _ c.from_residual.ensures.1 c.in_err-id.ensures

pub returns : goal.returns
returns c = onward c.in_ok-id.ensures (record { answers = refl })
