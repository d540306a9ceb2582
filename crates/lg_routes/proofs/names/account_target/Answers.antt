use Rattle.std.proofs.Common.{refl}
use Rattle.lg_codec.proofs.Readings.{onward, halted}
use Rattle.lg_routes.proofs.names.account_target.Goals as goal

pub returns-in_err-address : goal.returns-in_err-address
returns-in_err-address c = halted _ c.from_residual.ensures.1 c.in_err-address.ensures

pub returns : goal.returns
returns c = onward c.in_ok-address.ensures (record { answers = refl })
