use Rattle.std.proofs.Common.{refl}
use Rattle.lg_codec.proofs.Readings.{onward, halted}
use Rattle.lg_routes.proofs.names.some_key.Goals as goal

pub returns-in_err-key : goal.returns-in_err-key
returns-in_err-key c = halted _ c.from_residual.ensures.1 c.in_err-key.ensures

pub returns : goal.returns
returns c = onward c.in_ok-key.ensures (record { answers = refl })
