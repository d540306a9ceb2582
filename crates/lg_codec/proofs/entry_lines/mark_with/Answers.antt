use Rattle.std.proofs.Common.{refl}
use Rattle.lg_codec.proofs.Readings.{onward, halted}
use Rattle.lg_codec.proofs.entry_lines.mark_with.Goals as goal

pub returns-in_err-input_hash : goal.returns-in_err-input_hash
returns-in_err-input_hash c = halted _ c.from_residual.ensures.1 c.in_err-input_hash.ensures

pub returns : goal.returns
returns c = onward c.in_ok-input_hash.ensures (record { answers = refl })
