use Rattle.lg_entry_lines.proofs.Exports.{legal_logs_importable}
use Rattle.lg_entry_lines.proofs.laws.legal_logs_importable.Goals as goal

pub returns : goal.returns
returns c = legal_logs_importable
