use Rattle.lg_entry_lines.proofs.Exports.{export_reads_back}
use Rattle.lg_entry_lines.proofs.laws.an_export_reads_back.Goals as goal

pub returns : goal.returns
returns c = export_reads_back
