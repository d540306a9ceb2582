use Rattle.lg_entry_lines.proofs.Exports.{exported_answers_alike}
use Rattle.lg_entry_lines.proofs.laws.exported_answers_alike.Goals as goal

pub returns : goal.returns
returns c = exported_answers_alike
