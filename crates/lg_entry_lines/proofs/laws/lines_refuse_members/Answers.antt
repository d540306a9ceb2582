use Rattle.lg_entry_lines.proofs.Refusals.{lines_refuse_members}
use Rattle.lg_entry_lines.proofs.laws.lines_refuse_members.Goals as goal

pub returns : goal.returns
returns c = lines_refuse_members
