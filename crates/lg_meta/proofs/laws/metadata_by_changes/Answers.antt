use Rattle.lg_meta.proofs.Logs.{metadata_by_changes}
use Rattle.lg_meta.proofs.laws.metadata_by_changes.Goals as goal

pub returns : goal.returns
returns c = metadata_by_changes
