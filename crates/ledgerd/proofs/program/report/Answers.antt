use Rattle.lg_base.proofs.Feeds.{same_text}
use Rattle.ledgerd.proofs.program.report.Goals as goal

pub returns : goal.returns
returns g c = (c.write_whole.result, same_text c.error_text.ensures c.write_whole.ensures)
