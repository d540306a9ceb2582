use Rattle.lg_tokens.proofs.DateTexts.{dates_read_back}
use Rattle.lg_tokens.proofs.laws.dates_read_back.Goals as goal

pub returns : goal.returns
returns c = dates_read_back
