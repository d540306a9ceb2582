use Rattle.lg_tokens.proofs.OneText.{filters_have_one_text}
use Rattle.lg_tokens.proofs.laws.filters_have_one_text.Goals as goal

pub returns : goal.returns
returns c = filters_have_one_text
