use Rattle.lg_tokens.proofs.Decoded.{tokens_decode}
use Rattle.lg_tokens.proofs.laws.tokens_decode.Goals as goal

pub returns : goal.returns
returns c = tokens_decode
