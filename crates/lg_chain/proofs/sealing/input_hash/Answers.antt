use Rattle.std.proofs.Common.{[]}
use Rattle.lg_types.specs.Chain.{input_hash}
use Rattle.lg_chain.proofs.sealing.input_hash.Goals as goal

pub returns : goal.returns
unfolding input_hash
returns c = c.digest.ensures _ (c.in-Ok.ensures.ok [] c.new-feed.ensures)
