use Rattle.std.proofs.Common.{[]}
use Rattle.lg_types.specs.Chain.{line_hash}
use Rattle.lg_chain.proofs.sealing.hash_of.Goals as goal

pub returns : goal.returns
unfolding line_hash
returns c = c.digest.ensures _ (c.in-Ok.ensures.ok [] c.new-feed.ensures)
