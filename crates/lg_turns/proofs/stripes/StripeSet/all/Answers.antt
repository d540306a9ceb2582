use Rattle.lg_turns.proofs.Bits.{has-all}
use Rattle.lg_turns.proofs.stripes.StripeSet.all.Goals as goal

pub returns : goal.returns
returns c = has-all
