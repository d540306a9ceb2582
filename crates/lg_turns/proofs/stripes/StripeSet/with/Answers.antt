use Rattle.lg_turns.proofs.Bits.{has-with}
use Rattle.lg_turns.proofs.stripes.StripeSet.with.Goals as goal

pub returns : goal.returns
returns c = has-with c.args.self.bits c.args.stripe c.requires
