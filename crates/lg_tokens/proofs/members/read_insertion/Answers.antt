use Rattle.lg_tokens.proofs.Choices.{insertion_absent}
use Rattle.lg_tokens.proofs.members.read_insertion.Goals as goal

pub returns-in-None : goal.returns-in-None
returns-in-None c by_insertion more other e = insertion_absent by_insertion c.args.bytes.now more c.in-None.ensures e
