use Rattle.lg_tokens.proofs.Choices.{group_absent}
use Rattle.lg_tokens.proofs.members.read_group.Goals as goal

pub returns-in-None : goal.returns-in-None
returns-in-None c group more small other e = group_absent group c.args.bytes.now more c.in-None.ensures e
