use Rattle.lg_json.proofs.Steps.{value_at, end_at}
use Rattle.lg_json.proofs.step.step.Goals as goal

pub returns-in-Value : goal.returns-in-Value
returns-in-Value c = value_at c.args.bytes.now c.args.place c.args.frames.now.items c.args.next.now c.begin.new.frames.items _ c.requires.within c.requires.no_blank c.in-Value.is c.begin.ensures

pub returns-in-End : goal.returns-in-End
returns-in-End c = end_at c.args.bytes.now c.args.place c.args.frames.now.items c.args.next.now _ c.requires.within c.requires.no_blank c.in-End.is
