use Rattle.lg_json.proofs.Placing.{empty_index}
use Rattle.lg_json.proofs.index.NameIndex.empty.Goals as goal

pub returns : goal.returns
returns c = empty_index _ c.new.ensures.items c.in_ok-first.ensures.free c.in_ok-second.ensures.free c.in_ok-first.ensures.some c.in_ok-second.ensures.some c.new-2.ensures.empty
