use Rattle.std.proofs.Common.{◌∙◌}
use Rattle.lg_containers.proofs.Tables.{get_here, take_table, take_keeps}
use Rattle.lg_containers.proofs.map.NameMap.take.Goals as goal

pub invariant_of-self : goal.invariant_of-self
invariant_of-self g c = take_keeps _ _ c.args.name.now c.self.invariant c.take_entry.ensures.rest

pub returns-clause-value : goal.returns-clause-value
returns-clause-value g c = c.take_entry.ensures.value ∙ get_here _ _ c.args.name.now c.self.invariant c.self.view_is

pub returns-clause-rest : goal.returns-clause-rest
returns-clause-rest g c = take_table _ _ _ c.args.name.now c.self.invariant c.self.view_is c.take_entry.ensures.rest
