use Rattle.std.proofs.lemmas.Result.{on_ok_weaker}
use Rattle.lg_containers.proofs.Tables.{put_table, put_keeps}
use Rattle.lg_containers.proofs.map.NameMap.put.Goals as goal

pub invariant_of-self : goal.invariant_of-self
invariant_of-self g c = put_keeps _ c.put_entry.result _ _ c.args.name c.args.value c.self.invariant c.put_entry.ensures.ok c.put_entry.ensures.err

pub returns-clause-ok : goal.returns-clause-ok
returns-clause-ok g c =
    on_ok_weaker c.put_entry.result (put_table _ _ _ c.args.name c.args.value c.self.invariant c.self.view_is) c.put_entry.ensures.ok
