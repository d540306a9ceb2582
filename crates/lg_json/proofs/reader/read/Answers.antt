use Rattle.lg_json.proofs.Laws.{found_from, only_from, fault_from, each_from}
use Rattle.lg_json.proofs.reader.read.Goals as goal

pub returns-clause-found : goal.returns-clause-found
returns-clause-found c = found_from c.args.bytes.now c.read_all.result c.read_all.ensures

pub returns-clause-only : goal.returns-clause-only
returns-clause-only c = only_from c.args.bytes.now c.read_all.result c.read_all.ensures

pub returns-clause-fault : goal.returns-clause-fault
returns-clause-fault c = fault_from c.args.bytes.now c.read_all.result c.read_all.ensures

pub returns-clause-each : goal.returns-clause-each
returns-clause-each c = each_from c.args.bytes.now c.read_all.result c.read_all.ensures
