use Rattle.lg_containers.specs.NameTable.{insert}
use Rattle.lg_sheet.proofs.WorkingLemmas.{set_there, stays_there, some_more}
use Rattle.lg_sheet.proofs.working.set_volumes.Goals as goal

pub returns-clause-set : goal.returns-clause-set
returns-clause-set c b y =
    let there = rw c.bytes.ensures.value at c.value_mut.ensures.value in
    rw (c.bytes.ensures.value, c.set_asset.ensures) (set_there c.args.working.now c.args.account.now c.args.asset.now c.value_mut.result.now c.args.volumes b y there)

pub returns-clause-stays : goal.returns-clause-stays
returns-clause-stays c =
    let there = rw c.bytes.ensures.value at c.value_mut.ensures.value in
    rw (c.bytes.ensures.value, c.set_asset.ensures)
    (stays_there c.args.working.now c.args.account.now c.value_mut.result.now (insert c.value_mut.result.now c.args.asset.now c.args.volumes) there (some_more c.value_mut.result.now c.args.asset.now c.args.volumes))
