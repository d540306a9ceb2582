use Rattle.lg_commit_volumes.proofs.TotalLemmas.{read_within, read_added}
use Rattle.lg_commit_volumes.proofs.totals.add_posting.Goals as goal

pub add-requires-2 : goal.add-requires-2
add-requires-2 c =
    read_within c.args.posting.now c.args.totals.now c.value-amount.result c.value-amount.ensures.value c.add.new.totals c.in_ok-add.ensures c.requires.destination

pub returns : goal.returns
returns c =
    read_added c.args.posting.now c.args.totals.now c.value-amount.result c.value-amount.ensures.value c.add.new.totals c.in_ok-add.ensures c.add-2.result c.add-2.new.totals c.add-2.ensures
