use Rattle.std.proofs.Common.{◌-◌, ◌<◌, length, arith}
use Rattle.lg_book.specs.Index.{with_reverted_by}
use Rattle.lg_book.proofs.Lists.{set-changed}
use Rattle.lg_book.proofs.records.mark_reverted.Goals as goal

pub returns : goal.returns
returns c =
    let within : c.args.id - 1 < length c.args.records.now.items = omega (arith, c.requires.0, c.requires.1) in
    set-changed (with_reverted_by c.args.by) (c.args.id - 1) c.args.records.now.items c.index_mut-record.result.now within c.index_mut-record.ensures.value
