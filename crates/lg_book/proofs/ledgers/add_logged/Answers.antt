use Rattle.std.proofs.Common.{IfSome, subst}
use Rattle.lg_book.specs.Index.{index_added, CanAdd}
use Rattle.lg_book.proofs.LedgerMaps.{found_there, changed_there, changed_nowhere}
use Rattle.lg_book.proofs.ledgers.add_logged.Goals as goal

pub returns-in-Some : goal.returns-in-Some
returns-in-Some c =
    changed_there c.args.name.now _ c.args.ledgers.now c.value_mut-index.result.now _ (index_added c.args.entry.now) c.bytes-in-Some.ensures.value c.value_mut-index.ensures.value c.add.ensures

pub returns-in-None : goal.returns-in-None
returns-in-None c = changed_nowhere c.args.name.now _ c.args.ledgers.now (index_added c.args.entry.now) c.bytes.ensures.value c.in-None.ensures

pub add-requires : goal.add-requires
add-requires c =
    subst (λ o. IfSome o (λ x. CanAdd c.args.entry.now x))
    (found_there c.args.name.now _ c.args.ledgers.now c.value_mut-index.result.now c.bytes-in-Some.ensures.value c.value_mut-index.ensures.value) c.requires
