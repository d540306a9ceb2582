use Rattle.lg_book.specs.Index.{index_forgotten}
use Rattle.lg_book.proofs.LedgerMaps.{changed_there, changed_nowhere}
use Rattle.lg_book.proofs.ledgers.forget_logged.Goals as goal

pub returns-in-Some : goal.returns-in-Some
returns-in-Some c =
    changed_there c.args.name.now _ c.args.ledgers.now c.value_mut-index.result.now _ (index_forgotten c.args.body.now) c.bytes-in-Some.ensures.value c.value_mut-index.ensures.value c.forget.ensures

pub returns-in-None : goal.returns-in-None
returns-in-None c = changed_nowhere c.args.name.now _ c.args.ledgers.now (index_forgotten c.args.body.now) c.bytes.ensures.value c.in-None.ensures
