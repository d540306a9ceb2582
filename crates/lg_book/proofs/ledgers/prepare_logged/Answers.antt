use Rattle.std.proofs.Common.{IfSome, subst}
use Rattle.std.proofs.lemmas.Result.{on_ok_weaker, on_err_weaker}
use Rattle.lg_book.specs.Index.{CanPrepare, index_prepared}
use Rattle.lg_book.proofs.LedgerMaps.{found_there, changed_there, changed_nowhere, put_same}
use Rattle.lg_book.proofs.ledgers.prepare_logged.Goals as goal

pub prepare-requires : goal.prepare-requires
prepare-requires c =
    subst (λ o. IfSome o (λ x. CanPrepare x.transactions c.args.entry.now.body))
    (found_there c.args.name.now _ c.args.ledgers.now c.value_mut-index.result.now c.bytes-in-Some.ensures.value c.value_mut-index.ensures.value) c.requires

pub returns-in-Some-clause-ok : goal.returns-in-Some-clause-ok
returns-in-Some-clause-ok c =
    on_ok_weaker c.prepare.result
    (changed_there c.args.name.now _ c.args.ledgers.now c.value_mut-index.result.now _ (index_prepared c.args.place c.args.entry.now c.args.volumes.now) c.bytes-in-Some.ensures.value c.value_mut-index.ensures.value)
    c.prepare.ensures.ok

pub returns-in-Some-clause-err : goal.returns-in-Some-clause-err
returns-in-Some-clause-err c =
    on_err_weaker c.prepare.result (put_same _ c.args.ledgers.now c.value_mut-index.result.now _ c.value_mut-index.ensures.value) c.prepare.ensures.err

pub returns-in-None-clause-ok : goal.returns-in-None-clause-ok
returns-in-None-clause-ok c = changed_nowhere c.args.name.now _ c.args.ledgers.now (index_prepared c.args.place c.args.entry.now c.args.volumes.now) c.bytes.ensures.value c.in-None.ensures
