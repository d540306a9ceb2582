use Rattle.std.proofs.lemmas.Result.{on_ok_weaker, on_err_weaker}
use Rattle.lg_shard.proofs.LedgerLemmas.{opened_there, opened_still, opened-prepared, opened-kept}
use Rattle.lg_shard.proofs.ledgers.prepare_entry.Goals as goal

pub returns-clause-ok : goal.returns-clause-ok
returns-clause-ok c =
    on_ok_weaker c.prepare_part.result
    (λ step place shares coming room tied. opened-prepared c.args.ledgers.now c.args.ledger.now c.new.result c.in_ok-part.part.now c.prepare_part.new.part c.in_ok-part.ensures.value
    c.new.ensures.accounts c.new.ensures.keys c.new.ensures.references shares coming c.args.stripe place c.args.entry.now c.args.count room step tied)
    c.prepare_part.ensures.ok

pub returns-clause-err : goal.returns-clause-err
returns-clause-err c =
    on_err_weaker c.prepare_part.result
    (λ step shares coming tied. opened-kept c.args.ledgers.now c.args.ledger.now c.new.result c.in_ok-part.part.now c.prepare_part.new.part c.in_ok-part.ensures.value
    c.new.ensures.accounts c.new.ensures.keys c.new.ensures.references shares coming step tied)
    c.prepare_part.ensures.err

pub returns-clause-there : goal.returns-clause-there
returns-clause-there c =
    on_ok_weaker c.prepare_part.result
    (λ step. opened_there c.args.ledgers.now c.args.ledger.now c.new.result c.in_ok-part.part.now c.prepare_part.new.part c.in_ok-part.ensures.value)
    c.prepare_part.ensures.ok

pub returns-clause-still : goal.returns-clause-still
returns-clause-still c = opened_still c.args.ledgers.now c.args.ledger.now c.new.result c.in_ok-part.part.now c.prepare_part.new.part c.in_ok-part.ensures.value
