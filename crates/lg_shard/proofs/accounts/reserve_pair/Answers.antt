use Rattle.std.proofs.lemmas.Result.{on_ok_weaker, on_err_weaker}
use Rattle.lg_shard.proofs.AccountLemmas.{opened-holdings, opened-room, opened-raised, account-holdings, account-room, on_err_given}
use Rattle.lg_shard.proofs.accounts.reserve_pair.Goals as goal

pub returns-in_err-slot-clause-same : goal.returns-in_err-slot-clause-same
returns-in_err-slot-clause-same c =
    account-holdings c.args.accounts.now c.args.account.now c.new.result c.in_ok-part.part.now c.in_ok-part.ensures.value c.new.ensures.assets c.new.ensures.history

pub returns-in_err-slot-clause-err : goal.returns-in_err-slot-clause-err
returns-in_err-slot-clause-err c =
    on_err_given _ (account-room c.args.accounts.now c.args.account.now c.new.result c.in_ok-part.part.now c.in_ok-part.ensures.value c.new.ensures.assets c.new.ensures.history)

pub returns-clause-same : goal.returns-clause-same
returns-clause-same c =
    opened-holdings c.args.accounts.now c.args.account.now c.args.asset.now c.new.result c.in_ok-part.part.now c.in_ok-part.ensures.value c.new.ensures.assets c.new.ensures.history
    c.new-2.result c.in_ok-slot.slot.now c.reserve.new.self c.in_ok-slot.ensures.value c.new-2.ensures.items c.new-2.ensures.waiting
    c.reserve.ensures.items

pub returns-clause-ok : goal.returns-clause-ok
returns-clause-ok c =
    on_ok_weaker c.reserve.result
    (opened-raised c.args.accounts.now c.args.account.now c.args.asset.now c.new.result c.in_ok-part.part.now c.in_ok-part.ensures.value c.new.ensures.assets c.new.ensures.history
    c.new-2.result c.in_ok-slot.slot.now c.reserve.new.self c.in_ok-slot.ensures.value c.new-2.ensures.items c.new-2.ensures.waiting)
    c.reserve.ensures.ok

pub returns-clause-err : goal.returns-clause-err
returns-clause-err c =
    on_err_weaker c.reserve.result
    (opened-room c.args.accounts.now c.args.account.now c.args.asset.now c.new.result c.in_ok-part.part.now c.in_ok-part.ensures.value c.new.ensures.assets c.new.ensures.history
    c.new-2.result c.in_ok-slot.slot.now c.reserve.new.self c.in_ok-slot.ensures.value c.new-2.ensures.items c.new-2.ensures.waiting)
    c.reserve.ensures.err
