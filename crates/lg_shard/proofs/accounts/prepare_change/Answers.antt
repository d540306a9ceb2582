use Rattle.std.proofs.Common.{refl}
use Rattle.std.proofs.lemmas.Result.{on_ok_weaker, on_err_weaker}
use Rattle.lg_shard.specs.Accounts.{slot_in, history_in, with_prepared}
use Rattle.lg_shard.proofs.AccountLemmas.{opened-same, opened-mapped, slot-empty}
use Rattle.lg_shard.proofs.accounts.prepare_change.Goals as goal

pub returns-clause-slots : goal.returns-clause-slots
returns-clause-slots c =
    λ a s. opened-same (λ o. slot_in o s) c.args.accounts.now c.args.account.now c.new.result c.in_ok-part.part.now _ c.in_ok-part.ensures.value (slot-empty _ s c.new.ensures.assets) refl a

pub returns-clause-ok : goal.returns-clause-ok
returns-clause-ok c =
    on_ok_weaker c.prepare.result
    (opened-mapped history_in c.args.accounts.now c.args.account.now c.new.result c.in_ok-part.part.now _ c.in_ok-part.ensures.value c.new.ensures.history (λ h. with_prepared h c.args.change.now)) c.prepare.ensures.ok

pub returns-clause-err : goal.returns-clause-err
returns-clause-err c =
    on_err_weaker c.prepare.result
    (opened-same history_in c.args.accounts.now c.args.account.now c.new.result c.in_ok-part.part.now _ c.in_ok-part.ensures.value c.new.ensures.history) c.prepare.ensures.err
