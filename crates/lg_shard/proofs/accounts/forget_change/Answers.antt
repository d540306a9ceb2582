use Rattle.std.proofs.Common.{refl, sym, ◌∙◌}
use Rattle.std.specs.Str.{bytes_eq}
use Rattle.lg_shard.specs.Accounts.{slot_in, history_at}
use Rattle.lg_shard.specs.Histories.{without_last}
use Rattle.lg_shard.proofs.AccountLemmas.{part-changed, history-changed, absent-history, copied-none}
use Rattle.lg_shard.proofs.HistoryLemmas.{without-if, without-absent}
use Rattle.lg_shard.proofs.accounts.forget_change.Goals as goal

pub returns-then-is_some-clause-slots : goal.returns-then-is_some-clause-slots
returns-then-is_some-clause-slots c = λ a s. part-changed (λ o. slot_in o s) _ _ _ _ c.value_mut-part.ensures.value refl a

pub returns-then-is_some-clause-histories : goal.returns-then-is_some-clause-histories
returns-then-is_some-clause-histories c = λ a.
    history-changed _ c.args.account.now _ c.bytes-then-is_some.ensures.value c.value_mut-part.result.now _ c.value_mut-part.ensures.value (λ h. without_last h 1) c.forget_last.ensures a
    ∙ without-if (bytes_eq c.args.account.now a) (history_at c.args.accounts.now a)

pub returns-else-is_some-clause-histories : goal.returns-else-is_some-clause-histories
returns-else-is_some-clause-histories c = λ a. without-absent (bytes_eq c.args.account.now a) (history_at c.args.accounts.now a) (absent-history _ c.args.account.now _ c.bytes.ensures.value (copied-none c.find.result _ c.find.ensures (sym c.is_some.ensures ∙ c.if-is_some.false)) a)
