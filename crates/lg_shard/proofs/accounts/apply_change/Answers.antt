use mir.Val.{SFits}
use Rattle.std.proofs.Common.{rules, ◌<◌, length, w64, refl, ap, subst, ◌∙◌}
use Rattle.std.proofs.lemmas.Int.{to_z-of_z}
use Rattle.std.specs.Str.{bytes_eq}
use Rattle.lg_meta.specs.History.{History, first_applied}
use Rattle.lg_shard.specs.Accounts.{slot_in, history_at}
use Rattle.lg_shard.specs.Histories.{with_applied}
use Rattle.lg_shard.proofs.AccountLemmas.{part-changed, history-changed, part-history}
use Rattle.lg_shard.proofs.HistoryLemmas.{applied-first, applied-if}
use Rattle.lg_shard.proofs.accounts.apply_change.Goals as goal

pub returns-clause-slots : goal.returns-clause-slots
returns-clause-slots c = λ a s. part-changed (λ o. slot_in o s) _ _ _ _ c.value_mut-part.ensures.value refl a

pub returns-clause-histories : goal.returns-clause-histories
returns-clause-histories c = λ a.
    let part = c.value_mut-part.result.now in
    let room : 0 < length part.history.prepared = subst (λ (h : History). 0 < length h.prepared) (part-history _ c.args.account.now _ c.bytes.ensures.value part c.value_mut-part.ensures.value) c.requires.room in
    let fits : SFits w64 c.args.date.now = search rules in
    history-changed _ c.args.account.now _ c.bytes.ensures.value part _ c.value_mut-part.ensures.value (λ h. with_applied c.args.date.now h 1) (c.apply_first.ensures ∙ ap (λ d. first_applied d part.history.changes part.history.prepared) (to_z-of_z w64 c.args.date.now fits) ∙ applied-first c.args.date.now part.history room) a
    ∙ applied-if c.args.date.now (bytes_eq c.args.account.now a) (history_at c.args.accounts.now a)
