use Rattle.std.proofs.Common.{◌≡◌, ◌+◌, ◌++◌, sym, arith}
use Rattle.std.proofs.lemmas.List.{append-nil}
use Rattle.lg_shard.specs.Accounts.{items_of, waiting_of, one_if, only_if}
use Rattle.lg_shard.proofs.AccountLemmas.{pair-changed, pair-histories}
use Rattle.lg_shard.proofs.accounts.apply_pair.Goals as goal

pub returns-clause-items : goal.returns-clause-items
returns-clause-items g c =
    pair-changed _ _ _ _ _ c.bytes.ensures.value c.bytes-2.ensures.value _ c.value_mut-part.ensures.value _ c.value_mut-slot.ensures.value _
    (λ p o b. items_of p ≡ items_of o ++ only_if b c.args.item) c.apply.ensures.items (λ o. sym (append-nil (items_of o)))

pub returns-clause-room : goal.returns-clause-room
returns-clause-room g c =
    pair-changed _ _ _ _ _ c.bytes.ensures.value c.bytes-2.ensures.value _ c.value_mut-part.ensures.value _ c.value_mut-slot.ensures.value _
    (λ p o b. waiting_of p + one_if b ≡ waiting_of o) c.apply.ensures.waiting (λ o. omega arith)

pub returns-clause-histories : goal.returns-clause-histories
returns-clause-histories g c =
    pair-histories _ _ _ _ _ c.bytes.ensures.value c.bytes-2.ensures.value _ c.value_mut-part.ensures.value _ c.value_mut-slot.ensures.value _
