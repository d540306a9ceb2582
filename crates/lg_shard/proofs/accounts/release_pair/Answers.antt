use Rattle.std.proofs.Common.{◌≡◌, ◌-◌, arith}
use Rattle.lg_shard.specs.Accounts.{waiting_of, one_if}
use Rattle.lg_shard.proofs.AccountLemmas.{pair-changed, pair-same}
use Rattle.lg_shard.proofs.accounts.release_pair.Goals as goal

pub returns-clause-same : goal.returns-clause-same
returns-clause-same c = pair-same _ _ _ _ _ c.bytes.ensures.value c.bytes-2.ensures.value _ c.value_mut-part.ensures.value _ c.value_mut-slot.ensures.value _ c.release.ensures.items

pub returns-clause-room : goal.returns-clause-room
returns-clause-room c =
    pair-changed _ _ _ _ _ c.bytes.ensures.value c.bytes-2.ensures.value _ c.value_mut-part.ensures.value _ c.value_mut-slot.ensures.value _
    (λ p o b. waiting_of p ≡ waiting_of o - one_if b) c.release.ensures.waiting (λ o. omega arith)
