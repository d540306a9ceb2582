use Rattle.std.proofs.Common.{◌∙◌, w64}
use Rattle.std.proofs.lemmas.Int.{to_z-of_z}
use Rattle.lg_commit_volumes.proofs.SumLemmas.{same_before}
use Rattle.lg_commit_volumes.proofs.before.index_before.Goals as goal

pub returns : goal.returns
returns g c =
    same_before _ _ _ _ c.total.ensures.value
    (rw (to_z-of_z w64 c.effective_date-date.result (record { sfits = c.effective_date-date.type_inv }) ∙ c.effective_date-date.ensures) at c.before_rank.ensures.value)
