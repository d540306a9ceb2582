use Rattle.std.proofs.Common.{◌≡◌, ℕ, List, None, cond, map, take}
use Rattle.lg_containers.specs.NameTable.{pairs_of, get}
use Rattle.lg_meta.specs.MetaFold.{meta_at}
use Rattle.lg_meta.proofs.Folds.{is_among}
use Rattle.lg_meta.proofs.history.MetaHistory.copy_at.Given as goal

abbrev pub invariant-loop-place : goal.invariant-loop-place
invariant-loop-place l = (q : List ℕ) → get l.meta q ≡ cond (is_among q (map (λ pair. pair.0) (take l.place (pairs_of l.index)))) (get (meta_at l.date l.self.changes) q) None
