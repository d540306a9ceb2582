use Rattle.std.proofs.Common.{take, drop, slice_get, IsSome, IfSome, ◌≤ℤ◌, refl, sym, ap, subst}
use Rattle.std.proofs.lemmas.Int.{to_z-of_z}
use Rattle.lg_meta.specs.MetaFold.{last_date}
use Rattle.lg_meta.specs.Index.{changes_of}
use Rattle.lg_meta.proofs.Histories.{within_first, applied_more}
use Rattle.lg_meta.proofs.history.MetaHistory.apply_first.Goals as goal

pub invariant_of-self : goal.invariant_of-self
invariant_of-self c =
    let first : IsSome (slice_get (changes_of (drop c.self.inside.applied c.self.inside.changes.items)) 0) =
    subst (λ ps. IsSome (slice_get ps 0)) (sym (ap (λ h. h.prepared) c.self.view_is)) c.requires.first in
    let later : IfSome (last_date (take c.self.inside.applied c.self.inside.changes.items)) (λ last. last ≤ℤ c.args.date) =
    subst (λ cs. IfSome (last_date cs) (λ last. last ≤ℤ c.args.date)) (sym (ap (λ h. h.changes) c.self.view_is)) c.requires.later in
    applied_more _ _ _ c.index_mut-dated.result.now _ c.self.invariant (within_first _ _ first) c.index_mut-dated.ensures.value refl
    (subst (λ date. IfSome (last_date (take c.self.inside.applied c.self.inside.changes.items)) (λ last. last ≤ℤ date)) (sym (to_z-of_z _ c.args.date c.ranges.date)) later)
