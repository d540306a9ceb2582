use Rattle.std.proofs.Common.{◌≡◌, ◌-◌, true, false, length, get_or, ap, sym, subst, ◌∙◌}
use Rattle.std.specs.List.{sum_by}
use Rattle.lg_types.specs.declared.moves.Move.{Move}
use Rattle.lg_moves.specs.declared.tree.Node.TheVariants.{Fork}
use Rattle.lg_types.specs.Tally.{if_passing}
use Rattle.lg_moves.specs.Bounds.{passes}
use Rattle.lg_moves.specs.Sums.{AreSums}
use Rattle.lg_moves.specs.Seen.{Grown}
use Rattle.lg_moves.specs.Tree.{seen, IsBalanced, IsFork}
use Rattle.lg_moves.proofs.SumLemmas.{plus_sums}
use Rattle.lg_moves.proofs.ReadingLemmas.{far_reading, near_reading, within_reading, near_fit, near_fit_all, within_fit}
use Rattle.lg_moves.proofs.tree.Tree.+sum.Goals as goal

pub plus-requires-clause-input : goal.plus-requires-clause-input
plus-requires-clause-input g t c =
    let w : IsFork c.in-Fork.l.value c.in-Fork.block c.in-Fork.field-2 c.in-Fork.r.value = subst IsBalanced c.in-Fork.is c.self.invariant in
    let rest : AreSums c.sum-rest.result (λ part. sum_by (if_passing (passes c.args.bound.now) part) c.in-Fork.r.value.items) = rw c.deref-then-is_near.ensures at c.sum-rest.ensures.value in
    (near_fit c.args.bound.now c.in-Fork.l.value c.in-Fork.r.value c.in-Fork.block c.sums.result c.sum-rest.result w.parts c.sums.ensures rest).input

pub plus-requires-clause-output : goal.plus-requires-clause-output
plus-requires-clause-output g t c =
    let w : IsFork c.in-Fork.l.value c.in-Fork.block c.in-Fork.field-2 c.in-Fork.r.value = subst IsBalanced c.in-Fork.is c.self.invariant in
    let rest : AreSums c.sum-rest.result (λ part. sum_by (if_passing (passes c.args.bound.now) part) c.in-Fork.r.value.items) = rw c.deref-then-is_near.ensures at c.sum-rest.ensures.value in
    (near_fit c.args.bound.now c.in-Fork.l.value c.in-Fork.r.value c.in-Fork.block c.sums.result c.sum-rest.result w.parts c.sums.ensures rest).output

pub plus-requires-clause-count : goal.plus-requires-clause-count
plus-requires-clause-count g t c =
    let w : IsFork c.in-Fork.l.value c.in-Fork.block c.in-Fork.field-2 c.in-Fork.r.value = subst IsBalanced c.in-Fork.is c.self.invariant in
    let rest : AreSums c.sum-rest.result (λ part. sum_by (if_passing (passes c.args.bound.now) part) c.in-Fork.r.value.items) = rw c.deref-then-is_near.ensures at c.sum-rest.ensures.value in
    (near_fit c.args.bound.now c.in-Fork.l.value c.in-Fork.r.value c.in-Fork.block c.sums.result c.sum-rest.result w.parts c.sums.ensures rest).count

pub plus-requires-then-is_near-clause-input : goal.plus-requires-then-is_near-clause-input
plus-requires-then-is_near-clause-input g t c =
    let w : IsFork c.in-Fork.l.value c.in-Fork.block c.in-Fork.field-2 c.in-Fork.r.value = subst IsBalanced c.in-Fork.is c.self.invariant in
    let rest : AreSums c.sum-rest.result (λ part. sum_by (if_passing (passes c.args.bound.now) part) c.in-Fork.r.value.items) = rw c.deref-then-is_near.ensures at c.sum-rest.ensures.value in
    let total : AreSums c.total.result (λ part. sum_by part c.in-Fork.l.value.items) = rw c.deref-then-is_near-2.ensures at c.total.ensures in
    let both = plus_sums c.sums.ensures rest c.plus.result c.plus.ensures in
    (near_fit_all c.args.bound.now c.in-Fork.l.value c.in-Fork.r.value c.in-Fork.block c.total.result c.plus.result w.parts total both).input

pub plus-requires-then-is_near-clause-output : goal.plus-requires-then-is_near-clause-output
plus-requires-then-is_near-clause-output g t c =
    let w : IsFork c.in-Fork.l.value c.in-Fork.block c.in-Fork.field-2 c.in-Fork.r.value = subst IsBalanced c.in-Fork.is c.self.invariant in
    let rest : AreSums c.sum-rest.result (λ part. sum_by (if_passing (passes c.args.bound.now) part) c.in-Fork.r.value.items) = rw c.deref-then-is_near.ensures at c.sum-rest.ensures.value in
    let total : AreSums c.total.result (λ part. sum_by part c.in-Fork.l.value.items) = rw c.deref-then-is_near-2.ensures at c.total.ensures in
    let both = plus_sums c.sums.ensures rest c.plus.result c.plus.ensures in
    (near_fit_all c.args.bound.now c.in-Fork.l.value c.in-Fork.r.value c.in-Fork.block c.total.result c.plus.result w.parts total both).output

pub plus-requires-then-is_near-clause-count : goal.plus-requires-then-is_near-clause-count
plus-requires-then-is_near-clause-count g t c =
    let w : IsFork c.in-Fork.l.value c.in-Fork.block c.in-Fork.field-2 c.in-Fork.r.value = subst IsBalanced c.in-Fork.is c.self.invariant in
    let rest : AreSums c.sum-rest.result (λ part. sum_by (if_passing (passes c.args.bound.now) part) c.in-Fork.r.value.items) = rw c.deref-then-is_near.ensures at c.sum-rest.ensures.value in
    let total : AreSums c.total.result (λ part. sum_by part c.in-Fork.l.value.items) = rw c.deref-then-is_near-2.ensures at c.total.ensures in
    let both = plus_sums c.sums.ensures rest c.plus.result c.plus.ensures in
    (near_fit_all c.args.bound.now c.in-Fork.l.value c.in-Fork.r.value c.in-Fork.block c.total.result c.plus.result w.parts total both).count

pub plus-requires-else-is_near-clause-input : goal.plus-requires-else-is_near-clause-input
plus-requires-else-is_near-clause-input g t c =
    let w : IsFork c.in-Fork.l.value c.in-Fork.block c.in-Fork.field-2 c.in-Fork.r.value = subst IsBalanced c.in-Fork.is c.self.invariant in
    let total : AreSums c.total-else-is_near.result (λ part. sum_by part c.in-Fork.l.value.items) = rw c.deref-else-is_near.ensures at c.total-else-is_near.ensures in
    (within_fit c.args.bound.now c.in-Fork.l.value c.in-Fork.r.value c.in-Fork.block c.total-else-is_near.result c.sum-part.result w.parts total c.sum-part.ensures.value).input

pub plus-requires-else-is_near-clause-output : goal.plus-requires-else-is_near-clause-output
plus-requires-else-is_near-clause-output g t c =
    let w : IsFork c.in-Fork.l.value c.in-Fork.block c.in-Fork.field-2 c.in-Fork.r.value = subst IsBalanced c.in-Fork.is c.self.invariant in
    let total : AreSums c.total-else-is_near.result (λ part. sum_by part c.in-Fork.l.value.items) = rw c.deref-else-is_near.ensures at c.total-else-is_near.ensures in
    (within_fit c.args.bound.now c.in-Fork.l.value c.in-Fork.r.value c.in-Fork.block c.total-else-is_near.result c.sum-part.result w.parts total c.sum-part.ensures.value).output

pub plus-requires-else-is_near-clause-count : goal.plus-requires-else-is_near-clause-count
plus-requires-else-is_near-clause-count g t c =
    let w : IsFork c.in-Fork.l.value c.in-Fork.block c.in-Fork.field-2 c.in-Fork.r.value = subst IsBalanced c.in-Fork.is c.self.invariant in
    let total : AreSums c.total-else-is_near.result (λ part. sum_by part c.in-Fork.l.value.items) = rw c.deref-else-is_near.ensures at c.total-else-is_near.ensures in
    (within_fit c.args.bound.now c.in-Fork.l.value c.in-Fork.r.value c.in-Fork.block c.total-else-is_near.result c.sum-part.result w.parts total c.sum-part.ensures.value).count

pub returns-then-not-is_near-clause-value : goal.returns-then-not-is_near-clause-value
returns-then-not-is_near-clause-value g t c =
    let w : IsFork c.in-Fork.l.value c.in-Fork.block c.in-Fork.field-2 c.in-Fork.r.value = subst IsBalanced c.in-Fork.is c.self.invariant in
    let is : seen (Fork c.in-Fork.l c.in-Fork.block c.in-Fork.field-2 c.in-Fork.r) ≡ c.args.self.now = ap seen (sym c.in-Fork.is) ∙ c.self.view_is in
    let far : (d : Move) → passes c.args.bound.now (get_or c.in-Fork.block.items 0 d) ≡ false = λ d. rw (c.first.ensures d w.parts.some) at (sym c.is_near.ensures ∙ c.if-not-is_near.true) in
    subst (λ (x : Grown). AreSums c.sum.result (λ part. sum_by (if_passing (passes c.args.bound.now) part) x.items)) is
    (far_reading c.args.bound.now c.in-Fork.l.value c.in-Fork.r.value c.in-Fork.block c.sum.result c.requires w.parts far (rw c.deref.ensures at c.sum.ensures.value))

pub returns-then-is_near-clause-value : goal.returns-then-is_near-clause-value
returns-then-is_near-clause-value g t c =
    let w : IsFork c.in-Fork.l.value c.in-Fork.block c.in-Fork.field-2 c.in-Fork.r.value = subst IsBalanced c.in-Fork.is c.self.invariant in
    let is : seen (Fork c.in-Fork.l c.in-Fork.block c.in-Fork.field-2 c.in-Fork.r) ≡ c.args.self.now = ap seen (sym c.in-Fork.is) ∙ c.self.view_is in
    let rest : AreSums c.sum-rest.result (λ part. sum_by (if_passing (passes c.args.bound.now) part) c.in-Fork.r.value.items) = rw c.deref-then-is_near.ensures at c.sum-rest.ensures.value in
    let total : AreSums c.total.result (λ part. sum_by part c.in-Fork.l.value.items) = rw c.deref-then-is_near-2.ensures at c.total.ensures in
    let both = plus_sums c.sums.ensures rest c.plus.result c.plus.ensures in
    let near : (d : Move) → passes c.args.bound.now (get_or c.in-Fork.block.items (length c.in-Fork.block.items - 1) d) ≡ true = λ d. rw (c.last.ensures d w.parts.some) at (sym c.is_near-else-not-is_near.ensures ∙ c.if-is_near.true) in
    subst (λ (x : Grown). AreSums c.plus-then-is_near.result (λ part. sum_by (if_passing (passes c.args.bound.now) part) x.items)) is
    (near_reading c.args.bound.now c.in-Fork.l.value c.in-Fork.r.value c.in-Fork.block c.plus-then-is_near.result c.requires w.parts near (plus_sums total both c.plus-then-is_near.result c.plus-then-is_near.ensures))

pub returns-else-is_near-clause-value : goal.returns-else-is_near-clause-value
returns-else-is_near-clause-value g t c =
    let w : IsFork c.in-Fork.l.value c.in-Fork.block c.in-Fork.field-2 c.in-Fork.r.value = subst IsBalanced c.in-Fork.is c.self.invariant in
    let is : seen (Fork c.in-Fork.l c.in-Fork.block c.in-Fork.field-2 c.in-Fork.r) ≡ c.args.self.now = ap seen (sym c.in-Fork.is) ∙ c.self.view_is in
    let total : AreSums c.total-else-is_near.result (λ part. sum_by part c.in-Fork.l.value.items) = rw c.deref-else-is_near.ensures at c.total-else-is_near.ensures in
    let near : (d : Move) → passes c.args.bound.now (get_or c.in-Fork.block.items 0 d) ≡ true = λ d. rw (c.first.ensures d w.parts.some) at (sym c.is_near.ensures ∙ c.if-not-is_near.false) in
    let far : (d : Move) → passes c.args.bound.now (get_or c.in-Fork.block.items (length c.in-Fork.block.items - 1) d) ≡ false = λ d. rw (c.last.ensures d w.parts.some) at (sym c.is_near-else-not-is_near.ensures ∙ c.if-is_near.false) in
    subst (λ (x : Grown). AreSums c.plus-else-is_near.result (λ part. sum_by (if_passing (passes c.args.bound.now) part) x.items)) is
    (within_reading c.args.bound.now c.in-Fork.l.value c.in-Fork.r.value c.in-Fork.block c.plus-else-is_near.result c.requires w.parts near far (plus_sums total c.sum-part.ensures.value c.plus-else-is_near.result c.plus-else-is_near.ensures))
