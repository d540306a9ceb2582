use Rattle.std.proofs.Common.{◌≡◌, ◌++◌, ap, sym, ◌∙◌, rules}
use Rattle.std.specs.List.{sum_by}
use Rattle.lg_moves.specs.declared.tree.Node.TheVariants.{Fork}
use Rattle.lg_moves.specs.Sums.{IsBounded}
use Rattle.lg_moves.specs.Ranks.{IsRising}
use Rattle.lg_moves.specs.Tree.{seen}
use Rattle.lg_moves.proofs.TreeLemmas.{thick_node, front_rising, front_bounded}
use Rattle.lg_moves.proofs.tree.Tree.+push_front.Goals as goal

pub push_front-requires : goal.push_front-requires
push_front-requires g t c κs within =
    let is : c.args.self.now ≡ seen (Fork c.in-Fork.l c.in-Fork.field-1 c.in-Fork.field-2 c.in-Fork.field-3) = sym c.self.view_is ∙ ap seen c.in-Fork.is in
    let r : IsRising (c.args.spare.items ++ c.deref_mut.result.now.items) =
    rw c.deref_mut.ensures.value (front_rising c.args.spare.items c.in-Fork.l.value c.in-Fork.field-1 c.in-Fork.field-3.value (rw is at c.requires.rising)) in
    let b : IsBounded (λ part. sum_by part (c.args.spare.items ++ c.deref_mut.result.now.items)) =
    rw c.deref_mut.ensures.value (front_bounded c.args.spare.items c.in-Fork.l.value c.in-Fork.field-1 c.in-Fork.field-3.value (rw is at c.requires.bounded)) in
    search rules

pub returns-in-Fork-clause-thick : goal.returns-in-Fork-clause-thick
returns-in-Fork-clause-thick g t c = thick_node c.rebalance.new.node c.rebalance.ensures.node.0
