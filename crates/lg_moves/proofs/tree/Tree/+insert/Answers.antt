use Rattle.std.proofs.Common.{◌≡◌, ◌+◌, ◌^◌, ◌<◌, ◌++◌, max, ap, sym, subst, ◌∙◌}
use Rattle.std.specs.List.{sum_by}
use Rattle.lg_moves.specs.declared.tree.Trunk.{Trunk}
use Rattle.lg_moves.specs.declared.tree.Node.TheVariants.{Fork}
use Rattle.lg_moves.specs.Sums.{IsBounded}
use Rattle.lg_moves.specs.Seen.{Grown}
use Rattle.lg_moves.specs.Tree.{seen, whole, IsBalanced, IsFork}
use Rattle.lg_moves.proofs.RankLemmas.{rising_right}
use Rattle.lg_moves.proofs.GrowthLemmas.{Changes, change_left, change_right, change_here, change_nearly, change_grows, left_after, left_before, block_before, sides_before, right_after}
use Rattle.lg_moves.proofs.tree.Tree.+insert.Goals as goal

pub rebalance-requires : goal.rebalance-requires
rebalance-requires g t c =
    let is : c.args.self.now ≡ seen (Fork c.in-Fork.l c.in-Fork.block c.in-Fork.field-2 c.in-Fork.r) = sym c.self.view_is ∙ ap seen c.in-Fork.is in
    let w : IsFork c.in-Fork.l.value c.in-Fork.block c.in-Fork.field-2 c.in-Fork.r.value = subst IsBalanced c.in-Fork.is c.self.invariant in
    let bound : IsBounded (λ part. sum_by part (whole c.in-Fork.l.value c.in-Fork.block c.in-Fork.r.value) + part c.args.item.now) = rw is at c.requires.bounded in
    let high : c.args.self.now.height ≡ max c.in-Fork.l.value.height c.in-Fork.r.value.height + 1 = ap (λ (x : Grown). x.height) is ∙ ap (λ (x : Trunk). x.height) w.trunk in
    let ch : Changes c.args.item.now c.in-Fork.l.value c.in-Fork.block c.in-Fork.r.value c.insert.new.self c.in-Fork.block c.in-Fork.r.value c.args.pool.now c.insert.new.pool =
    change_left c.args.item.now c.in-Fork.l.value c.insert.new.self c.in-Fork.r.value c.in-Fork.block c.args.pool.now c.insert.new.pool w.parts (rw c.deref_mut.ensures.value at c.insert.ensures.grows) (left_after c.args.item.now c.in-Fork.l.value c.in-Fork.r.value c.in-Fork.block w.parts (c.goes_left.ensures.before c.if-goes_left.true)) in
    let fits : max c.in-Fork.l.value.height c.in-Fork.r.value.height + 1 < 2 ^ 62 = rw high at c.requires.height in
    change_nearly ch w.parts bound w.balanced fits

pub rebalance-requires-then-goes_right : goal.rebalance-requires-then-goes_right
rebalance-requires-then-goes_right g t c =
    let is : c.args.self.now ≡ seen (Fork c.in-Fork.l c.in-Fork.block c.in-Fork.field-2 c.in-Fork.r) = sym c.self.view_is ∙ ap seen c.in-Fork.is in
    let w : IsFork c.in-Fork.l.value c.in-Fork.block c.in-Fork.field-2 c.in-Fork.r.value = subst IsBalanced c.in-Fork.is c.self.invariant in
    let bound : IsBounded (λ part. sum_by part (whole c.in-Fork.l.value c.in-Fork.block c.in-Fork.r.value) + part c.args.item.now) = rw is at c.requires.bounded in
    let high : c.args.self.now.height ≡ max c.in-Fork.l.value.height c.in-Fork.r.value.height + 1 = ap (λ (x : Grown). x.height) is ∙ ap (λ (x : Trunk). x.height) w.trunk in
    let far = c.goes_right.ensures.after c.if-goes_right.true in
    let ch : Changes c.args.item.now c.in-Fork.l.value c.in-Fork.block c.in-Fork.r.value c.in-Fork.l.value c.in-Fork.block c.insert-then-goes_right.new.self c.args.pool.now c.insert-then-goes_right.new.pool =
    change_right c.args.item.now c.in-Fork.l.value c.in-Fork.r.value c.insert-then-goes_right.new.self c.in-Fork.block c.args.pool.now c.insert-then-goes_right.new.pool w.parts (rw c.deref_mut-then-goes_right.ensures.value at c.insert-then-goes_right.ensures.grows) (sides_before c.args.item.now c.in-Fork.l.value c.in-Fork.r.value c.in-Fork.block w.parts far) (block_before c.args.item.now c.in-Fork.l.value c.in-Fork.r.value c.in-Fork.block w.parts far) in
    let fits : max c.in-Fork.l.value.height c.in-Fork.r.value.height + 1 < 2 ^ 62 = rw high at c.requires.height in
    change_nearly ch w.parts bound w.balanced fits

pub put-requires-clause-rising : goal.put-requires-clause-rising
put-requires-clause-rising g t c =
    let is : c.args.self.now ≡ seen (Fork c.in-Fork.l c.in-Fork.block c.in-Fork.field-2 c.in-Fork.r) = sym c.self.view_is ∙ ap seen c.in-Fork.is in
    let w : IsFork c.in-Fork.l.value c.in-Fork.block c.in-Fork.field-2 c.in-Fork.r.value = subst IsBalanced c.in-Fork.is c.self.invariant in
    rw c.deref_mut-else-goes_right.ensures.value (rising_right c.in-Fork.l.value.items (c.in-Fork.block.items ++ c.in-Fork.r.value.items) w.parts.rising)

pub put-requires-clause-after : goal.put-requires-clause-after
put-requires-clause-after g t c =
    let is : c.args.self.now ≡ seen (Fork c.in-Fork.l c.in-Fork.block c.in-Fork.field-2 c.in-Fork.r) = sym c.self.view_is ∙ ap seen c.in-Fork.is in
    let w : IsFork c.in-Fork.l.value c.in-Fork.block c.in-Fork.field-2 c.in-Fork.r.value = subst IsBalanced c.in-Fork.is c.self.invariant in
    rw c.deref_mut-else-goes_right.ensures.value (right_after c.args.item.now c.in-Fork.l.value c.in-Fork.r.value c.in-Fork.block w.parts (rw c.deref-else-goes_left.ensures at (c.goes_right.ensures.before c.if-goes_right.false)))

pub rebalance-requires-else-goes_right : goal.rebalance-requires-else-goes_right
rebalance-requires-else-goes_right g t c =
    let is : c.args.self.now ≡ seen (Fork c.in-Fork.l c.in-Fork.block c.in-Fork.field-2 c.in-Fork.r) = sym c.self.view_is ∙ ap seen c.in-Fork.is in
    let w : IsFork c.in-Fork.l.value c.in-Fork.block c.in-Fork.field-2 c.in-Fork.r.value = subst IsBalanced c.in-Fork.is c.self.invariant in
    let bound : IsBounded (λ part. sum_by part (whole c.in-Fork.l.value c.in-Fork.block c.in-Fork.r.value) + part c.args.item.now) = rw is at c.requires.bounded in
    let high : c.args.self.now.height ≡ max c.in-Fork.l.value.height c.in-Fork.r.value.height + 1 = ap (λ (x : Grown). x.height) is ∙ ap (λ (x : Trunk). x.height) w.trunk in
    let ch : Changes c.args.item.now c.in-Fork.l.value c.in-Fork.block c.in-Fork.r.value c.in-Fork.l.value c.put.new.block c.put.new.right c.args.pool.now c.put.new.pool =
    change_here c.args.item.now c.in-Fork.l.value c.in-Fork.r.value c.put.new.right c.in-Fork.block c.put.new.block c.args.pool.now c.put.new.pool w.parts (rw c.deref_mut-else-goes_right.ensures.value at c.put.ensures.puts) (left_before c.args.item.now c.in-Fork.l.value c.in-Fork.r.value c.in-Fork.block w.parts (rw c.deref.ensures at (c.goes_left.ensures.after c.if-goes_left.false))) in
    let fits : max c.in-Fork.l.value.height c.in-Fork.r.value.height + 1 < 2 ^ 62 = rw high at c.requires.height in
    change_nearly ch w.parts bound w.balanced fits

pub returns-then-goes_left-clause-grows : goal.returns-then-goes_left-clause-grows
returns-then-goes_left-clause-grows g t c =
    let is : c.args.self.now ≡ seen (Fork c.in-Fork.l c.in-Fork.block c.in-Fork.field-2 c.in-Fork.r) = sym c.self.view_is ∙ ap seen c.in-Fork.is in
    let w : IsFork c.in-Fork.l.value c.in-Fork.block c.in-Fork.field-2 c.in-Fork.r.value = subst IsBalanced c.in-Fork.is c.self.invariant in
    let bound : IsBounded (λ part. sum_by part (whole c.in-Fork.l.value c.in-Fork.block c.in-Fork.r.value) + part c.args.item.now) = rw is at c.requires.bounded in
    let high : c.args.self.now.height ≡ max c.in-Fork.l.value.height c.in-Fork.r.value.height + 1 = ap (λ (x : Grown). x.height) is ∙ ap (λ (x : Trunk). x.height) w.trunk in
    let ch : Changes c.args.item.now c.in-Fork.l.value c.in-Fork.block c.in-Fork.r.value c.insert.new.self c.in-Fork.block c.in-Fork.r.value c.args.pool.now c.insert.new.pool =
    change_left c.args.item.now c.in-Fork.l.value c.insert.new.self c.in-Fork.r.value c.in-Fork.block c.args.pool.now c.insert.new.pool w.parts (rw c.deref_mut.ensures.value at c.insert.ensures.grows) (left_after c.args.item.now c.in-Fork.l.value c.in-Fork.r.value c.in-Fork.block w.parts (c.goes_left.ensures.before c.if-goes_left.true)) in
    change_grows c.args.item.now c.in-Fork.l.value c.in-Fork.r.value c.insert.new.self c.in-Fork.r.value c.args.self.now c.in-Fork.block c.in-Fork.block c.args.pool.now c.insert.new.pool c.rebalance.new.node ch w.balanced (ap (λ (x : Grown). x.items) is) (ap (λ (x : Grown). x.blocks) is) (ap (λ (x : Grown). x.extra) is) high
    c.rebalance.ensures.node.0 c.rebalance.ensures.node.1 c.rebalance.ensures.node.2

pub returns-then-goes_right-clause-grows : goal.returns-then-goes_right-clause-grows
returns-then-goes_right-clause-grows g t c =
    let is : c.args.self.now ≡ seen (Fork c.in-Fork.l c.in-Fork.block c.in-Fork.field-2 c.in-Fork.r) = sym c.self.view_is ∙ ap seen c.in-Fork.is in
    let w : IsFork c.in-Fork.l.value c.in-Fork.block c.in-Fork.field-2 c.in-Fork.r.value = subst IsBalanced c.in-Fork.is c.self.invariant in
    let bound : IsBounded (λ part. sum_by part (whole c.in-Fork.l.value c.in-Fork.block c.in-Fork.r.value) + part c.args.item.now) = rw is at c.requires.bounded in
    let high : c.args.self.now.height ≡ max c.in-Fork.l.value.height c.in-Fork.r.value.height + 1 = ap (λ (x : Grown). x.height) is ∙ ap (λ (x : Trunk). x.height) w.trunk in
    let far = c.goes_right.ensures.after c.if-goes_right.true in
    let ch : Changes c.args.item.now c.in-Fork.l.value c.in-Fork.block c.in-Fork.r.value c.in-Fork.l.value c.in-Fork.block c.insert-then-goes_right.new.self c.args.pool.now c.insert-then-goes_right.new.pool =
    change_right c.args.item.now c.in-Fork.l.value c.in-Fork.r.value c.insert-then-goes_right.new.self c.in-Fork.block c.args.pool.now c.insert-then-goes_right.new.pool w.parts (rw c.deref_mut-then-goes_right.ensures.value at c.insert-then-goes_right.ensures.grows) (sides_before c.args.item.now c.in-Fork.l.value c.in-Fork.r.value c.in-Fork.block w.parts far) (block_before c.args.item.now c.in-Fork.l.value c.in-Fork.r.value c.in-Fork.block w.parts far) in
    change_grows c.args.item.now c.in-Fork.l.value c.in-Fork.r.value c.in-Fork.l.value c.insert-then-goes_right.new.self c.args.self.now c.in-Fork.block c.in-Fork.block c.args.pool.now c.insert-then-goes_right.new.pool c.rebalance-then-goes_right.new.node ch w.balanced (ap (λ (x : Grown). x.items) is) (ap (λ (x : Grown). x.blocks) is) (ap (λ (x : Grown). x.extra) is) high
    c.rebalance-then-goes_right.ensures.node.0 c.rebalance-then-goes_right.ensures.node.1 c.rebalance-then-goes_right.ensures.node.2

pub returns-else-goes_right-clause-grows : goal.returns-else-goes_right-clause-grows
returns-else-goes_right-clause-grows g t c =
    let is : c.args.self.now ≡ seen (Fork c.in-Fork.l c.in-Fork.block c.in-Fork.field-2 c.in-Fork.r) = sym c.self.view_is ∙ ap seen c.in-Fork.is in
    let w : IsFork c.in-Fork.l.value c.in-Fork.block c.in-Fork.field-2 c.in-Fork.r.value = subst IsBalanced c.in-Fork.is c.self.invariant in
    let bound : IsBounded (λ part. sum_by part (whole c.in-Fork.l.value c.in-Fork.block c.in-Fork.r.value) + part c.args.item.now) = rw is at c.requires.bounded in
    let high : c.args.self.now.height ≡ max c.in-Fork.l.value.height c.in-Fork.r.value.height + 1 = ap (λ (x : Grown). x.height) is ∙ ap (λ (x : Trunk). x.height) w.trunk in
    let ch : Changes c.args.item.now c.in-Fork.l.value c.in-Fork.block c.in-Fork.r.value c.in-Fork.l.value c.put.new.block c.put.new.right c.args.pool.now c.put.new.pool =
    change_here c.args.item.now c.in-Fork.l.value c.in-Fork.r.value c.put.new.right c.in-Fork.block c.put.new.block c.args.pool.now c.put.new.pool w.parts (rw c.deref_mut-else-goes_right.ensures.value at c.put.ensures.puts) (left_before c.args.item.now c.in-Fork.l.value c.in-Fork.r.value c.in-Fork.block w.parts (rw c.deref.ensures at (c.goes_left.ensures.after c.if-goes_left.false))) in
    change_grows c.args.item.now c.in-Fork.l.value c.in-Fork.r.value c.in-Fork.l.value c.put.new.right c.args.self.now c.in-Fork.block c.put.new.block c.args.pool.now c.put.new.pool c.rebalance-else-goes_right.new.node ch w.balanced (ap (λ (x : Grown). x.items) is) (ap (λ (x : Grown). x.blocks) is) (ap (λ (x : Grown). x.extra) is) high
    c.rebalance-else-goes_right.ensures.node.0 c.rebalance-else-goes_right.ensures.node.1 c.rebalance-else-goes_right.ensures.node.2
