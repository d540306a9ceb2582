use Rattle.std.proofs.Common.{◌≡◌, ◌+◌, ◌-◌, max, length, ap, arith}
use Rattle.lg_moves.specs.declared.tree.Trunk.{Trunk}
use Rattle.lg_moves.specs.declared.tree.Node.TheVariants.{Fork}
use Rattle.lg_moves.specs.Seen.{Grown}
use Rattle.lg_moves.specs.Tree.{seen, whole, trunk_of, AreInOrder, DifferByAtMost}
use Rattle.lg_moves.proofs.TreeLemmas.{inner_right, inner_left, outer_left, outer_middle_left, fork_of, thick_fork, regrouped_left}
use Rattle.lg_moves.proofs.tree.lean_left.Goals as goal

pub fork-requires-clause-parts : goal.fork-requires-clause-parts
fork-requires-clause-parts g c =
    let outer = c.in-Fork.ensures in
    let is : c.args.l.value.items ≡ whole c.in-Fork.x.value c.in-Fork.left c.in-Fork.y.value = cc (ap (λ (d : Grown). d.items) outer.same_view) in
    inner_right c.args.l.value c.in-Fork.x.value c.in-Fork.y.value c.args.z.value c.in-Fork.left c.args.block is c.requires.parts outer.balanced.parts

pub close-requires : goal.close-requires
close-requires g c =
    let outer = c.in-Fork.ensures in
    let is : c.args.l.value.items ≡ whole c.in-Fork.x.value c.in-Fork.left c.in-Fork.y.value = cc (ap (λ (d : Grown). d.items) outer.same_view) in
    let lh : c.args.l.value.height ≡ c.in-Fork.field-2.height = cc (ap (λ (d : Grown). d.height) outer.same_view) in
    let th : c.in-Fork.field-2.height ≡ max c.in-Fork.x.value.height c.in-Fork.y.value.height + 1 = ap (λ (t : Trunk). t.height) outer.balanced.trunk in
    let dx : c.deref.result.now.height ≡ c.in-Fork.x.value.height = ap (λ (d : Grown). d.height) c.deref.ensures in
    let dy : c.deref-2.result.now.height ≡ c.in-Fork.y.value.height = ap (λ (d : Grown). d.height) c.deref-2.ensures in
    let near = outer.balanced.balanced in
    let d : DifferByAtMost 1 c.in-Fork.y.value.height c.args.z.value.height = (omega arith, omega arith) in
    rw c.fork.ensures.node (fork_of c.in-Fork.y.value c.args.z.value c.args.block (inner_right c.args.l.value c.in-Fork.x.value c.in-Fork.y.value c.args.z.value c.in-Fork.left c.args.block is c.requires.parts outer.balanced.parts) d)

pub fork-requires-then-height-clause-parts : goal.fork-requires-then-height-clause-parts
fork-requires-then-height-clause-parts g c =
    let outer = c.in-Fork.ensures in
    let is : c.args.l.value.items ≡ whole c.in-Fork.x.value c.in-Fork.left c.in-Fork.y.value = cc (ap (λ (d : Grown). d.items) outer.same_view) in
    let lh : c.args.l.value.height ≡ c.in-Fork.field-2.height = cc (ap (λ (d : Grown). d.height) outer.same_view) in
    let th : c.in-Fork.field-2.height ≡ max c.in-Fork.x.value.height c.in-Fork.y.value.height + 1 = ap (λ (t : Trunk). t.height) outer.balanced.trunk in
    let dx : c.deref.result.now.height ≡ c.in-Fork.x.value.height = ap (λ (d : Grown). d.height) c.deref.ensures in
    let dy : c.deref-2.result.now.height ≡ c.in-Fork.y.value.height = ap (λ (d : Grown). d.height) c.deref-2.ensures in
    let near = outer.balanced.balanced in
    let d : DifferByAtMost 1 c.in-Fork.y.value.height c.args.z.value.height = (omega arith, omega arith) in
    let p : AreInOrder c.in-Fork.y.value c.args.block c.args.z.value = inner_right c.args.l.value c.in-Fork.x.value c.in-Fork.y.value c.args.z.value c.in-Fork.left c.args.block is c.requires.parts outer.balanced.parts in
    let same : c.close.result ≡ seen (Fork c.in-Fork.y c.args.block (trunk_of c.in-Fork.y.value c.args.block c.args.z.value) c.args.z) = rw c.fork.ensures.node at c.close.ensures.same_view in
    let samei = ap (λ (d : Grown). d.items) same in
    let sameh = ap (λ (d : Grown). d.height) same in
    let sameb = ap (λ (d : Grown). d.blocks) same in
    let samee = ap (λ (d : Grown). d.extra) same in
    outer_left c.args.l.value c.in-Fork.x.value c.in-Fork.y.value c.args.z.value c.close.result c.in-Fork.left c.args.block is samei c.requires.parts outer.balanced.parts (thick_fork c.in-Fork.y.value c.args.z.value c.args.block c.close.result p d same)

pub returns-then-height-clause-balanced : goal.returns-then-height-clause-balanced
returns-then-height-clause-balanced g c =
    let outer = c.in-Fork.ensures in
    let is : c.args.l.value.items ≡ whole c.in-Fork.x.value c.in-Fork.left c.in-Fork.y.value = cc (ap (λ (d : Grown). d.items) outer.same_view) in
    let lh : c.args.l.value.height ≡ c.in-Fork.field-2.height = cc (ap (λ (d : Grown). d.height) outer.same_view) in
    let th : c.in-Fork.field-2.height ≡ max c.in-Fork.x.value.height c.in-Fork.y.value.height + 1 = ap (λ (t : Trunk). t.height) outer.balanced.trunk in
    let dx : c.deref.result.now.height ≡ c.in-Fork.x.value.height = ap (λ (d : Grown). d.height) c.deref.ensures in
    let dy : c.deref-2.result.now.height ≡ c.in-Fork.y.value.height = ap (λ (d : Grown). d.height) c.deref-2.ensures in
    let near = outer.balanced.balanced in
    let d : DifferByAtMost 1 c.in-Fork.y.value.height c.args.z.value.height = (omega arith, omega arith) in
    let p : AreInOrder c.in-Fork.y.value c.args.block c.args.z.value = inner_right c.args.l.value c.in-Fork.x.value c.in-Fork.y.value c.args.z.value c.in-Fork.left c.args.block is c.requires.parts outer.balanced.parts in
    let same : c.close.result ≡ seen (Fork c.in-Fork.y c.args.block (trunk_of c.in-Fork.y.value c.args.block c.args.z.value) c.args.z) = rw c.fork.ensures.node at c.close.ensures.same_view in
    let samei = ap (λ (d : Grown). d.items) same in
    let sameh = ap (λ (d : Grown). d.height) same in
    let sameb = ap (λ (d : Grown). d.blocks) same in
    let samee = ap (λ (d : Grown). d.extra) same in
    let q : AreInOrder c.in-Fork.x.value c.in-Fork.left c.close.result = outer_left c.args.l.value c.in-Fork.x.value c.in-Fork.y.value c.args.z.value c.close.result c.in-Fork.left c.args.block is samei c.requires.parts outer.balanced.parts (thick_fork c.in-Fork.y.value c.args.z.value c.args.block c.close.result p d same) in
    let e : DifferByAtMost 1 c.in-Fork.x.value.height c.close.result.height = (omega arith, omega arith) in
    rw c.fork-then-height.ensures.node (fork_of c.in-Fork.x.value c.close.result c.in-Fork.left q e)

pub fork-requires-2-clause-parts : goal.fork-requires-2-clause-parts
fork-requires-2-clause-parts g c =
    let outer = c.in-Fork.ensures in
    let is : c.args.l.value.items ≡ whole c.in-Fork.x.value c.in-Fork.left c.in-Fork.y.value = cc (ap (λ (d : Grown). d.items) outer.same_view) in
    let inner = c.in-Fork-open.ensures in
    let yis : c.in-Fork.y.value.items ≡ whole c.in-Fork-open.u.value c.in-Fork-open.middle c.in-Fork-open.v.value = cc (ap (λ (d : Grown). d.items) inner.same_view) in
    inner_left c.in-Fork.x.value c.in-Fork.y.value c.in-Fork-open.u.value c.in-Fork-open.v.value c.in-Fork.left c.in-Fork-open.middle yis outer.balanced.parts inner.balanced.parts

pub close-requires-2 : goal.close-requires-2
close-requires-2 g c =
    let outer = c.in-Fork.ensures in
    let is : c.args.l.value.items ≡ whole c.in-Fork.x.value c.in-Fork.left c.in-Fork.y.value = cc (ap (λ (d : Grown). d.items) outer.same_view) in
    let lh : c.args.l.value.height ≡ c.in-Fork.field-2.height = cc (ap (λ (d : Grown). d.height) outer.same_view) in
    let th : c.in-Fork.field-2.height ≡ max c.in-Fork.x.value.height c.in-Fork.y.value.height + 1 = ap (λ (t : Trunk). t.height) outer.balanced.trunk in
    let dx : c.deref.result.now.height ≡ c.in-Fork.x.value.height = ap (λ (d : Grown). d.height) c.deref.ensures in
    let dy : c.deref-2.result.now.height ≡ c.in-Fork.y.value.height = ap (λ (d : Grown). d.height) c.deref-2.ensures in
    let near = outer.balanced.balanced in
    let inner = c.in-Fork-open.ensures in
    let yis : c.in-Fork.y.value.items ≡ whole c.in-Fork-open.u.value c.in-Fork-open.middle c.in-Fork-open.v.value = cc (ap (λ (d : Grown). d.items) inner.same_view) in
    let yh : c.in-Fork.y.value.height ≡ c.in-Fork-open.field-2.height = cc (ap (λ (d : Grown). d.height) inner.same_view) in
    let uh : c.in-Fork-open.field-2.height ≡ max c.in-Fork-open.u.value.height c.in-Fork-open.v.value.height + 1 = ap (λ (t : Trunk). t.height) inner.balanced.trunk in
    let near2 = inner.balanced.balanced in
    let d : DifferByAtMost 1 c.in-Fork.x.value.height c.in-Fork-open.u.value.height = (omega arith, omega arith) in
    rw c.fork-2.ensures.node (fork_of c.in-Fork.x.value c.in-Fork-open.u.value c.in-Fork.left (inner_left c.in-Fork.x.value c.in-Fork.y.value c.in-Fork-open.u.value c.in-Fork-open.v.value c.in-Fork.left c.in-Fork-open.middle yis outer.balanced.parts inner.balanced.parts) d)

pub fork-requires-3-clause-parts : goal.fork-requires-3-clause-parts
fork-requires-3-clause-parts g c =
    let outer = c.in-Fork.ensures in
    let is : c.args.l.value.items ≡ whole c.in-Fork.x.value c.in-Fork.left c.in-Fork.y.value = cc (ap (λ (d : Grown). d.items) outer.same_view) in
    let inner = c.in-Fork-open.ensures in
    let yis : c.in-Fork.y.value.items ≡ whole c.in-Fork-open.u.value c.in-Fork-open.middle c.in-Fork-open.v.value = cc (ap (λ (d : Grown). d.items) inner.same_view) in
    inner_right c.in-Fork.y.value c.in-Fork-open.u.value c.in-Fork-open.v.value c.args.z.value c.in-Fork-open.middle c.args.block yis (inner_right c.args.l.value c.in-Fork.x.value c.in-Fork.y.value c.args.z.value c.in-Fork.left c.args.block is c.requires.parts outer.balanced.parts) inner.balanced.parts

pub close-requires-3 : goal.close-requires-3
close-requires-3 g c =
    let outer = c.in-Fork.ensures in
    let is : c.args.l.value.items ≡ whole c.in-Fork.x.value c.in-Fork.left c.in-Fork.y.value = cc (ap (λ (d : Grown). d.items) outer.same_view) in
    let lh : c.args.l.value.height ≡ c.in-Fork.field-2.height = cc (ap (λ (d : Grown). d.height) outer.same_view) in
    let th : c.in-Fork.field-2.height ≡ max c.in-Fork.x.value.height c.in-Fork.y.value.height + 1 = ap (λ (t : Trunk). t.height) outer.balanced.trunk in
    let dx : c.deref.result.now.height ≡ c.in-Fork.x.value.height = ap (λ (d : Grown). d.height) c.deref.ensures in
    let dy : c.deref-2.result.now.height ≡ c.in-Fork.y.value.height = ap (λ (d : Grown). d.height) c.deref-2.ensures in
    let near = outer.balanced.balanced in
    let inner = c.in-Fork-open.ensures in
    let yis : c.in-Fork.y.value.items ≡ whole c.in-Fork-open.u.value c.in-Fork-open.middle c.in-Fork-open.v.value = cc (ap (λ (d : Grown). d.items) inner.same_view) in
    let yh : c.in-Fork.y.value.height ≡ c.in-Fork-open.field-2.height = cc (ap (λ (d : Grown). d.height) inner.same_view) in
    let uh : c.in-Fork-open.field-2.height ≡ max c.in-Fork-open.u.value.height c.in-Fork-open.v.value.height + 1 = ap (λ (t : Trunk). t.height) inner.balanced.trunk in
    let near2 = inner.balanced.balanced in
    let d : DifferByAtMost 1 c.in-Fork-open.v.value.height c.args.z.value.height = (omega arith, omega arith) in
    rw c.fork-3.ensures.node (fork_of c.in-Fork-open.v.value c.args.z.value c.args.block (inner_right c.in-Fork.y.value c.in-Fork-open.u.value c.in-Fork-open.v.value c.args.z.value c.in-Fork-open.middle c.args.block yis (inner_right c.args.l.value c.in-Fork.x.value c.in-Fork.y.value c.args.z.value c.in-Fork.left c.args.block is c.requires.parts outer.balanced.parts) inner.balanced.parts) d)

pub fork-requires-4-clause-parts : goal.fork-requires-4-clause-parts
fork-requires-4-clause-parts g c =
    let outer = c.in-Fork.ensures in
    let is : c.args.l.value.items ≡ whole c.in-Fork.x.value c.in-Fork.left c.in-Fork.y.value = cc (ap (λ (d : Grown). d.items) outer.same_view) in
    let lh : c.args.l.value.height ≡ c.in-Fork.field-2.height = cc (ap (λ (d : Grown). d.height) outer.same_view) in
    let th : c.in-Fork.field-2.height ≡ max c.in-Fork.x.value.height c.in-Fork.y.value.height + 1 = ap (λ (t : Trunk). t.height) outer.balanced.trunk in
    let dx : c.deref.result.now.height ≡ c.in-Fork.x.value.height = ap (λ (d : Grown). d.height) c.deref.ensures in
    let dy : c.deref-2.result.now.height ≡ c.in-Fork.y.value.height = ap (λ (d : Grown). d.height) c.deref-2.ensures in
    let near = outer.balanced.balanced in
    let inner = c.in-Fork-open.ensures in
    let yis : c.in-Fork.y.value.items ≡ whole c.in-Fork-open.u.value c.in-Fork-open.middle c.in-Fork-open.v.value = cc (ap (λ (d : Grown). d.items) inner.same_view) in
    let yh : c.in-Fork.y.value.height ≡ c.in-Fork-open.field-2.height = cc (ap (λ (d : Grown). d.height) inner.same_view) in
    let uh : c.in-Fork-open.field-2.height ≡ max c.in-Fork-open.u.value.height c.in-Fork-open.v.value.height + 1 = ap (λ (t : Trunk). t.height) inner.balanced.trunk in
    let near2 = inner.balanced.balanced in
    let d : DifferByAtMost 1 c.in-Fork.x.value.height c.in-Fork-open.u.value.height = (omega arith, omega arith) in
    let e : DifferByAtMost 1 c.in-Fork-open.v.value.height c.args.z.value.height = (omega arith, omega arith) in
    let p : AreInOrder c.in-Fork.x.value c.in-Fork.left c.in-Fork-open.u.value = inner_left c.in-Fork.x.value c.in-Fork.y.value c.in-Fork-open.u.value c.in-Fork-open.v.value c.in-Fork.left c.in-Fork-open.middle yis outer.balanced.parts inner.balanced.parts in
    let q : AreInOrder c.in-Fork-open.v.value c.args.block c.args.z.value = inner_right c.in-Fork.y.value c.in-Fork-open.u.value c.in-Fork-open.v.value c.args.z.value c.in-Fork-open.middle c.args.block yis (inner_right c.args.l.value c.in-Fork.x.value c.in-Fork.y.value c.args.z.value c.in-Fork.left c.args.block is c.requires.parts outer.balanced.parts) inner.balanced.parts in
    let one : c.close-2.result ≡ seen (Fork c.in-Fork.x c.in-Fork.left (trunk_of c.in-Fork.x.value c.in-Fork.left c.in-Fork-open.u.value) c.in-Fork-open.u) = rw c.fork-2.ensures.node at c.close-2.ensures.same_view in
    let onei = ap (λ (d : Grown). d.items) one in
    let oneh = ap (λ (d : Grown). d.height) one in
    let oneb = ap (λ (d : Grown). d.blocks) one in
    let onee = ap (λ (d : Grown). d.extra) one in
    let two : c.close-3.result ≡ seen (Fork c.in-Fork-open.v c.args.block (trunk_of c.in-Fork-open.v.value c.args.block c.args.z.value) c.args.z) = rw c.fork-3.ensures.node at c.close-3.ensures.same_view in
    let twoi = ap (λ (d : Grown). d.items) two in
    let twoh = ap (λ (d : Grown). d.height) two in
    let twob = ap (λ (d : Grown). d.blocks) two in
    let twoe = ap (λ (d : Grown). d.extra) two in
    outer_middle_left c.args.l.value c.in-Fork.x.value c.in-Fork.y.value c.in-Fork-open.u.value c.in-Fork-open.v.value c.args.z.value c.close-2.result c.close-3.result c.in-Fork.left c.in-Fork-open.middle c.args.block is yis onei twoi c.requires.parts inner.balanced.parts (thick_fork c.in-Fork.x.value c.in-Fork-open.u.value c.in-Fork.left c.close-2.result p d one) (thick_fork c.in-Fork-open.v.value c.args.z.value c.args.block c.close-3.result q e two)

pub returns-clause-balanced : goal.returns-clause-balanced
returns-clause-balanced g c =
    let outer = c.in-Fork.ensures in
    let is : c.args.l.value.items ≡ whole c.in-Fork.x.value c.in-Fork.left c.in-Fork.y.value = cc (ap (λ (d : Grown). d.items) outer.same_view) in
    let lh : c.args.l.value.height ≡ c.in-Fork.field-2.height = cc (ap (λ (d : Grown). d.height) outer.same_view) in
    let th : c.in-Fork.field-2.height ≡ max c.in-Fork.x.value.height c.in-Fork.y.value.height + 1 = ap (λ (t : Trunk). t.height) outer.balanced.trunk in
    let dx : c.deref.result.now.height ≡ c.in-Fork.x.value.height = ap (λ (d : Grown). d.height) c.deref.ensures in
    let dy : c.deref-2.result.now.height ≡ c.in-Fork.y.value.height = ap (λ (d : Grown). d.height) c.deref-2.ensures in
    let near = outer.balanced.balanced in
    let inner = c.in-Fork-open.ensures in
    let yis : c.in-Fork.y.value.items ≡ whole c.in-Fork-open.u.value c.in-Fork-open.middle c.in-Fork-open.v.value = cc (ap (λ (d : Grown). d.items) inner.same_view) in
    let yh : c.in-Fork.y.value.height ≡ c.in-Fork-open.field-2.height = cc (ap (λ (d : Grown). d.height) inner.same_view) in
    let uh : c.in-Fork-open.field-2.height ≡ max c.in-Fork-open.u.value.height c.in-Fork-open.v.value.height + 1 = ap (λ (t : Trunk). t.height) inner.balanced.trunk in
    let near2 = inner.balanced.balanced in
    let d : DifferByAtMost 1 c.in-Fork.x.value.height c.in-Fork-open.u.value.height = (omega arith, omega arith) in
    let e : DifferByAtMost 1 c.in-Fork-open.v.value.height c.args.z.value.height = (omega arith, omega arith) in
    let p : AreInOrder c.in-Fork.x.value c.in-Fork.left c.in-Fork-open.u.value = inner_left c.in-Fork.x.value c.in-Fork.y.value c.in-Fork-open.u.value c.in-Fork-open.v.value c.in-Fork.left c.in-Fork-open.middle yis outer.balanced.parts inner.balanced.parts in
    let q : AreInOrder c.in-Fork-open.v.value c.args.block c.args.z.value = inner_right c.in-Fork.y.value c.in-Fork-open.u.value c.in-Fork-open.v.value c.args.z.value c.in-Fork-open.middle c.args.block yis (inner_right c.args.l.value c.in-Fork.x.value c.in-Fork.y.value c.args.z.value c.in-Fork.left c.args.block is c.requires.parts outer.balanced.parts) inner.balanced.parts in
    let one : c.close-2.result ≡ seen (Fork c.in-Fork.x c.in-Fork.left (trunk_of c.in-Fork.x.value c.in-Fork.left c.in-Fork-open.u.value) c.in-Fork-open.u) = rw c.fork-2.ensures.node at c.close-2.ensures.same_view in
    let onei = ap (λ (d : Grown). d.items) one in
    let oneh = ap (λ (d : Grown). d.height) one in
    let oneb = ap (λ (d : Grown). d.blocks) one in
    let onee = ap (λ (d : Grown). d.extra) one in
    let two : c.close-3.result ≡ seen (Fork c.in-Fork-open.v c.args.block (trunk_of c.in-Fork-open.v.value c.args.block c.args.z.value) c.args.z) = rw c.fork-3.ensures.node at c.close-3.ensures.same_view in
    let twoi = ap (λ (d : Grown). d.items) two in
    let twoh = ap (λ (d : Grown). d.height) two in
    let twob = ap (λ (d : Grown). d.blocks) two in
    let twoe = ap (λ (d : Grown). d.extra) two in
    let w : AreInOrder c.close-2.result c.in-Fork-open.middle c.close-3.result = outer_middle_left c.args.l.value c.in-Fork.x.value c.in-Fork.y.value c.in-Fork-open.u.value c.in-Fork-open.v.value c.args.z.value c.close-2.result c.close-3.result c.in-Fork.left c.in-Fork-open.middle c.args.block is yis onei twoi c.requires.parts inner.balanced.parts (thick_fork c.in-Fork.x.value c.in-Fork-open.u.value c.in-Fork.left c.close-2.result p d one) (thick_fork c.in-Fork-open.v.value c.args.z.value c.args.block c.close-3.result q e two) in
    let f : DifferByAtMost 1 c.close-2.result.height c.close-3.result.height = (omega arith, omega arith) in
    rw c.fork-4.ensures.node (fork_of c.close-2.result c.close-3.result c.in-Fork-open.middle w f)

pub returns-clause-joins : goal.returns-clause-joins
returns-clause-joins g c =
    let outer = c.in-Fork.ensures in
    let is : c.args.l.value.items ≡ whole c.in-Fork.x.value c.in-Fork.left c.in-Fork.y.value = cc (ap (λ (d : Grown). d.items) outer.same_view) in
    let inner = c.in-Fork-open.ensures in
    let yis : c.in-Fork.y.value.items ≡ whole c.in-Fork-open.u.value c.in-Fork-open.middle c.in-Fork-open.v.value = cc (ap (λ (d : Grown). d.items) inner.same_view) in
    let lb : c.args.l.value.blocks ≡ c.in-Fork.x.value.blocks + 1 + c.in-Fork.y.value.blocks = cc (ap (λ (d : Grown). d.blocks) outer.same_view) in
    let yb : c.in-Fork.y.value.blocks ≡ c.in-Fork-open.u.value.blocks + 1 + c.in-Fork-open.v.value.blocks = cc (ap (λ (d : Grown). d.blocks) inner.same_view) in
    let le : c.args.l.value.extra ≡ c.in-Fork.x.value.extra + (length c.in-Fork.left.items - 16) + c.in-Fork.y.value.extra = cc (ap (λ (d : Grown). d.extra) outer.same_view) in
    let ye : c.in-Fork.y.value.extra ≡ c.in-Fork-open.u.value.extra + (length c.in-Fork-open.middle.items - 16) + c.in-Fork-open.v.value.extra = cc (ap (λ (d : Grown). d.extra) inner.same_view) in
    let one : c.close-2.result ≡ seen (Fork c.in-Fork.x c.in-Fork.left (trunk_of c.in-Fork.x.value c.in-Fork.left c.in-Fork-open.u.value) c.in-Fork-open.u) = rw c.fork-2.ensures.node at c.close-2.ensures.same_view in
    let onei = ap (λ (d : Grown). d.items) one in
    let oneh = ap (λ (d : Grown). d.height) one in
    let oneb = ap (λ (d : Grown). d.blocks) one in
    let onee = ap (λ (d : Grown). d.extra) one in
    let two : c.close-3.result ≡ seen (Fork c.in-Fork-open.v c.args.block (trunk_of c.in-Fork-open.v.value c.args.block c.args.z.value) c.args.z) = rw c.fork-3.ensures.node at c.close-3.ensures.same_view in
    let twoi = ap (λ (d : Grown). d.items) two in
    let twoh = ap (λ (d : Grown). d.height) two in
    let twob = ap (λ (d : Grown). d.blocks) two in
    let twoe = ap (λ (d : Grown). d.extra) two in
    rw c.fork-4.ensures.node (record {
      items = regrouped_left c.args.l.value c.in-Fork.x.value c.in-Fork.y.value c.in-Fork-open.u.value c.in-Fork-open.v.value c.args.z.value c.close-2.result c.close-3.result c.in-Fork.left c.in-Fork-open.middle c.args.block is yis onei twoi;
      blocks = omega arith;
      extra = omega arith;
    })
