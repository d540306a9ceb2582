use Rattle.std.proofs.Common.{◌≡◌, [], ◌∙◌, ap, arith}
use Rattle.std.specs.List.{sum_by}
use Rattle.lg_runs.specs.Runs.{Kept}
use Rattle.lg_types.specs.declared.moves.Move.{Move}
use Rattle.lg_moves.proofs.SumLemmas.{bounded_below}
use Rattle.lg_moves.proofs.RankLemmas.{sum_by_inserts}
use Rattle.lg_moves.proofs.tree.Tree.of.Goals as goal

pub insert-requires-clause-bounded : goal.insert-requires-clause-bounded
insert-requires-clause-bounded g c =
    let e : c.spare.inside.block.items ≡ [] = ap (λ (k : Kept Move). k.items) (c.spare.view_is ∙ c.requires.fresh) in
    bounded_below c.requires.bounded (λ part. omega (arith, ap (sum_by part) e))

pub into_node-requires-clause-bounded : goal.into_node-requires-clause-bounded
into_node-requires-clause-bounded g c =
    let e : c.spare.inside.block.items ≡ [] = ap (λ (k : Kept Move). k.items) (c.spare.view_is ∙ c.requires.fresh) in
    bounded_below c.requires.bounded (λ part. omega (arith, ap (sum_by part) e, sum_by_inserts part c.args.item.now c.spare.inside.block.items c.insert.new.self.items c.insert.ensures.inserted))
