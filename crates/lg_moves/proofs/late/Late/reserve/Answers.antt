use Rattle.std.proofs.Common.{◌≡◌, ◌+◌, ◌-◌, ◌*◌, ◌≤◌, max, length, arith, ◌∙◌}
use Rattle.std.specs.List.{sum_by}
use Rattle.std.proofs.lemmas.Result.{on_ok_weaker}
use Rattle.lg_types.specs.declared.moves.Move.{Move}
use Rattle.lg_moves.proofs.SumLemmas.{sum_by_ones}
use Rattle.lg_moves.proofs.LateLemmas.{room_spared, late_spared}
use Rattle.lg_moves.proofs.late.Late.reserve.Goals as goal

pub invariant_of-self-2 : goal.invariant_of-self-2
invariant_of-self-2 c =
    let r = c.in_ok-reserve.ensures in
    late_spared c.self.inside.first c.reserve.new.self c.self.inside.tree c.self.inside.pool c.fill.new.pool c.self.inside.blocks c.nodes_for-nodes.result c.args.more c.min-near.result (16 - c.len-free.result)
    c.self.invariant r.items r.grows r.most r.ok (omega arith) c.min-near.ensures c.nodes_for-nodes.ensures.none c.fill.ensures.most

pub returns-clause-ok : goal.returns-clause-ok
returns-clause-ok c =
    let r = c.in_ok-reserve.ensures in
    let n : sum_by (λ (_ : Move). 1) c.self.inside.tree.items ≡ length c.self.inside.tree.items = sum_by_ones c.self.inside.tree.items in
    let k : c.total.result.count ≡ length c.self.inside.tree.items = c.total.ensures.count ∙ n in
    let e : c.args.more - c.min-near.result ≤ max c.nodes_for-nodes.result (16 * (c.self.inside.tree.blocks + c.nodes_for-nodes.result) - length c.self.inside.tree.items) =
    rw (← k, ← c.self.invariant.counted) c.nodes_for-nodes.ensures.enough in
    on_ok_weaker c.fill.result (λ p. room_spared c.self.inside.first c.reserve.new.self c.self.inside.tree c.nodes_for-nodes.result c.fill.new.pool c.args.more c.min-near.result r.ok e p) c.fill.ensures.ok
