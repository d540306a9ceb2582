use Rattle.std.proofs.Common.{[], sym, ◌∙◌}
use Rattle.lg_moves.proofs.LineLemmas.{mark_hits}
use Rattle.lg_moves.proofs.line.Line.sum.Goals as goal

pub returns-then-is_near-clause-value : goal.returns-then-is_near-clause-value
returns-then-is_near-clause-value g c =
    rw (← c.self.view_is, c.sums_in.ensures)
    (mark_hits c.args.bound.now c.self.inside.end c.self.inside.entries.items [] c.self.inside.end.key c.self.invariant.marked.whole (sym c.is_near.ensures ∙ c.if-is_near.true))
