use Rattle.std.proofs.Common.{◌≡◌, length, ap, ◌∙◌}
use Rattle.lg_moves.specs.Bounds.{key_of}
use Rattle.lg_moves.proofs.BlockLemmas.{lower_half, upper_half, half_within}
use Rattle.lg_moves.proofs.block.Block.halve.Goals as goal

pub minus-self-inside-requires-clause-input : goal.minus-self-inside-requires-clause-input
minus-self-inside-requires-clause-input g c = (half_within c.self.inside.moves.items c.self.inside.sums c.move_upper-fresh-inside.result c.self.invariant.sums c.move_upper-fresh-inside.ensures.sums).input

pub minus-self-inside-requires-clause-output : goal.minus-self-inside-requires-clause-output
minus-self-inside-requires-clause-output g c = (half_within c.self.inside.moves.items c.self.inside.sums c.move_upper-fresh-inside.result c.self.invariant.sums c.move_upper-fresh-inside.ensures.sums).output

pub minus-self-inside-requires-clause-count : goal.minus-self-inside-requires-clause-count
minus-self-inside-requires-clause-count g c = (half_within c.self.inside.moves.items c.self.inside.sums c.move_upper-fresh-inside.result c.self.invariant.sums c.move_upper-fresh-inside.ensures.sums).count

pub invariant_of-self : goal.invariant_of-self
invariant_of-self g c =
    let full : length c.self.inside.moves.items ≡ 32 = rw (← c.self.view_is) at c.requires.full in
    rw c.cut.ensures.items
    (lower_half c.self.inside.moves.items c.self.inside.first c.self.inside.last c.self.inside.sums c.move_upper-fresh-inside.result c.of-self-inside.result c.minus-self-inside.result
    c.self.invariant full c.move_upper-fresh-inside.ensures.sums (λ d. c.of-self-inside.ensures ∙ ap key_of (c.read_at-2.ensures.value d)) c.minus-self-inside.ensures)

pub invariant_of-fresh : goal.invariant_of-fresh
invariant_of-fresh g c =
    let full : length c.self.inside.moves.items ≡ 32 = rw (← c.self.view_is) at c.requires.full in
    upper_half c.self.inside.moves.items c.move_upper-fresh-inside.new.into.items c.self.inside.first c.self.inside.last c.self.inside.sums c.move_upper-fresh-inside.result c.of-fresh-inside.result
    c.self.invariant full c.move_upper-fresh-inside.ensures.items c.move_upper-fresh-inside.ensures.sums (λ d. c.of-fresh-inside.ensures ∙ ap key_of (c.read_at.ensures.value d))
