use Rattle.lg_moves.proofs.BlockLemmas.{block_insert}
use Rattle.lg_moves.proofs.block.Block.insert.Goals as goal

pub invariant_of-self : goal.invariant_of-self
invariant_of-self g c =
    let w = block_insert c.self.inside.moves.items c.insert_at.new.self.items c.place_in-place.result c.args.item.now c.self.inside.first c.self.inside.last c.self.inside.sums
    c.self.invariant c.place_in-place.ensures.within c.insert_at.ensures.items in
    rw (c.key_if-self-inside.ensures, c.key_if-self-inside-2.ensures, c.with-self-inside.ensures, c.len.ensures.value) w
