use Rattle.std.proofs.Common.{sym, ◌∙◌, arith}
use Rattle.lg_containers.specs.NameTable.{pairs_of}
use Rattle.lg_shard.specs.Named.{has_items}
use Rattle.lg_shard.proofs.NamedLemmas.{any-reached, any-passed, none-left}
use Rattle.lg_shard.proofs.readers.has_moves.Goals as goal

pub returns-then-has_move : goal.returns-then-has_move
returns-then-has_move c =
    any-reached has_items (pairs_of c.args.assets.now) c.loop-place.place _ c.pair_at.ensures _ c.loop-place.invariant (sym c.has_move.ensures ∙ c.if-has_move.true)

pub loop-place-preserved : goal.loop-place-preserved
loop-place-preserved c =
    any-passed has_items (pairs_of c.args.assets.now) c.loop-place.place _ c.pair_at.ensures _ c.loop-place.invariant (sym c.has_move.ensures ∙ c.if-has_move.false)

pub returns : goal.returns
returns c =
    let past = c.loop-place-test.false in let count = c.len-place-end.ensures in
    none-left has_items c.args.assets.now c.loop-place.place (omega (arith, past, count)) _ c.loop-place.invariant
