use Rattle.std.proofs.Common.{sym, ◌∙◌, arith}
use Rattle.lg_containers.specs.NameTable.{pairs_of}
use Rattle.lg_shard.specs.Named.{has_items}
use Rattle.lg_shard.proofs.NamedLemmas.{names-pushed, names-passed, names-all}
use Rattle.lg_shard.proofs.readers.assets_with_moves.Goals as goal
use Rattle.lg_shard.proofs.readers.assets_with_moves.Goals.{then-has_move+in_ok-copy+in_ok-push, else-has_move}

pub loop-place-preserved : goal.loop-place-preserved
loop-place-preserved c =
    let pairs = pairs_of c.args.assets.now in let place = c.loop-place.place in let passes = sym c.has_move.ensures in
    elim c.if-has_move.branch [
      | then-has_move+in_ok-copy+in_ok-push w ↦ names-pushed has_items pairs place _ c.pair_at.ensures c.loop-place.names _ _ c.loop-place.invariant (passes ∙ w.if-has_move.true) w.in_ok-copy.ensures (w.names-is ∙ w.in_ok-push.ensures.ok)
      | else-has_move w ↦ w.names-is ∙ names-passed has_items pairs place _ c.pair_at.ensures c.loop-place.names c.loop-place.invariant (passes ∙ w.if-has_move.false)
    ]

pub returns : goal.returns
returns c =
    let past = c.loop-place-test.false in let count = c.len-place-end.ensures in
    names-all has_items c.args.assets.now c.loop-place.place (omega (arith, past, count)) c.loop-place.names c.loop-place.invariant
