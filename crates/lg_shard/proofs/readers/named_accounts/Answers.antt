use Rattle.std.proofs.Common.{sym, ◌∙◌, arith}
use Rattle.lg_containers.specs.NameTable.{pairs_of}
use Rattle.lg_shard.specs.Named.{is_named}
use Rattle.lg_shard.proofs.NamedLemmas.{names-pushed, names-passed, names-all}
use Rattle.lg_shard.proofs.readers.named_accounts.Goals as goal
use Rattle.lg_shard.proofs.readers.named_accounts.Goals.{then-is_named+in_ok-copy+in_ok-push, else-is_named}

pub loop-place-preserved : goal.loop-place-preserved
loop-place-preserved c =
    let pairs = pairs_of c.args.accounts.now in let place = c.loop-place.place in let passes = sym c.is_named.ensures in
    elim c.if-is_named.branch [
      | then-is_named+in_ok-copy+in_ok-push w ↦ names-pushed is_named pairs place _ c.pair_at.ensures c.loop-place.names _ _ c.loop-place.invariant (passes ∙ w.if-is_named.true) w.in_ok-copy.ensures (w.names-is ∙ w.in_ok-push.ensures.ok)
      | else-is_named w ↦ w.names-is ∙ names-passed is_named pairs place _ c.pair_at.ensures c.loop-place.names c.loop-place.invariant (passes ∙ w.if-is_named.false)
    ]

pub returns : goal.returns
returns c =
    let past = c.loop-place-test.false in let count = c.len-place-end.ensures in
    names-all is_named c.args.accounts.now c.loop-place.place (omega (arith, past, count)) c.loop-place.names c.loop-place.invariant
