use Rattle.std.proofs.Common.{arith}
use Rattle.lg_base.proofs.Buffered.{ahead_written}
use Rattle.lg_base.proofs.Slices.{left_splits}
use Rattle.lg_base.proofs.buffered_feed.write_from.Goals as goal

pub writing-preserved : goal.writing-preserved
writing-preserved g c = record {
  within = omega (arith, c.in-Ok.ensures.bound);
  same = λ m ahead. ahead_written _ _ _ _ _ (left_splits c.args.bytes.now c.writing.start c.in-Ok.count) c.in-Ok.ensures.bytes m (c.writing.invariant.same m ahead);
  later = let a = c.in-Ok.ensures.cause.later in let b = c.writing.invariant.later in omega arith;
}
