use Rattle.std.proofs.Common.{ℕ, ◌≤◌, ◌-◌, length, drop, List}
use Rattle.lg_base.specs.Buffering.{Ahead}
use Rattle.lg_base.proofs.buffered_feed.write_from.Given as goal

abbrev pub invariant-writing : goal.invariant-writing
invariant-writing g l = record {
  within : l.start ≤ length l.bytes;
  same : (m : List ℕ) → Ahead (g.K.Sink.written l.fn.sink) (drop l.fn.start l.bytes) m → Ahead (g.K.Sink.written l.sink) (drop l.start l.bytes) m;
  later : g.K.Sink.faults l.fn.sink ≤ g.K.Sink.faults l.sink;
}

abbrev pub decreases-writing : goal.decreases-writing
decreases-writing g l = length l.bytes - l.start
