use Rattle.std.proofs.Common.{length, ◌-◌, ◌≤◌, drop}
use Rattle.lg_base.specs.Growth.{Completes}
use Rattle.lg_base.specs.Told.{Told}
use Rattle.lg_base.specs.declared.feed.Stop.{Stop}
use Rattle.lg_base.proofs.sink_feed.write_whole.Given as goal

abbrev pub invariant-writing : goal.invariant-writing
invariant-writing g l = record {
  within : l.start ≤ length l.bytes;
  rest : Completes Stop (λ k m. Told (g.K.Sink.written k) m) g.K.Sink.faults (λ _. 0) l.fn.sink l.sink l.bytes (drop l.start l.bytes);
}

abbrev pub decreases-writing : goal.decreases-writing
decreases-writing g l = length l.bytes - l.start
