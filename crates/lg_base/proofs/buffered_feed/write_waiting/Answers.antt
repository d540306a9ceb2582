use Rattle.std.proofs.Common.{ℕ, List, subst}
use Rattle.std.proofs.lemmas.List.{drop_all}
use Rattle.lg_base.specs.Buffering.{Ahead}
use Rattle.lg_base.proofs.buffered_feed.write_waiting.Goals as goal

pub returns-clause-passed : goal.returns-clause-passed
returns-clause-passed g c =
    let passed = rw c.deref.ensures.value at c.in_ok-write_from.ensures.passed in
    let whole = c.in_ok-write_from.ensures.whole in
    record {
      same = λ m ahead. subst (λ (l : List ℕ). Ahead (g.K.Sink.written c.write_from.new.sink) l m)
          (rw c.deref.ensures.value at (drop_all c.write_from.new.start _ whole)) (passed.same m ahead);
      cause = record { later = passed.cause.later; failed = tt };
    }
