use Rattle.std.proofs.Common.{◌≤◌}
use Rattle.lg_inlet.specs.Unread.{allowance_of}
use Rattle.lg_inlet.proofs.PassingLemmas.{PassedSoFar}
use Rattle.lg_inlet.proofs.inbox.Inbox.pass_body.Given as goal

abbrev pub invariant-passing : goal.invariant-passing
invariant-passing g l = record {
  passed : PassedSoFar g.S.Source g.F.Feed l.fn.source l.source l.fn.to l.to l.fn.self l.self l.fn.size l.wanted;
  later : g.S.Source.faults l.fn.source ≤ g.S.Source.faults l.source;
}

abbrev pub decreases-passing : goal.decreases-passing
decreases-passing g l = allowance_of l.self
