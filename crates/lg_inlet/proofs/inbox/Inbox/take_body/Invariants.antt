use Rattle.std.proofs.Common.{◌≤◌}
use Rattle.lg_inlet.specs.Bodies.{IsShort}
use Rattle.lg_inlet.specs.Taking.{TakesWanted}
use Rattle.lg_inlet.specs.Unread.{allowance_of}
use Rattle.lg_inlet.proofs.inbox.Inbox.take_body.Given as goal

abbrev pub invariant-taking : goal.invariant-taking
invariant-taking g l = record {
  taken : TakesWanted (IsShort l.needed) g.S.Source l.fn.source l.source l.fn.self l.self;
  later : g.S.Source.faults l.fn.source ≤ g.S.Source.faults l.source;
}

abbrev pub decreases-taking : goal.decreases-taking
decreases-taking g l = allowance_of l.self
