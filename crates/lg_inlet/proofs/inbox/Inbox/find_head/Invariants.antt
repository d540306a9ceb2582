use Rattle.std.proofs.Common.{◌+◌, ◌-◌, ◌*◌, ◌≤◌, length}
use Rattle.lg_heads.specs.Scanning.{HasCounted, HasNoHead}
use Rattle.lg_heads.specs.Verdicts.{WantsMore}
use Rattle.lg_inlet.specs.Taking.{TakesWanted}
use Rattle.lg_inlet.specs.Unread.{unread, allowance_of}
use Rattle.lg_inlet.proofs.inbox.Inbox.find_head.Given as goal

abbrev pub invariant-finding : goal.invariant-finding
invariant-finding g l = record {
  counted : HasCounted l.scan (unread l.self);
  none : HasNoHead l.scan (unread l.self);
  taken : TakesWanted WantsMore g.S.Source l.fn.source l.source l.fn.self l.self;
  later : g.S.Source.faults l.fn.source ≤ g.S.Source.faults l.source;
}

-- a read makes the allowance smaller, and a scan the bytes behind its place
abbrev pub decreases-finding : goal.decreases-finding
decreases-finding g l = 2 * allowance_of l.self + (length (unread l.self) - l.scan.at)
