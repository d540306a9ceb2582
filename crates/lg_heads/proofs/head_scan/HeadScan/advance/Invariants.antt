use Rattle.std.proofs.Common.{length, ◌-◌, ◌≤◌}
use Rattle.lg_heads.specs.Scanning.{HasCounted, HasNoHead}
use Rattle.lg_heads.proofs.head_scan.HeadScan.advance.Given as goal

abbrev pub invariant-scanning : goal.invariant-scanning
invariant-scanning l = record {
  counted : HasCounted l.self l.bytes;
  none : HasNoHead l.self l.bytes;
  later : l.initial.self.at ≤ l.self.at;
}

abbrev pub decreases-scanning : goal.decreases-scanning
decreases-scanning l = length l.bytes - l.self.at
