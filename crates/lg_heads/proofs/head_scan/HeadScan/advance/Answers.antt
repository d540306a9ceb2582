use Rattle.std.proofs.Common.{arith}
use Rattle.std.proofs.lemmas.Bool.{false≢true}
use Rattle.lg_heads.proofs.ScanLemmas.{counted_more, no_head_more}
use Rattle.lg_heads.proofs.head_scan.HeadScan.advance.Goals as goal

pub scanning-preserved : goal.scanning-preserved
scanning-preserved c =
    let kept = c.scanning.invariant in
    let inside = c.scanning-test.true in
    record {
      counted = counted_more c.scanning.self c.step.new.self c.args.bytes.now kept.counted inside c.step.ensures.at c.step.ensures.lines c.if-is_full.ensures.room.0 c.if-is_full.ensures.room.1;
      none = no_head_more c.scanning.self c.step.new.self c.args.bytes.now kept.counted kept.none inside c.step.ensures.at (λ ends. false≢true (c.if-ends_head.ensures.1 ends));
      later = omega (arith, kept.later, c.step.ensures.at);
    }
