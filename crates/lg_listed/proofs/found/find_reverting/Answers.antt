use Rattle.std.proofs.Common.{refl}
use Rattle.lg_decide.specs.Looking.{reverted_by}
use Rattle.lg_listed.proofs.AppendLemmas.{reverted-append}
use Rattle.lg_listed.proofs.ScanLemmas.{scan_next, scan_found, scan_done}
use Rattle.lg_listed.proofs.found.find_reverting.Goals as goal

pub loop-entry-preserved : goal.loop-entry-preserved
loop-entry-preserved c =
    scan_next (λ es. reverted_by es c.args.id) (reverted-append c.args.id) c.args.entries.now c.loop-entry.entry-index c.entry-item.result c.reverting.result
    c.loop-entry-test.true c.entry-item.is c.reverting.ensures c.in-None.is c.loop-entry.invariant

pub returns-in-Some : goal.returns-in-Some
returns-in-Some c =
    scan_found (λ es. reverted_by es c.args.id) (reverted-append c.args.id) c.args.entries.now c.loop-entry.entry-index c.entry-item.result c.reverting.result c.in-Some.by
    c.loop-entry-test.true c.entry-item.is c.reverting.ensures c.in-Some.is c.loop-entry.invariant

pub returns : goal.returns
returns c = scan_done (λ es. reverted_by es c.args.id) (reverted-append c.args.id) c.args.entries.now c.loop-entry.entry-index refl c.loop-entry-test.false c.loop-entry.invariant
