use Rattle.std.proofs.Common.{refl}
use Rattle.lg_weigh.specs.Weighing.{kept_in}
use Rattle.lg_listed.proofs.AppendLemmas.{kept-append}
use Rattle.lg_listed.proofs.ScanLemmas.{scan_next, scan_found, scan_done}
use Rattle.lg_listed.proofs.keys.kept_earlier.Goals as goal

pub loop-entry-preserved : goal.loop-entry-preserved
loop-entry-preserved c =
    scan_next (λ es. kept_in es c.args.key.now) (kept-append c.args.key.now) c.args.entries.now c.loop-entry.entry-index c.entry-item.result c.kept_of.result
    c.loop-entry-test.true c.entry-item.is c.kept_of.ensures c.in-None.is c.loop-entry.invariant

pub returns-in-Some : goal.returns-in-Some
returns-in-Some c =
    scan_found (λ es. kept_in es c.args.key.now) (kept-append c.args.key.now) c.args.entries.now c.loop-entry.entry-index c.entry-item.result c.kept_of.result c.in-Some.kept
    c.loop-entry-test.true c.entry-item.is c.kept_of.ensures c.in-Some.is c.loop-entry.invariant

pub returns : goal.returns
returns c = scan_done (λ es. kept_in es c.args.key.now) (kept-append c.args.key.now) c.args.entries.now c.loop-entry.entry-index refl c.loop-entry-test.false c.loop-entry.invariant
