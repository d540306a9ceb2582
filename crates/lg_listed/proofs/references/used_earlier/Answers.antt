use Rattle.std.proofs.Common.{refl}
use Rattle.lg_types.specs.Known.{used}
use Rattle.lg_listed.proofs.AppendLemmas.{used-append}
use Rattle.lg_listed.proofs.ScanLemmas.{scan_next, scan_found, scan_done}
use Rattle.lg_listed.proofs.references.used_earlier.Goals as goal

pub loop-entry-preserved : goal.loop-entry-preserved
loop-entry-preserved c =
    scan_next (λ es. used es c.args.reference.now) (used-append c.args.reference.now) c.args.entries.now c.loop-entry.entry-index c.entry-item.result c.used_by.result
    c.loop-entry-test.true c.entry-item.is c.used_by.ensures c.in-None.is c.loop-entry.invariant

pub returns-in-Some : goal.returns-in-Some
returns-in-Some c =
    scan_found (λ es. used es c.args.reference.now) (used-append c.args.reference.now) c.args.entries.now c.loop-entry.entry-index c.entry-item.result c.used_by.result c.in-Some.id
    c.loop-entry-test.true c.entry-item.is c.used_by.ensures c.in-Some.is c.loop-entry.invariant

pub returns : goal.returns
returns c = scan_done (λ es. used es c.args.reference.now) (used-append c.args.reference.now) c.args.entries.now c.loop-entry.entry-index refl c.loop-entry-test.false c.loop-entry.invariant
