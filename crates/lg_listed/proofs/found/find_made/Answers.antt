use Rattle.std.proofs.Common.{refl, ap}
use Rattle.std.specs.Option.{option_copied}
use Rattle.lg_decide.specs.Looking.{transaction_at}
use Rattle.lg_listed.proofs.AppendLemmas.{transaction-append}
use Rattle.lg_listed.proofs.ScanLemmas.{scan_next, scan_found, scan_done}
use Rattle.lg_listed.proofs.found.find_made.Goals as goal

pub loop-entry-preserved : goal.loop-entry-preserved
loop-entry-preserved c =
    scan_next (λ es. transaction_at es c.args.id) (transaction-append c.args.id) c.args.entries.now c.loop-entry.entry-index c.entry-item.result (option_copied c.made_as.result)
    c.loop-entry-test.true c.entry-item.is c.made_as.ensures (ap option_copied c.in-None.is) c.loop-entry.invariant

pub returns-in-Some : goal.returns-in-Some
returns-in-Some c =
    scan_found (λ es. transaction_at es c.args.id) (transaction-append c.args.id) c.args.entries.now c.loop-entry.entry-index c.entry-item.result (option_copied c.made_as.result) c.in-Some.made.now
    c.loop-entry-test.true c.entry-item.is c.made_as.ensures (ap option_copied c.in-Some.is) c.loop-entry.invariant

pub returns : goal.returns
returns c = scan_done (λ es. transaction_at es c.args.id) (transaction-append c.args.id) c.args.entries.now c.loop-entry.entry-index refl c.loop-entry-test.false c.loop-entry.invariant
