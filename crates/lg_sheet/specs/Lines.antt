-- Postings in the order of a trial.
use Rattle.std.specs.Prelude.{List}
use Rattle.lg_types.specs.declared.records.Posting.{Posting}
use Rattle.lg_types.specs.Trial.{reverting}
use Rattle.lg_sheet.specs.declared.lines.Line.{Line}
use Rattle.lg_sheet.specs.declared.lines.Order.{Order}
use Rattle.lg_sheet.specs.declared.lines.Order.TheVariants.{Given, Reverting}

abbrev pub posting_of : Line → Posting
posting_of line = record { source = line.source.now; destination = line.destination.now; asset = line.asset.now; amount = line.amount }

-- the postings as they stand, or those of a revert
abbrev pub ordered : Order → List Posting → List Posting
ordered Given postings = postings
ordered Reverting postings = reverting postings
