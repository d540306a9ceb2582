use Rattle.lg_codec.proofs.Readings.{onward, halted}
use Rattle.lg_codec.proofs.entry_bodies.some_postings_in.Goals as goal

pub returns-in_err-postings : goal.returns-in_err-postings
returns-in_err-postings c = halted _ c.from_residual.ensures.1 c.in_err-postings.ensures

pub returns : goal.returns
returns c = onward c.in_ok-postings.ensures (c.one_or_more.ensures)
