-- A date's text reads back as the moment.
use Rattle.std.specs.Prelude.{ℤ}
use Rattle.lg_time.specs.Moment.{IsInMoments}
use Rattle.lg_time.proofs.CanonicalLemmas.{moment_text_is}
use Rattle.lg_time.proofs.Facts.{moment_text-bytes}
use Rattle.lg_entry_lines.proofs.Moments.{date_is}
use Rattle.lg_tokens.specs.Laws.{DateReadsBack}

pub dates_read_back : (moment : ℤ) → IsInMoments moment → DateReadsBack moment
dates_read_back moment h = record { parts = date_is moment h; is = moment_text_is moment h; bytes = moment_text-bytes moment h }
