-- Entries that the bytes of an import come to are a faultless log.
use Rattle.std.proofs.Common.{sym}
use Rattle.lg_views.proofs.Imported.{checks_faultless}
use Rattle.lg_readings.specs.ReadingLaws.{CheckedIsFaultless}

pub checked_is_faultless : CheckedIsFaultless
checked_is_faultless recompute bytes g h = checks_faultless recompute h.lines g (sym h.checked)
