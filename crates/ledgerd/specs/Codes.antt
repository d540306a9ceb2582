-- The number with which the program ends, by the status: 0 all was done, 2 other words, 3 a read failed, 4 a write failed,
-- 5 memory was wanting, 6 too much input, 7 bad lines.
use Rattle.std.specs.Prelude.{ℕ}
use Rattle.lg_base.specs.declared.status.Status.{Status}
use Rattle.lg_base.specs.declared.status.Status.TheVariants.{Done, Words, ReadFault, WriteFault, Memory, InputLimit, BadLines}

abbrev pub status_code : Status → ℕ
status_code Done = 0
status_code Words = 2
status_code ReadFault = 3
status_code WriteFault = 4
status_code Memory = 5
status_code InputLimit = 6
status_code BadLines = 7
