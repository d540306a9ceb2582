-- What stands on standard error, by the status.
use Rattle.std.specs.Prelude.{ℕ, List, [], codes}
use Rattle.lg_base.specs.declared.status.Status.{Status}
use Rattle.lg_base.specs.declared.status.Status.TheVariants.{Done, Words, ReadFault, WriteFault, Memory, InputLimit, BadLines}

abbrev pub error_text : Status → List ℕ
error_text Done = []
error_text Words = codes "usage: ledgerd run | batch N | verify [recompute] | make SEED N | script SEED N | serve HOST:PORT N | usage\n"
error_text ReadFault = codes "ledgerd: read fault\n"
error_text WriteFault = codes "ledgerd: write fault\n"
error_text Memory = codes "ledgerd: out of memory\n"
error_text InputLimit = codes "ledgerd: input passes the limit\n"
error_text BadLines = []
