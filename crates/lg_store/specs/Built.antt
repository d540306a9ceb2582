-- The calls that a ledger answers, and what the others are answered.
use Rattle.lg_types.specs.declared.calls.Call.{Call}
use Rattle.lg_types.specs.declared.calls.Call.TheVariants.{Unreadable, MakeLedger, Write, Bulk, Import, Ledgers, Read}
use Rattle.lg_query.specs.Asked.{as_asked}
use Rattle.lg_types.specs.declared.refusals.Refusal.TheVariants.{NotBuilt}

-- the call as it is answered: imports, the list of ledgers and some reads are not built yet
abbrev pub as_built : Call → Call
as_built (Unreadable refusal) = Unreadable refusal
as_built (MakeLedger ledger bucket metadata) = MakeLedger ledger bucket metadata
as_built (Write ledger key write) = Write ledger key write
as_built (Bulk ledger elements atomic go_on) = Bulk ledger elements atomic go_on
as_built (Import ledger batch) = Unreadable NotBuilt
as_built (Ledgers query) = Unreadable NotBuilt
as_built (Read ledger read) = as_asked ledger read
