-- The calls that may add events.
use Rattle.lg_types.specs.declared.calls.Call.{Call}
use Rattle.lg_types.specs.declared.calls.Call.TheVariants.{Unreadable, MakeLedger, Write, Bulk, Import, Ledgers, Read}

-- one that makes a ledger, a write, and a list of writes
abbrev pub IsChange : Call → Type 0
IsChange (Unreadable refusal) = ⊥
IsChange (MakeLedger ledger bucket metadata) = Unit {0}
IsChange (Write ledger key write) = Unit {0}
IsChange (Bulk ledger elements atomic go_on) = Unit {0}
IsChange (Import ledger batch) = ⊥
IsChange (Ledgers query) = ⊥
IsChange (Read ledger read) = ⊥
