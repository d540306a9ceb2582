-- What a ledger's log says of a write before the write's entry has an id and a date.
use Rattle.std.specs.Prelude.{ℕ, List, Option, Some, None}
use Rattle.std.specs.Option.{option_and_then}
use Rattle.lg_keys.specs.declared.kept.Kept.{Kept}
use Rattle.lg_types.specs.declared.calls.Call.{Call}
use Rattle.lg_types.specs.declared.calls.Call.TheVariants as call
use Rattle.lg_types.specs.declared.calls.Write.{Write}
use Rattle.lg_types.specs.declared.records.Entry.{Entry}
use Rattle.lg_types.specs.declared.records.Event.{Event}
use Rattle.lg_types.specs.declared.records.KeyMark.{KeyMark}
use Rattle.lg_types.specs.declared.records.Transaction.{Transaction}
use Rattle.lg_types.specs.Chain.{input_hash}
use Rattle.lg_types.specs.Known.{kept, used}
use Rattle.lg_types.specs.Log.{log}
use Rattle.lg_weigh.specs.declared.weighed.Weighed.{Weighed}
use Rattle.lg_weigh.specs.Reach.{write_reference}
use Rattle.lg_weigh.specs.Trials.{write_trial}

-- the hash of what is asked, where it comes with a key
abbrev pub asked_hash : Option (List ℕ) → Write → Option (List ℕ)
asked_hash None write = None
asked_hash (Some key) write = Some (input_hash write)

-- what is kept of an entry that has a key: its id, and the hash of what was asked
abbrev pub marked_as : ℕ → Option KeyMark → Option Kept
marked_as id None = None
marked_as id (Some mark) = Some (record { entry = id; input_hash = mark.input_hash })

abbrev pub kept_of_entry : Entry → Option Kept
kept_of_entry e = marked_as e.id e.mark

-- what a log keeps of a key
abbrev pub kept_in : List Entry → List ℕ → Option Kept
kept_in g key = option_and_then kept_of_entry (kept g key)

abbrev pub nothing : Weighed
nothing = record { input_hash = None; kept = None; used = None; trial = None }

-- what a log says of a write, where `known` is the transaction of the id that a revert names
abbrev pub write_weighed : List Entry → Option (List ℕ) → Write → Option Transaction → Weighed
write_weighed g key write known = record {
  input_hash = asked_hash key write;
  kept = option_and_then (kept_in g) key;
  used = option_and_then (used g) (write_reference write);
  trial = write_trial g write known;
}

-- what the events say of a call; nothing of a call that is no write of its own
abbrev pub weighed : List Event → Call → Option Transaction → Weighed
weighed events (call.Unreadable refusal) known = nothing
weighed events (call.MakeLedger ledger bucket metadata) known = nothing
weighed events (call.Write ledger key write) known = write_weighed (log events ledger) key write known
weighed events (call.Bulk ledger elements atomic go_on) known = nothing
weighed events (call.Import ledger batch) known = nothing
weighed events (call.Ledgers query) known = nothing
weighed events (call.Read ledger read) known = nothing
