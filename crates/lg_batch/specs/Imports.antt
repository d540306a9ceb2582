-- The call of a line's request, where the lines of imports aren't looked at yet.
use Rattle.std.specs.Prelude.{◌≡◌, ℕ, MatchBool, List, Option, Some, None}
use Rattle.lg_json.specs.Tree.{Tree}
use Rattle.lg_json.specs.Tree.Tree.{text}
use Rattle.lg_types.specs.declared.calls.Batch.{Batch}
use Rattle.lg_types.specs.declared.calls.Call.{Call}
use Rattle.lg_types.specs.declared.calls.Call.TheVariants.{Unreadable, MakeLedger, Write, Bulk, Import, Ledgers, Read}
use Rattle.lg_types.specs.declared.refusals.Refusal.TheVariants.{NotBuilt}
use Rattle.lg_readings.specs.Requests.{Body, NoBody, ValueBody, LinesBody, IsRequest}
use Rattle.lg_readings.specs.Script.{is_import}

-- the body of an import: a text holds lines, which may come to any batch
abbrev pub IsImportBody : Tree → Body → Type 0
IsImportBody (text t) body = (batch : Batch) × (body ≡ LinesBody batch)
IsImportBody value body = body ≡ ValueBody value

-- the body of a line's request, as in `lg_readings`, but that the lines of an import aren't read
abbrev pub IsBodyOf : List ℕ → List ℕ → Option Tree → Body → Type 0
IsBodyOf method target None body = body ≡ NoBody
IsBodyOf method target (Some value) body = MatchBool (is_import method target) (IsImportBody value body) (body ≡ ValueBody value)

-- the call, where imports are refused as not built
abbrev pub as_unbuilt : Call → Call
as_unbuilt (Unreadable refusal) = Unreadable refusal
as_unbuilt (MakeLedger ledger bucket metadata) = MakeLedger ledger bucket metadata
as_unbuilt (Write ledger key write) = Write ledger key write
as_unbuilt (Bulk ledger elements atomic go_on) = Bulk ledger elements atomic go_on
as_unbuilt (Import ledger batch) = Unreadable NotBuilt
as_unbuilt (Ledgers query) = Ledgers query
as_unbuilt (Read ledger read) = Read ledger read

-- the call of a line's request: that of the request with its body; an import that isn't refused before its lines are looked at is refused as not built
abbrev pub IsCallOf : List ℕ → List ℕ → Option (List ℕ) → Option Tree → Call → Type 0
IsCallOf method target key value c =
    (body : Body) × (call : Call) × IsBodyOf method target value body × IsRequest method target key body call × (c ≡ as_unbuilt call)
