-- Good calls: each part is as its type allows, and each moment that a call carries is in the range of moments.
use Rattle.std.specs.Prelude.{ℕ, ◌<◌, ℤ, List, length, Option, IfSome, IsUtf8}
use Rattle.std.specs.List.{AllByRecursion}
use Rattle.lg_containers.specs.CountedGrammar.{IsKey}
use Rattle.lg_time.specs.Moment.{IsInMoments}
use Rattle.lg_types.specs.declared.calls.Batch.{Batch}
use Rattle.lg_types.specs.declared.calls.Batch.TheVariants as batch
use Rattle.lg_types.specs.declared.calls.Call.{Call}
use Rattle.lg_types.specs.declared.calls.Call.TheVariants as call
use Rattle.lg_types.specs.declared.calls.Element.{Element}
use Rattle.lg_types.specs.declared.calls.ElementWrite.{ElementWrite}
use Rattle.lg_types.specs.declared.calls.ElementWrite.TheVariants as element
use Rattle.lg_types.specs.declared.calls.Write.{Write}
use Rattle.lg_types.specs.declared.calls.Write.TheVariants.{Create, Revert, SetMeta, DropMeta}
use Rattle.lg_types.specs.Records.{IsAccountMeta, IsEntry, IsId, IsMeta, IsPosting, IsReferenceOf, IsTarget}

-- a key, where there is one
abbrev pub IsKeyOf : Option (List ℕ) → Type 0
IsKeyOf key = IfSome key IsKey

-- a timestamp, where there is one
abbrev pub IsTimestampOf : Option ℤ → Type 0
IsTimestampOf timestamp = IfSome timestamp IsInMoments

abbrev pub IsGoodWrite : Write → Type 0
IsGoodWrite (Create postings reference timestamp metadata accounts force) = (0 < length postings) × AllByRecursion IsPosting postings × IsReferenceOf reference × IsTimestampOf timestamp × IsMeta metadata × IsAccountMeta accounts
IsGoodWrite (Revert id force at_effective_date) = IsId id
IsGoodWrite (SetMeta target metadata) = IsTarget target × IsMeta metadata
IsGoodWrite (DropMeta target name) = IsTarget target × IsUtf8 name

-- an element that can't be read does nothing
abbrev pub IsGoodElementWrite : ElementWrite → Type 0
IsGoodElementWrite (element.Good write) = IsGoodWrite write
IsGoodElementWrite (element.Bad refusal) = Unit {0}

pub record IsGoodElement (element : Element) : Type 0 where
  pub key : IsKeyOf element.key
  pub write : IsGoodElementWrite element.write

-- the entries of an import
abbrev pub IsGoodBatch : Batch → Type 0
IsGoodBatch (batch.Ready entries) = AllByRecursion IsEntry entries
IsGoodBatch (batch.Bad line cause) = Unit {0}

-- of a call that adds no entry nothing is asked; the moment at which a call is done is brought into the range
abbrev pub IsGoodCall : Call → Type 0
IsGoodCall (call.Unreadable refusal) = Unit {0}
IsGoodCall (call.MakeLedger ledger bucket metadata) = Unit {0}
IsGoodCall (call.Write ledger key write) = IsKeyOf key × IsGoodWrite write
IsGoodCall (call.Bulk ledger elements atomic go_on) = AllByRecursion IsGoodElement elements
IsGoodCall (call.Import ledger batch) = IsGoodBatch batch
IsGoodCall (call.Ledgers query) = Unit {0}
IsGoodCall (call.Read ledger read) = Unit {0}
