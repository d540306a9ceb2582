-- How an element is tried.
use Rattle.std.specs.Prelude.{◌≡◌, ◌<◌, ◌+◌, ◌^◌, ℕ, true, if◌then◌else◌, List, length, Option, Some, None}
use Rattle.std.specs.Str.{bytes_eq}
use Rattle.lg_book.specs.Following.{IsGrown}
use Rattle.lg_keys.specs.declared.kept.Kept.{Kept}
use Rattle.lg_shard.specs.State.{StripeState}
use Rattle.lg_types.specs.declared.calls.Write.{Write}
use Rattle.lg_types.specs.declared.records.Entry.{Entry}
use Rattle.lg_types.specs.declared.records.Event.{Event}
use Rattle.lg_types.specs.declared.records.Transaction.{Transaction}
use Rattle.lg_types.specs.declared.refusals.Refusal.TheVariants.{KeyInput}
use Rattle.lg_types.specs.Chain.{input_hash}
use Rattle.lg_types.specs.Log.{log, is_there}
use Rattle.lg_views.specs.Import.{FollowsFrom}
use Rattle.lg_weigh.specs.Lent.{AreParts}
use Rattle.lg_listed.specs.declared.tried.Tried.{Tried}
use Rattle.lg_listed.specs.declared.tried.Tried.TheVariants as tried
use Rattle.lg_listed.specs.Amounts.{AreTotalsWithin}
use Rattle.lg_listed.specs.Elements.{every_stripe}

-- what is known where an element is tried: the ledger is there, each event may follow those before it, all shards are lent
-- and are the parts of the events, the earlier entries may follow the ledger's log, and all totals are within the limit
pub record Ground (lent : ℕ → Option StripeState) (events : List Event) (ledger : List ℕ) (earlier : List Entry) : Type 0 where
  pub there : is_there events ledger ≡ true
  pub grown : IsGrown events
  pub parts : AreParts every_stripe lent events
  pub follows : FollowsFrom (log events ledger) earlier
  pub within : AreTotalsWithin lent ledger earlier

-- the number of a log's entries, with one more a number of 64 bits
pub record IsNumber (h : List Entry) (entries : ℕ) : Type 0 where
  pub count : entries ≡ length h
  pub room : entries + 1 < 2 ^ 64

-- what a write comes to whose key is kept
abbrev pub tried_kept : List ℕ → Write → Kept → Tried
tried_kept key write kept = if bytes_eq kept.input_hash (input_hash write) then tried.Kept kept.entry else tried.Refused (KeyInput key kept.input_hash (input_hash write))

-- the id of a transaction that has the reference
abbrev pub has_reference : ℕ → List ℕ → Option (List ℕ) → Option ℕ
has_reference id reference None = None
has_reference id reference (Some own) = if bytes_eq own reference then Some id else None

abbrev pub id_if_named : Transaction → List ℕ → Option ℕ
id_if_named t reference = has_reference t.id reference t.reference
