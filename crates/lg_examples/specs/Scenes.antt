-- Words for worked examples: calls of `default` in January 2024, and what is seen of their replies.
use Rattle.std.specs.Prelude.{ℕ, ◌+◌, ◌*◌, ℤ, pos, true, false, List, [], ◌∷◌, ◌++◌, Option, Some, None, codes}
use Rattle.lg_base.specs.declared.amounts.Volumes.{Volumes}
use Rattle.lg_containers.specs.NameTable as table
use Rattle.lg_types.specs.declared.calls.Call.{Call}
use Rattle.lg_types.specs.declared.calls.Call.TheVariants as call
use Rattle.lg_types.specs.declared.calls.Element.{Element}
use Rattle.lg_types.specs.declared.calls.ElementWrite.TheVariants.{Good}
use Rattle.lg_types.specs.declared.calls.Write.{Write}
use Rattle.lg_types.specs.declared.calls.Write.TheVariants.{Create}
use Rattle.lg_types.specs.declared.filters.Filter.{Filter}
use Rattle.lg_types.specs.declared.queries.Expand.{Expand}
use Rattle.lg_types.specs.declared.queries.Query.{Query}
use Rattle.lg_types.specs.declared.queries.Read.{Read}
use Rattle.lg_types.specs.declared.queries.Span.{Span}
use Rattle.lg_types.specs.declared.records.Event.{Event}
use Rattle.lg_types.specs.declared.records.Posting.{Posting}
use Rattle.lg_types.specs.Log.{first_events}
use Rattle.lg_views.specs.declared.replies.Content.{Content}
use Rattle.lg_views.specs.declared.replies.Content.TheVariants as content
use Rattle.lg_views.specs.declared.replies.Reply.{Reply}
use Rattle.lg_views.specs.declared.views.TransactionView.{TransactionView}
use Rattle.lg_views.specs.Outcome.{outcome}
use Rattle.lg_views.specs.Pairs.{AccountMap, AssetMap}

-- midnight UTC of a day of January 2024
abbrev pub day : ℕ → ℤ
day n = pos (1703980800000000 + n * 86400000000)

-- midnight UTC of 2023-12-31
abbrev pub eve : ℤ
eve = pos 1703980800000000

abbrev pub default : List ℕ
default = codes "default"

abbrev pub posting : List ℕ → List ℕ → ℕ → List ℕ → Posting
posting source destination amount asset = record { source = source; destination = destination; asset = asset; amount = amount }

-- a creation of the postings, with nothing else
abbrev pub creation : List Posting → Option (List ℕ) → Option ℤ → Write
creation postings reference timestamp = Create postings reference timestamp table.empty table.empty false

-- a call with the moment at which it comes
pub record Asked : Type 0 where
  pub call : Call
  pub now : ℤ

abbrev pub asked : ℕ → Write → Asked
asked n write = record { call = call.Write default None write; now = day n }

abbrev pub asked_with : List ℕ → ℕ → Write → Asked
asked_with key n write = record { call = call.Write default (Some key) write; now = day n }

abbrev pub reading : Read → Asked
reading read = record { call = call.Read default read; now = day 31 }

-- the events after calls, one after the other
abbrev pub after_calls : List Event → List Asked → List Event
after_calls events [] = events
after_calls events (c ∷ cs) = after_calls (events ++ (outcome events c.call c.now).1) cs

-- the reply to a call after others, on an empty product
abbrev pub reply_after : List Asked → Asked → Reply
reply_after cs c = (outcome (after_calls first_events cs) c.call c.now).0

-- the events that a call appends after others
abbrev pub events_after : List Asked → Asked → List Event
events_after cs c = (outcome (after_calls first_events cs) c.call c.now).1

abbrev pub volumes : ℕ → ℕ → Volumes
volumes input output = record { input = input; output = output }

-- a map of one asset
abbrev pub one_asset : List ℕ → Volumes → AssetMap
one_asset asset v = table.insert table.empty asset v

-- maps of one and two accounts, each with one asset
abbrev pub two_accounts : List ℕ → List ℕ → Volumes → List ℕ → Volumes → AccountMap
two_accounts asset a v b w = table.insert (table.insert table.empty a (one_asset asset v)) b (one_asset asset w)

abbrev pub three_accounts : List ℕ → List ℕ → Volumes → List ℕ → Volumes → List ℕ → Volumes → AccountMap
three_accounts asset a v b w c x = table.insert (two_accounts asset a v b w) c (one_asset asset x)

-- the volumes that a transaction is shown with: before and after it, by id and by effective date
abbrev pub four_of : TransactionView → List (Option AccountMap)
four_of v = v.pre_commit_volumes ∷ v.post_commit_volumes ∷ v.pre_commit_effective_volumes ∷ v.post_commit_effective_volumes ∷ []

abbrev pub transaction_shown : Content → List TransactionView
transaction_shown (content.Created v) = v ∷ []
transaction_shown (content.Reverted v) = v ∷ []
transaction_shown (content.Transaction v) = v ∷ []
transaction_shown _ = []

abbrev pub each_four : List TransactionView → List (List (Option AccountMap))
each_four [] = []
each_four (v ∷ vs) = four_of v ∷ each_four vs

abbrev pub four : Reply → List (List (Option AccountMap))
four r = each_four (transaction_shown r.content)

abbrev pub all_expanded : Expand
all_expanded = record { volumes = true; effective = true }

abbrev pub none_expanded : Expand
none_expanded = record { volumes = false; effective = false }

abbrev pub no_span : Span
no_span = record { from = None; to = None; by_insertion = false; group = 0 }

abbrev pub listing : Filter → ℕ → Query
listing filter size = record { filter = filter; pit = None; page_size = size; after = None; expand = none_expanded; span = no_span }

abbrev pub element : Write → Element
element write = record { key = None; write = Good write }
