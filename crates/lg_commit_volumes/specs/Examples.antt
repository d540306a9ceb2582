-- What the examples say of their transactions and their shards.
use Rattle.std.specs.Prelude.{ℕ, zero, suc, List, [], ◌∷◌, ◌++◌, Option, Some, None, sum_by}
use Rattle.lg_types.specs.declared.records.Entry.{Entry}
use Rattle.lg_types.specs.declared.records.Posting.{Posting}
use Rattle.lg_types.specs.declared.records.Transaction.{Transaction}
use Rattle.lg_types.specs.Moves.{body_transaction}
use Rattle.lg_shard.specs.State.{StripeState}

abbrev pub amount_of : Posting → ℕ
amount_of p = p.amount

-- all amounts together
abbrev pub units_of : List Posting → ℕ
units_of ps = sum_by amount_of ps

abbrev pub made_units : Option Transaction → ℕ
made_units None = 0
made_units (Some t) = units_of t.postings

abbrev pub entry_units : Entry → ℕ
entry_units e = made_units (body_transaction e.body)

-- a shard without shares
abbrev pub fresh_state : ℕ → StripeState
fresh_state k = record { stripe = k; shares = []; prepared = [] }

-- those of the first stripes
unfoldable pub shards_to : ℕ → List StripeState
shards_to zero = []
shards_to (suc n) = shards_to n ++ fresh_state n ∷ []
