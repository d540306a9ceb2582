-- The next account behind a name, of those that a ledger names.
use Rattle.std.specs.Prelude.{◌≡◌, ℕ, Bool, true, false, if◌then◌else◌, nat_lt, List, Option, Some, None, IfSome}
use Rattle.std.specs.List.{list_any}
use Rattle.std.specs.Ordering.{is_gt}
use Rattle.lg_containers.specs.NameOrder.{name_order}
use Rattle.lg_types.specs.declared.records.Event.{Event}
use Rattle.lg_types.specs.Known.{accounts}
use Rattle.lg_types.specs.Log.{log}
use Rattle.lg_types.specs.PartLaws.{is_account}
use Rattle.lg_shard.specs.Next.{is_behind}

-- whether the log of a ledger names the account
abbrev pub is_named : List Event → List ℕ → List ℕ → Bool
is_named events ledger account = list_any (is_account account) (accounts (log events ledger))

-- a name that stands no later than another; no name stands so where there is none
abbrev pub IsNoLater : Option (List ℕ) → List ℕ → Type 0
IsNoLater None name = ⊥
IsNoLater (Some next) name = is_gt (name_order next name) ≡ false

-- of the names that pass the test, the first that stands behind the given one; none where there is no such name
pub record IsFirstBehind (test : List ℕ → Bool) (given next : Option (List ℕ)) : Type 0 where
  pub passes : IfSome next (λ name. (test name ≡ true) × (is_behind given name ≡ true))
  pub first : (name : List ℕ) → test name ≡ true → is_behind given name ≡ true → IsNoLater next name

-- the lesser of two names, of which each may be wanting
abbrev pub lesser_of : Option (List ℕ) → Option (List ℕ) → Option (List ℕ)
lesser_of None other = other
lesser_of (Some one) None = Some one
lesser_of (Some one) (Some other) = if is_gt (name_order one other) then Some other else Some one

-- every stripe
abbrev pub is_stripe : ℕ → Bool
is_stripe k = nat_lt k 16
