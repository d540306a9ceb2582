-- What the calls do to the history of an account's metadata.
--     with_all_prepared h changes     the changes are prepared behind those that are
--     without_last h n                the last `n` of the prepared changes are given up
--     with_applied date h n           the first `n` of the prepared changes are applied at the date
--     own_change, own_count           the change and 1 where the account is of the stripe and is the account `a`; else none and 0
--     own_given, given_count          the same of metadata given for an account
--     target_count                    1 where the target is such an account
--     body_on                         what the body of an entry changes of the account `a`, where it is of the stripe
use Rattle.std.specs.Prelude.{ℕ, ◌-◌, ℤ, Bool, ◌&&◌, if◌then◌else◌, List, [], ◌∷◌, ◌++◌, length, map, take, drop}
use Rattle.std.specs.List.{filter}
use Rattle.std.specs.Str.{bytes_eq}
use Rattle.lg_meta.specs.declared.change.DatedChange.{DatedChange}
use Rattle.lg_meta.specs.History.{History}
use Rattle.lg_meta.specs.Index.{changes_of}
use Rattle.lg_types.specs.declared.changes.MetaChange.{MetaChange}
use Rattle.lg_types.specs.declared.changes.MetaChange.TheVariants.{Set}
use Rattle.lg_types.specs.declared.records.EntryBody.{EntryBody}
use Rattle.lg_types.specs.declared.records.Target.{Target}
use Rattle.lg_types.specs.declared.records.Target.TheVariants.{Account, Transaction as TransactionOf}
use Rattle.lg_types.specs.Changes.{MetaOf, body_changes}
use Rattle.lg_types.specs.Parts.{has_account, has_change}
use Rattle.lg_shard.specs.Accounts.{one_if}
use Rattle.lg_shard.specs.Shown.{changes_on}

abbrev pub with_all_prepared : History → List MetaChange → History
with_all_prepared h changes = record { changes = h.changes; prepared = h.prepared ++ changes }

abbrev pub without_last : History → ℕ → History
without_last h n = record { changes = h.changes; prepared = take (length h.prepared - n) h.prepared }

abbrev pub dated_at : ℤ → MetaChange → DatedChange
dated_at date change = record { date = date; change = change }

abbrev pub with_applied : ℤ → History → ℕ → History
with_applied date h n = record { changes = h.changes ++ map (dated_at date) (take n h.prepared); prepared = drop n h.prepared }

-- whether an account of the stripe is the account
abbrev pub is_own_account : ℕ → List ℕ → List ℕ → List ℕ → Bool
is_own_account s ledger account a = has_account s ledger account && bytes_eq account a

abbrev pub own_change : ℕ → List ℕ → List ℕ → MetaChange → List ℕ → List MetaChange
own_change s ledger account change a = if is_own_account s ledger account a then change ∷ [] else []

abbrev pub own_count : ℕ → List ℕ → List ℕ → List ℕ → ℕ
own_count s ledger account a = one_if (is_own_account s ledger account a)

abbrev pub own_given : ℕ → List ℕ → List ℕ → List ℕ × MetaOf → List MetaChange
own_given s ledger a given = own_change s ledger given.0 (Set given.1) a

abbrev pub given_count : ℕ → List ℕ → List ℕ → List ℕ × MetaOf → ℕ
given_count s ledger a given = own_count s ledger given.0 a

-- of the target of a change
abbrev pub target_count : ℕ → List ℕ → Target → List ℕ → ℕ
target_count s ledger (Account account) a = own_count s ledger account a
target_count s ledger (TransactionOf id) a = 0

abbrev pub body_on : ℕ → List ℕ → ℤ → EntryBody → List ℕ → List MetaChange
body_on s ledger date body a = changes_of (changes_on (filter (has_change s ledger) (body_changes date body)) a)
