-- The key and the reference of an entry, where they are of the stripe.
use Rattle.std.specs.Prelude.{ℕ, if◌then◌else◌, nat_eq, List, Option, Some, None}
use Rattle.lg_types.specs.declared.classes.Class.TheVariants.{Key, Reference}
use Rattle.lg_types.specs.declared.records.Entry.{Entry}
use Rattle.lg_types.specs.declared.records.KeyMark.{KeyMark}
use Rattle.lg_types.specs.declared.records.Transaction.{Transaction}
use Rattle.lg_types.specs.Moves.{body_transaction}
use Rattle.lg_types.specs.Stripes.{stripe}
use Rattle.lg_shard.specs.declared.names.Names.{Names}

abbrev pub key_in : ℕ → List ℕ → Option KeyMark → Option (List ℕ)
key_in s ledger None = None
key_in s ledger (Some mark) = if nat_eq (stripe Key ledger mark.key) s then Some mark.key else None

abbrev pub given_reference : ℕ → List ℕ → Option (List ℕ) → Option (List ℕ)
given_reference s ledger None = None
given_reference s ledger (Some reference) = if nat_eq (stripe Reference ledger reference) s then Some reference else None

abbrev pub reference_in : ℕ → List ℕ → Option Transaction → Option (List ℕ)
reference_in s ledger None = None
reference_in s ledger (Some transaction) = given_reference s ledger transaction.reference

abbrev pub names_in : ℕ → List ℕ → Entry → Names
names_in s ledger e = record { key = key_in s ledger e.mark; reference = reference_in s ledger (body_transaction e.body) }
