-- A log has fewer entries than there are events, and no more transactions than entries.
use Rattle.std.proofs.Common.{◌≡◌, ℕ, ◌+◌, ◌≤◌, ℤ, Bool, true, false, ◌||◌, List, [], ◌∷◌, length, Option, Some, None, arith}
use Rattle.std.specs.Prelude.{if◌then◌else◌}
use Rattle.std.specs.Str.{bytes_eq}
use Rattle.std.proofs.lemmas.List.{length-append}
use Rattle.lg_types.specs.declared.records.Entry.{Entry}
use Rattle.lg_types.specs.declared.records.Event.{Event}
use Rattle.lg_types.specs.declared.records.Event.TheVariants.{Made, Logged}
use Rattle.lg_types.specs.declared.records.Transaction.{Transaction}
use Rattle.lg_types.specs.Known.{dated, transactions}
use Rattle.lg_types.specs.Log.{log, is_there}
use Rattle.lg_types.specs.Moves.{body_transaction}

one_at_most : (e : Entry) (b : Bool) → length (if b then e ∷ [] else []) ≤ 1
one_at_most e true = omega arith
one_at_most e false = omega arith

log_within : (events : List Event) (ledger : List ℕ) → length (log events ledger) ≤ length events
log_within [] ledger = omega arith
log_within (Made info ∷ events) ledger = omega (arith, log_within events ledger)
log_within (Logged name e ∷ events) ledger =
    omega (arith, length-append (if bytes_eq name ledger then e ∷ [] else []) (log events ledger), one_at_most e (bytes_eq name ledger), log_within events ledger)

made_first : (a b : Bool) (m n : ℕ) → m ≤ n → (b ≡ true → m + 1 ≤ n) → (a || b) ≡ true → m + 1 ≤ n + 1
made_first true b m n within below there = omega arith
made_first false b m n within below there = omega (arith, below there)

-- the ledger itself was made by an event
pub log_below : (events : List Event) (ledger : List ℕ) → is_there events ledger ≡ true → length (log events ledger) + 1 ≤ length events
log_below [] ledger there = absurd (let f : false ≡ true = there in cc)
log_below (Made info ∷ events) ledger there =
    omega (arith, made_first (bytes_eq info.name ledger) (is_there events ledger) (length (log events ledger)) (length events) (log_within events ledger) (log_below events ledger) there)
log_below (Logged name e ∷ events) ledger there =
    omega (arith, length-append (if bytes_eq name ledger then e ∷ [] else []) (log events ledger), one_at_most e (bytes_eq name ledger), log_below events ledger there)

one_transaction : (date : ℤ) (o : Option Transaction) → length (dated date o) ≤ 1
one_transaction date None = omega arith
one_transaction date (Some t) = omega arith

pub transactions_within : (g : List Entry) → length (transactions g) ≤ length g
transactions_within [] = omega arith
transactions_within (e ∷ g) = omega (arith, length-append (dated e.date (body_transaction e.body)) (transactions g), one_transaction e.date (body_transaction e.body), transactions_within g)
