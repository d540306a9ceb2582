-- The stripes that an entry of one posting touches.
use Rattle.std.specs.Prelude.{nat_eq}
use Rattle.std.specs.List.{list_any, flat_map}
use Rattle.std.specs.Option.{option_to_list}
use Rattle.std.proofs.Common.{◌≡◌, ℕ, ℤ, Bool, true, false, ◌||◌, List, [], ◌∷◌, ◌++◌, map, None, refl, ap, ◌∙◌}
use Rattle.lg_containers.specs.NameTable as table
use Rattle.lg_types.specs.declared.classes.Class.TheVariants.{Account as AccountClass}
use Rattle.lg_types.specs.declared.records.EntryBody.TheVariants.{NewTransaction}
use Rattle.lg_types.specs.declared.records.Posting.{Posting}
use Rattle.lg_types.specs.declared.records.Transaction.{Transaction}
use Rattle.lg_types.specs.Known.{posting_accounts, referred_by}
use Rattle.lg_types.specs.Stripes.{stripe}
use Rattle.lg_types.specs.Parts.{is_in, account_resource, reference_resource, resources}

or-none : (a b : Bool) → (a || (b || false)) ≡ (a || b)
or-none true b = refl
or-none false true = refl
or-none false false = refl

pub touches-paid : (k : ℕ) (ledger : List ℕ) (id : ℕ) (date : ℤ) (hash : List ℕ) (t : Transaction) (accounts : table.NameTable (table.NameTable (List ℕ))) (p : Posting)
    → t.postings ≡ p ∷ [] → t.reference ≡ None → accounts ≡ table.empty
    → list_any (is_in k ledger) (resources (record { id = id; date = date; mark = None; body = NewTransaction t accounts; hash = hash })) ≡ (nat_eq (stripe AccountClass ledger p.source) k || nat_eq (stripe AccountClass ledger p.destination) k)
unfolding table.keys table.pairs_of table.empty
touches-paid k ledger id date hash t accounts p one none empty =
    ap (λ ps. list_any (is_in k ledger) (map account_resource (flat_map posting_accounts ps ++ table.keys accounts) ++ map reference_resource (map (referred_by t.id) (option_to_list t.reference)))) one
    ∙ ap (λ o. list_any (is_in k ledger) (map account_resource (flat_map posting_accounts (p ∷ []) ++ table.keys accounts) ++ map reference_resource (map (referred_by t.id) (option_to_list o)))) none
    ∙ ap (λ a. list_any (is_in k ledger) (map account_resource (flat_map posting_accounts (p ∷ []) ++ table.keys a) ++ [])) empty
    ∙ or-none (nat_eq (stripe AccountClass ledger p.source) k) (nat_eq (stripe AccountClass ledger p.destination) k)
