-- Sets of stripes that grow by the stripes of resources.
use Rattle.std.proofs.Common.{◌≡◌, ℕ, ◌+◌, ◌<◌, ◌≤◌, Bool, true, false, ◌||◌, ◌&&◌, List, [], ◌∷◌, ◌++◌, map, length, drop, get_or, refl, sym, ◌∙◌, ap, arith}
use Rattle.std.specs.Prelude.{nat_eq, nat_lt}
use Rattle.std.specs.List.{list_any, flat_map}
use Rattle.std.proofs.lemmas.List.{drop_more, drop_all, map-append}
use Rattle.std.proofs.lemmas.List.Folds.{list_any-append}
use Rattle.std.proofs.lemmas.Bool.Decides.{nat_tests}
use Rattle.std.proofs.lemmas.Bool.{le-ltb}
use Rattle.lg_containers.specs.NameTable.{NameTable, keys, pairs_of, keys-pairs}
use Rattle.lg_types.specs.declared.records.Posting.{Posting}
use Rattle.lg_types.specs.Known.{posting_accounts}
use Rattle.lg_types.specs.Parts.{account_resource, is_in}
use Rattle.lg_types.specs.Changes.{MetaOf}
use Rattle.lg_plan.specs.Resources.{first_of, has_accounts}

pub same_number : (m n : ℕ) → nat_eq m n ≡ nat_eq n m
same_number m n = by_tests (nat_eq m n) refl (nat_eq n m) refl
  where
    by_tests : (b : Bool) → nat_eq m n ≡ b → (c : Bool) → nat_eq n m ≡ c → b ≡ c
    by_tests true h true k = refl
    by_tests true h false k = absurd (grind (arith, nat_tests, h, k))
    by_tests false h true k = absurd (grind (arith, nat_tests, h, k))
    by_tests false h false k = refl

-- two that are added before the rest
shuffled : (l d s h : Bool) → (l || (d || (s || h))) ≡ ((s || (d || l)) || h)
shuffled true true true h = refl
shuffled true true false h = refl
shuffled true false true h = refl
shuffled true false false h = refl
shuffled false true true h = refl
shuffled false true false h = refl
shuffled false false true h = refl
shuffled false false false h = refl

turned : (l s h : Bool) → (l || (s || h)) ≡ ((s || l) || h)
turned true true h = refl
turned true false h = refl
turned false true h = refl
turned false false h = refl

pub apart : (a b c : Bool) → (a || (b || c)) ≡ ((a || b) || c)
apart true b c = refl
apart false b c = refl

-- the accounts that metadata are given for, added after those of the postings and the references
pub given_last : (g a r s : Bool) → (g || (a || (r || s))) ≡ ((a || g) || (r || s))
given_last true true r s = refl
given_last true false r s = refl
given_last false true r s = refl
given_last false false r s = refl

-- an entry's accounts and references, added after its key
pub key_first : (a r k : Bool) → (a || (r || (k || false))) ≡ (a || (k || r))
key_first true r k = refl
key_first false true true = refl
key_first false true false = refl
key_first false false true = refl
key_first false false false = refl

pub or_false : (b : Bool) → (b || false) ≡ b
or_false true = refl
or_false false = refl

module _ (k : ℕ) (ledger : List ℕ) where
  abbrev pub has_posting : List Posting → Bool
  has_posting ps = has_accounts k ledger (flat_map posting_accounts ps)

  abbrev pub has_name : List ℕ → Bool
  has_name name = is_in k ledger (account_resource name)

  pub posting_next : (ps : List Posting) (i : ℕ) (p : Posting) (all first second : Bool) → i < length ps → p ≡ get_or ps i p
      → first ≡ (has_name p.source || all) → second ≡ (has_name p.destination || first)
      → (has_posting (drop (i + 1) ps) || second) ≡ (has_posting (drop i ps) || all)
  posting_next ps i p all first second h is e f =
      ap (λ b. has_posting (drop (i + 1) ps) || b) (f ∙ ap (λ b. has_name p.destination || b) e)
      ∙ shuffled (has_posting (drop (i + 1) ps)) (has_name p.destination) (has_name p.source) all
      ∙ ap (λ (qs : List Posting). has_posting qs || all) (sym (drop_more ps i p h ∙ ap (λ (q : Posting). q ∷ drop (i + 1) ps) (sym is)))

  module _ {X : Type 0} (name : X → List ℕ) where
    abbrev pub has_of : List X → Bool
    has_of xs = has_accounts k ledger (map name xs)

    pub name_next : (xs : List X) (i : ℕ) (x : X) (all next : Bool) → i < length xs → x ≡ get_or xs i x → next ≡ (has_name (name x) || all) → (has_of (drop (i + 1) xs) || next) ≡ (has_of (drop i xs) || all)
    name_next xs i x all next h is e =
        ap (λ b. has_of (drop (i + 1) xs) || b) e
        ∙ turned (has_of (drop (i + 1) xs)) (has_name (name x)) all
        ∙ ap (λ (qs : List X). has_of qs || all) (sym (drop_more xs i x h ∙ ap (λ (q : X). q ∷ drop (i + 1) xs) (sym is)))

  -- the accounts of two lists
  pub accounts-append : (xs ys : List (List ℕ)) → has_accounts k ledger (xs ++ ys) ≡ (has_accounts k ledger xs || has_accounts k ledger ys)
  accounts-append xs ys = ap (list_any (is_in k ledger)) (map-append account_resource xs ys) ∙ list_any-append (is_in k ledger) (map account_resource xs) (map account_resource ys)

-- past the end nothing is left
pub none_left : {X : Type 0} (xs : List X) (i : ℕ) → length xs ≤ i → drop i xs ≡ []
none_left xs i h = drop_all i xs h

-- ---- the stripes of two sets

pub joined_start : (k : ℕ) (a o : Bool) → a ≡ (a || (nat_lt k 0 && o))
joined_start k a o = sym (ap (λ b. a || (b && o)) (le-ltb k 0 (omega arith)) ∙ or_false a)

pub joined_step : (k n : ℕ) (a o old new : Bool) → old ≡ (a || (nat_lt k n && o)) → new ≡ ((nat_eq k n && o) || old) → new ≡ (a || (nat_lt k (n + 1) && o))
joined_step k n a o old new h e = e ∙ ap (λ b. (nat_eq k n && o) || b) h ∙ by_tests (nat_eq k n) refl (nat_lt k n) refl (nat_lt k (n + 1)) refl o a
  where
    by_tests : (same : Bool) → nat_eq k n ≡ same → (less : Bool) → nat_lt k n ≡ less → (more : Bool) → nat_lt k (n + 1) ≡ more → (o a : Bool) → ((same && o) || (a || (less && o))) ≡ (a || (more && o))
    by_tests true s true l m t o a = absurd (grind (arith, nat_tests, s, l))
    by_tests true s false l true t true true = refl
    by_tests true s false l true t true false = refl
    by_tests true s false l true t false true = refl
    by_tests true s false l true t false false = refl
    by_tests true s false l false t o a = absurd (grind (arith, nat_tests, s, t))
    by_tests false s true l true t o a = refl
    by_tests false s true l false t o a = absurd (grind (arith, nat_tests, l, t))
    by_tests false s false l true t o a = absurd (grind (arith, nat_tests, s, l, t))
    by_tests false s false l false t o a = refl

pub joined_end : (k n : ℕ) (a x : Bool) → 16 ≤ n → (a || (nat_lt k n && (nat_lt k 16 && x))) ≡ (a || (nat_lt k 16 && x))
joined_end k n a x le = by_tests (nat_lt k n) refl (nat_lt k 16) refl
  where
    by_tests : (b : Bool) → nat_lt k n ≡ b → (c : Bool) → nat_lt k 16 ≡ c → (a || (b && (c && x))) ≡ (a || (c && x))
    by_tests true h c e = refl
    by_tests false h true e = absurd (grind (arith, nat_tests, h, e))
    by_tests false h false e = refl

-- ---- the accounts of a body

pub given_apart : (k : ℕ) (ledger : List ℕ) (posted : List (List ℕ)) (given : NameTable MetaOf) (r s first second : Bool)
    → first ≡ (has_accounts k ledger posted || (r || s))
    → second ≡ (has_accounts k ledger (map first_of (pairs_of given)) || first)
    → second ≡ (has_accounts k ledger (posted ++ keys given) || (r || s))
given_apart k ledger posted given r s first second e f =
    f ∙ ap (λ b. has_accounts k ledger (map first_of (pairs_of given)) || b) e
    ∙ given_last (has_accounts k ledger (map first_of (pairs_of given))) (has_accounts k ledger posted) r s
    ∙ ap (λ b. b || (r || s))
    (ap (λ ns. has_accounts k ledger posted || has_accounts k ledger ns) (sym (keys-pairs given))
    ∙ sym (accounts-append k ledger posted (keys given)))
