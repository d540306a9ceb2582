-- Sets of stripes that grow by the stripes of accounts.
use Rattle.std.proofs.Common.{◌≡◌, ℕ, ◌+◌, ◌<◌, ◌≤◌, Bool, true, false, ◌||◌, List, [], ◌∷◌, ◌++◌, map, length, drop, get_or, refl, sym, ◌∙◌, ap, arith}
use Rattle.std.specs.Prelude.{nat_eq}
use Rattle.std.specs.List.{list_any, flat_map}
use Rattle.std.proofs.lemmas.List.{drop_more, drop_all}
use Rattle.std.proofs.lemmas.Bool.Decides.{nat_tests}
use Rattle.lg_types.specs.declared.records.Posting.{Posting}
use Rattle.lg_types.specs.Known.{posting_accounts}
use Rattle.std.proofs.lemmas.List.{map-append}
use Rattle.lg_containers.specs.NameTable.{NameTable, pairs_of, keys, keys-pairs}
use Rattle.lg_weigh.specs.Reach.{first_of}
use Rattle.lg_types.specs.Parts.{account_resource, is_in}

pub or_false : (b : Bool) → (b || false) ≡ b
or_false true = refl
or_false false = refl

pub same_number : (m n : ℕ) → nat_eq m n ≡ nat_eq n m
same_number m n = by_tests (nat_eq m n) refl (nat_eq n m) refl
  where
    by_tests : (b : Bool) → nat_eq m n ≡ b → (c : Bool) → nat_eq n m ≡ c → b ≡ c
    by_tests true h true k = refl
    by_tests true h false k = absurd (grind (arith, nat_tests, h, k))
    by_tests false h true k = absurd (grind (arith, nat_tests, h, k))
    by_tests false h false k = refl

pub any-append : {X : Type 0} (p : X → Bool) (xs ys : List X) → list_any p (xs ++ ys) ≡ (list_any p xs || list_any p ys)
any-append p [] ys = refl
any-append p (x ∷ xs) ys = ap (λ b. p x || b) (any-append p xs ys) ∙ or_assoc (p x) (list_any p xs) (list_any p ys)
  where
    or_assoc : (a b c : Bool) → (a || (b || c)) ≡ ((a || b) || c)
    or_assoc true b c = refl
    or_assoc false b c = refl

-- two that are added before the rest
shuffled : (l d s h : Bool) → (l || (d || (s || h))) ≡ ((s || (d || l)) || h)
shuffled true true true h = refl
shuffled true true false h = refl
shuffled true false true h = refl
shuffled true false false h = refl
shuffled false true true h = refl
shuffled false true false h = refl
shuffled false false true h = refl
shuffled false false false h = refl

turned : (l s h : Bool) → (l || (s || h)) ≡ ((s || l) || h)
turned true true h = refl
turned true false h = refl
turned false true h = refl
turned false false h = refl

pub three : (a b c : Bool) → (c || (b || (a || false))) ≡ (a || (b || c))
three true true true = refl
three true true false = refl
three true false true = refl
three true false false = refl
three false true true = refl
three false true false = refl
three false false true = refl
three false false false = refl

module _ (k : ℕ) (ledger : List ℕ) where
  -- whether the stripe has an account of the postings
  abbrev pub has_posting : List Posting → Bool
  has_posting ps = list_any (is_in k ledger) (map account_resource (flat_map posting_accounts ps))

  abbrev pub has_name : List ℕ → Bool
  has_name name = is_in k ledger (account_resource name)

  pub posting_next : (ps : List Posting) (i : ℕ) (p : Posting) (all first second : Bool) → i < length ps → p ≡ get_or ps i p
      → first ≡ (has_name p.source || all) → second ≡ (has_name p.destination || first)
      → (has_posting (drop (i + 1) ps) || second) ≡ (has_posting (drop i ps) || all)
  posting_next ps i p all first second h is e f =
      ap (λ b. has_posting (drop (i + 1) ps) || b) (f ∙ ap (λ b. has_name p.destination || b) e)
      ∙ shuffled (has_posting (drop (i + 1) ps)) (has_name p.destination) (has_name p.source) all
      ∙ ap (λ (qs : List Posting). has_posting qs || all) (sym (drop_more ps i p h ∙ ap (λ (q : Posting). q ∷ drop (i + 1) ps) (sym is)))

  module _ {X : Type 0} (name : X → List ℕ) where
    abbrev pub has_of : List X → Bool
    has_of xs = list_any (is_in k ledger) (map account_resource (map name xs))

    pub name_next : (xs : List X) (i : ℕ) (x : X) (all next : Bool) → i < length xs → x ≡ get_or xs i x → next ≡ (has_name (name x) || all) → (has_of (drop (i + 1) xs) || next) ≡ (has_of (drop i xs) || all)
    name_next xs i x all next h is e =
        ap (λ b. has_of (drop (i + 1) xs) || b) e
        ∙ turned (has_of (drop (i + 1) xs)) (has_name (name x)) all
        ∙ ap (λ (qs : List X). has_of qs || all) (sym (drop_more xs i x h ∙ ap (λ (q : X). q ∷ drop (i + 1) xs) (sym is)))

-- past the end nothing is left
pub none_left : {X : Type 0} (xs : List X) (i : ℕ) → length xs ≤ i → drop i xs ≡ []
none_left xs i h = drop_all i xs h

-- the accounts of postings, then those that metadata are given for
pub accounts_apart : (k : ℕ) (ledger : List ℕ) (posted : List (List ℕ)) (given : NameTable (NameTable (List ℕ))) (none first second : Bool)
    → first ≡ (list_any (is_in k ledger) (map account_resource posted) || none)
    → second ≡ (list_any (is_in k ledger) (map account_resource (map first_of (pairs_of given))) || first)
    → second ≡ (list_any (is_in k ledger) (map account_resource (posted ++ keys given)) || none)
accounts_apart k ledger posted given none first second e f =
    f ∙ ap (λ b. list_any (is_in k ledger) (map account_resource (map first_of (pairs_of given))) || b) e
    ∙ apart (list_any (is_in k ledger) (map account_resource posted)) (list_any (is_in k ledger) (map account_resource (map first_of (pairs_of given)))) none
    ∙ ap (λ b. b || none)
    (ap (λ ns. list_any (is_in k ledger) (map account_resource posted) || list_any (is_in k ledger) (map account_resource ns)) (sym (keys-pairs given))
    ∙ sym (ap (list_any (is_in k ledger)) (map-append account_resource posted (keys given)) ∙ any-append (is_in k ledger) (map account_resource posted) (map account_resource (keys given))))
  where
    apart : (a b n : Bool) → (b || (a || n)) ≡ ((a || b) || n)
    apart true true n = refl
    apart true false n = refl
    apart false true n = refl
    apart false false n = refl
