-- What the stripes up to a number know of the accounts of a ledger.
use Rattle.std.proofs.Common.{◌≡◌, ℕ, ◌+◌, ◌<◌, ◌≤◌, Bool, true, false, cond, ◌&&◌, ◌||◌, List, [], ◌∷◌, refl, sym, ap, ap₂, subst, ◌∙◌, arith}
use Rattle.std.specs.Prelude.{nat_eq, nat_lt, Option, Some, None}
use Rattle.std.specs.Option.{IsSomeAnd}
use Rattle.std.specs.List.{filter, flat_map, list_any}
use Rattle.std.specs.Str.{bytes_eq}
use Rattle.std.proofs.lemmas.Bool.Decides.{nat_tests}
use Rattle.std.proofs.lemmas.List.Folds.{list_any-append}
use Rattle.lg_types.specs.declared.classes.Class.TheVariants.{Account as AccountClass}
use Rattle.lg_types.specs.declared.records.Entry.{Entry}
use Rattle.lg_types.specs.declared.records.Event.{Event}
use Rattle.lg_types.specs.declared.records.Event.TheVariants.{Made, Logged}
use Rattle.lg_types.specs.Known.{accounts, entry_accounts}
use Rattle.lg_types.specs.Log.{log}
use Rattle.lg_types.specs.PartLaws.{is_account}
use Rattle.lg_types.specs.Parts.{Share, has_account, part_accounts, part_from, part_of, share, share_accounts, shares_in, shares_of, touches}
use Rattle.lg_types.specs.Stripes.{stripe}
use Rattle.lg_types.proofs.StripeKnows.{knows-accounts}
use Rattle.lg_shard.specs.Next.{IsNextName}
use Rattle.lg_shard.specs.Shown.{is_known}
use Rattle.lg_shard.specs.State.{StripeState}
use Rattle.lg_weigh.specs.Lent.{AreParts}
use Rattle.lg_shard.proofs.AccountLemmas.{bytes_same}
use Rattle.lg_shard.proofs.QuietLemmas.{more_shares}
use Rattle.lg_addresses.specs.Next.{is_named, is_stripe}

-- ---- a stripe knows accounts of its own alone

or_false : (a b : Bool) → a ≡ false → b ≡ false → (a || b) ≡ false
or_false a b h k = ap₂ (λ (x y : Bool). x || y) h k

module _ (s : ℕ) (ledger name : List ℕ) (other : nat_eq (stripe AccountClass ledger name) s ≡ false) where
  not_kept : (xs : List (List ℕ)) → list_any (is_account name) (filter (has_account s ledger) xs) ≡ false
  not_kept [] = refl
  not_kept (x ∷ xs) = by_test (has_account s ledger x) refl (not_kept xs)
    where
      differs : has_account s ledger x ≡ true → bytes_eq x name ≡ false
      differs h = by_name (bytes_eq x name) refl
        where
          by_name : (b : Bool) → bytes_eq x name ≡ b → bytes_eq x name ≡ false
          by_name true is = absurd (let no : true ≡ false = sym h ∙ ap (has_account s ledger) (bytes_same x name is) ∙ other in cc)
          by_name false is = is

      by_test : (b : Bool) → has_account s ledger x ≡ b → list_any (is_account name) (filter (has_account s ledger) xs) ≡ false → list_any (is_account name) (cond b (x ∷ filter (has_account s ledger) xs) (filter (has_account s ledger) xs)) ≡ false
      by_test true h rest = or_false (bytes_eq x name) _ (differs h) rest
      by_test false h rest = rest

  not_shared : (place : ℕ) (l : List ℕ) (e : Entry) (touched same : Bool) → bytes_eq l ledger ≡ same → list_any (is_account name) (flat_map share_accounts (shares_in ledger (cond touched (share s place l e ∷ []) []))) ≡ false
  not_shared place l e false same h = refl
  not_shared place l e true true h =
      ap (λ (b : Bool). list_any (is_account name) (flat_map share_accounts (cond b (share s place l e ∷ []) []))) h
      ∙ list_any-append (is_account name) (filter (has_account s l) (entry_accounts e)) []
      ∙ or_false _ false (ap (λ (n : List ℕ). list_any (is_account name) (filter (has_account s n) (entry_accounts e))) (bytes_same l ledger h) ∙ not_kept (entry_accounts e)) refl
  not_shared place l e true false h = ap (λ (b : Bool). list_any (is_account name) (flat_map share_accounts (cond b (share s place l e ∷ []) []))) h

  not_of_event : (place : ℕ) (event : Event) → list_any (is_account name) (part_accounts ledger (shares_of s place event)) ≡ false
  not_of_event place (Made info) = refl
  not_of_event place (Logged l e) = not_shared place l e (touches s (Logged l e)) (bytes_eq l ledger) refl

  not_known : (place : ℕ) (events : List Event) → list_any (is_account name) (part_accounts ledger (part_from place s events)) ≡ false
  unfolding part_from
  not_known place [] = refl
  not_known place (event ∷ events) =
      ap (list_any (is_account name)) (more_shares share_accounts ledger (shares_of s place event) (part_from (place + 1) s events))
      ∙ list_any-append (is_account name) (part_accounts ledger (shares_of s place event)) (part_accounts ledger (part_from (place + 1) s events))
      ∙ or_false _ _ (not_of_event place event) (not_known (place + 1) events)

any-kept : {X : Type 0} (p : X → Bool) (xs : List X) → list_any p (filter p xs) ≡ list_any p xs
any-kept p [] = refl
any-kept p (x ∷ xs) = by_test (p x) refl (any-kept p xs)
  where
    by_test : (b : Bool) → p x ≡ b → list_any p (filter p xs) ≡ list_any p xs → list_any p (cond b (x ∷ filter p xs) (filter p xs)) ≡ (p x || list_any p xs)
    by_test true h rest = ap₂ (λ (a b : Bool). a || b) refl rest
    by_test false h rest = rest ∙ sym (ap (λ (b : Bool). b || list_any p xs) h)

-- a stripe knows the accounts of the log that are its own
pub known_by : (s : ℕ) (ledger name : List ℕ) (events : List Event) → is_known (part_of s events) ledger name ≡ (is_named events ledger name && nat_eq (stripe AccountClass ledger name) s)
known_by s ledger name events = by_test (nat_eq (stripe AccountClass ledger name) s) refl
  where
    whole : (b : Bool) → (b && true) ≡ b
    whole true = refl
    whole false = refl

    none : (b : Bool) → (b && false) ≡ false
    none true = refl
    none false = refl

    by_test : (b : Bool) → nat_eq (stripe AccountClass ledger name) s ≡ b → is_known (part_of s events) ledger name ≡ (is_named events ledger name && nat_eq (stripe AccountClass ledger name) s)
    by_test true h =
        let own : stripe AccountClass ledger name ≡ s = grind (arith, nat_tests, h) in
        sym (any-kept (is_account name) (part_accounts ledger (part_of s events)))
        ∙ ap (list_any (is_account name)) (knows-accounts s ledger name events own)
        ∙ any-kept (is_account name) (accounts (log events ledger))
        ∙ sym (ap (λ (b : Bool). is_named events ledger name && b) h ∙ whole (is_named events ledger name))
    by_test false h = not_known s ledger name h 0 events ∙ sym (ap (λ (b : Bool). is_named events ledger name && b) h ∙ none (is_named events ledger name))

-- ---- the stripes up to a number

abbrev pub is_named_below : List Event → List ℕ → ℕ → List ℕ → Bool
is_named_below events ledger k name = is_named events ledger name && nat_lt (stripe AccountClass ledger name) k

next_test : (n k : ℕ) → (nat_lt n k || nat_eq n k) ≡ nat_lt n (k + 1)
next_test n k = by_test (nat_lt n (k + 1)) refl
  where
    by_test : (b : Bool) → nat_lt n (k + 1) ≡ b → (nat_lt n k || nat_eq n k) ≡ nat_lt n (k + 1)
    by_test b h = grind (arith, nat_tests)

spread : (a b c : Bool) → ((a && b) || (a && c)) ≡ (a && (b || c))
spread true b c = refl
spread false b c = refl

pub one_stripe_more : (events : List Event) (ledger : List ℕ) (k : ℕ) (name : List ℕ) → (is_named_below events ledger k name || is_known (part_of k events) ledger name) ≡ is_named_below events ledger (k + 1) name
one_stripe_more events ledger k name =
    ap (λ (b : Bool). is_named_below events ledger k name || b) (known_by k ledger name events)
    ∙ spread (is_named events ledger name) (nat_lt (stripe AccountClass ledger name) k) (nat_eq (stripe AccountClass ledger name) k)
    ∙ ap (λ (b : Bool). is_named events ledger name && b) (next_test (stripe AccountClass ledger name) k)

pub none_below : (events : List Event) (ledger name : List ℕ) → is_named_below events ledger 0 name ≡ true → ⊥
none_below events ledger name h = let no : nat_lt (stripe AccountClass ledger name) 0 ≡ true = second (is_named events ledger name) (nat_lt (stripe AccountClass ledger name) 0) h in grind (arith, nat_tests, no)
  where
    second : (a b : Bool) → (a && b) ≡ true → b ≡ true
    second true b k = k
    second false b k = absurd (let f : false ≡ true = k in cc)

below-sixteen : (ledger name : List ℕ) → stripe AccountClass ledger name < 16
unfolding stripe
below-sixteen ledger name = omega arith

pub all_below : (events : List Event) (ledger : List ℕ) (k : ℕ) → 16 ≤ k → (name : List ℕ) → is_named_below events ledger k name ≡ is_named events ledger name
all_below events ledger k least name =
    let less = below-sixteen ledger name in
    let below : nat_lt (stripe AccountClass ledger name) k ≡ true = grind (arith, nat_tests, less, least) in
    ap (λ (b : Bool). is_named events ledger name && b) below ∙ whole (is_named events ledger name)
  where
    whole : (b : Bool) → (b && true) ≡ b
    whole true = refl
    whole false = refl

-- ---- the shard of a stripe

both_of : (o : Option StripeState) (P Q : StripeState → Type 0) → IsSomeAnd o P → IsSomeAnd o Q → (state : StripeState) × P state × Q state
both_of None P Q h k = absurd h
both_of (Some state) P Q h k = (state, h, k)

pub known_of : (lent : ℕ → Option StripeState) (events : List Event) (ledger : List ℕ) (k : ℕ) (given next : Option (List ℕ)) → k < 16 → AreParts is_stripe lent events
    → IsSomeAnd (lent k) (λ state. IsNextName (is_known state.shares ledger) given next) → IsNextName (is_known (part_of k events) ledger) given next
known_of lent events ledger k given next less parts h =
    let own : nat_lt k 16 ≡ true = grind (arith, nat_tests, less) in
    let both = both_of (lent k) (λ state. IsNextName (is_known state.shares ledger) given next) (λ state. state.shares ≡ part_of k events) h (parts.each k own) in
    subst (λ (shares : List Share). IsNextName (is_known shares ledger) given next) both.2 both.1
