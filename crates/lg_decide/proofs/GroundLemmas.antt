-- What lent shards know of the accounts of a new entry.
use Rattle.std.proofs.Common.{◌≡◌, ℕ, suc, ◌+◌, ◌<◌, ◌^◌, ℤ, Bool, true, false, cond, ◌&&◌, ◌||◌, List, [], ◌∷◌, ◌++◌, map, length, slice_get, Option, Some, None, refl, sym, ap, subst, ◌∙◌, append_assoc, arith}
use Rattle.std.specs.Prelude.{All, IsSomeAnd, IfSome, nat_eq, is_some, if◌then◌else◌}
use Rattle.std.specs.List.{flat_map, list_any}
use Rattle.std.specs.Str.{bytes_eq}
use Rattle.std.proofs.lemmas.Bool.{eq-eqb, leb-false}
use Rattle.std.proofs.lemmas.List.{append-nil}
use Rattle.std.proofs.lemmas.List.Elements.{All-nil, All-cons}
use Rattle.std.proofs.lemmas.List.Folds.{list_any-append}
use Rattle.std.proofs.lemmas.Option.{slice_get_within}
use Rattle.std.proofs.lemmas.Slice.Eq.{bytes_eq-Decides}
use Rattle.lg_base.specs.Volumes.{sum_of, IsWithinLimit}
use Rattle.lg_types.specs.declared.calls.Call.TheVariants as call
use Rattle.lg_types.specs.declared.calls.Write.{Write}
use Rattle.lg_types.specs.declared.classes.Class.{Class}
use Rattle.lg_types.specs.declared.classes.Class.TheVariants.{Account as AccountClass}
use Rattle.lg_types.specs.declared.records.Entry.{Entry}
use Rattle.lg_types.specs.declared.records.EntryBody.{EntryBody}
use Rattle.lg_types.specs.declared.records.Event.{Event}
use Rattle.lg_types.specs.declared.records.Event.TheVariants.{Logged}
use Rattle.lg_types.specs.declared.records.Posting.{Posting}
use Rattle.lg_types.specs.declared.records.Transaction.{Transaction}
use Rattle.lg_types.specs.declared.refusals.Refusal.TheVariants.{Limit}
use Rattle.lg_types.specs.Known.{Dated, posting_accounts, transaction_accounts, own_accounts, entry_accounts, entry_keys, entry_references, transactions}
use Rattle.lg_types.specs.Lists.{Each}
use Rattle.lg_types.specs.Log.{log}
use Rattle.lg_types.specs.Moves.{Placed, body_transaction, moves, pair_moves, total}
use Rattle.lg_types.specs.MoveLaws.{posting_volumes}
use Rattle.lg_types.specs.Parts.{Share, account_resource, key_resource, reference_resource, is_in, touches, part_of, part_moves}
use Rattle.lg_types.specs.Stripes.{stripe}
use Rattle.lg_types.specs.Tally.{total_of}
use Rattle.lg_types.specs.Trial.{passes_limit, tried_moves, is_over, limit_from}
use Rattle.lg_types.proofs.Eachs.{each-map}
use Rattle.lg_types.proofs.Limits.{total-posting}
use Rattle.lg_types.proofs.MoveSums.{volumes-append}
use Rattle.lg_types.proofs.StripeKnows.{knows-moves}
use Rattle.lg_views.specs.declared.decided.Decided.{Decided}
use Rattle.lg_views.specs.declared.decided.Decided.TheVariants.{Denied, Granted}
use Rattle.lg_views.specs.Import.{is_misnumbered, is_over_limit}
use Rattle.lg_views.specs.Writes.{decided, marked, new_entry}
use Rattle.lg_views.proofs.Follows.{BodyFits}
use Rattle.lg_views.proofs.Granted.{IfGranted, decided-fits}
use Rattle.lg_book.specs.declared.volumes.FirstVolumes.{FirstVolumes}
use Rattle.lg_book.specs.FirstVolumes.{entry_volumes}
use Rattle.lg_book.specs.Following.{IsGrown}
use Rattle.lg_book.proofs.EntryIds.{sound_log}
use Rattle.lg_book.proofs.Sound.{IsSound, next_id, no_some}
use Rattle.lg_shard.specs.Shown.{account_moves}
use Rattle.lg_shard.specs.State.{StripeState}
use Rattle.lg_commit_volumes.specs.Lent.{IsPart, IsPartOf, IsPairWithin, ArePairsWithin, AreParts, shard_moves, posting_pairs, HasSmallerId, HasSmallerIds}
use Rattle.lg_plan.specs.Laws.{IsPostingWithin, AreAccountsWithin}
use Rattle.lg_decide.specs.Decisions.{known_in}
use Rattle.lg_decide.specs.Deciding.{MayShow, MayShowBody, IsLimited, AreLimited, Ground}
use Rattle.lg_decide.proofs.ResourceLemmas.{NeedsAlike, granted-needs}

-- ---- one account

below-sixteen : (class : Class) (ledger name : List ℕ) → stripe class ledger name < 16
unfolding stripe
below-sixteen class ledger name = omega arith

-- the shard is the part of a stripe
abbrev IsOwnPart : ℕ → List Event → Option StripeState → Type 0
IsOwnPart k events o = IsSomeAnd o (λ state. state.shares ≡ part_of k events)

module _ (k : ℕ) (ledger account asset : List ℕ) (events : List Event) (own : stripe AccountClass ledger account ≡ k) where
  known-moves : (state : StripeState) → state.shares ≡ part_of k events → account_moves state.shares ledger account asset ≡ pair_moves (moves (log events ledger)) account asset
  known-moves state is = ap (λ shares. pair_moves (part_moves ledger shares) account asset) is ∙ knows-moves k ledger account asset events own

  shown-moves : (o : Option StripeState) → IsOwnPart k events o → shard_moves o ledger account asset ≡ pair_moves (moves (log events ledger)) account asset
  shown-moves None is = absurd is
  shown-moves (Some state) is = known-moves state is

  known-within : (o : Option StripeState) → IsOwnPart k events o → IfSome o IsLimited → IsWithinLimit (total (moves (log events ledger)) account asset)
  known-within None is limits = absurd is
  known-within (Some state) is limits = subst (λ ms. IsWithinLimit (total_of ms)) (known-moves state is) (limits ledger account asset)

is-part : (k : ℕ) (events : List Event) (o : Option StripeState) → IsOwnPart k events o → IsPart k events o
is-part k events None is = absurd is
is-part k events (Some state) is = is

-- ---- postings that don't pass the limit

not_over : (a b : Bool) → (a || b) ≡ false → (a ≡ false) × (b ≡ false)
not_over true b h = absurd (let f : true ≡ false = h in cc)
not_over false b h = (refl, h)

both_true : (a b : Bool) → (a && b) ≡ true → (a ≡ true) × (b ≡ true)
both_true true b h = (refl, h)
both_true false b h = absurd (let f : false ≡ true = h in cc)

below_limit : (n : ℕ) → passes_limit n ≡ false → n < 2 ^ 127
below_limit n h = leb-false (2 ^ 127) n h

same_bytes : (x y : List ℕ) → bytes_eq x y ≡ true → x ≡ y
same_bytes x y h = (bytes_eq-Decides x y).0 h

if_none : {A : Type 0} (b : Bool) (x : A) (o : Option A) → (if b then Some x else o) ≡ None → (b ≡ false) × (o ≡ None)
if_none {A} true x o h = absurd (let f : ◌≡◌ {A = Option A} (Some x) None = h in cc)
if_none false x o h = (refl, h)

-- an amount that is added where a test holds keeps a bound that holds there with it
added : (b : Bool) (n m bound : ℕ) → n < bound → (b ≡ true → n + m < bound) → n + cond b m 0 < bound
added true n m bound h k = k refl
added false n m bound h k = omega (arith, h)

module _ (account asset : List ℕ) where
  pair-more : (ms : List Placed) (p : Posting) → IsWithinLimit (total ms account asset) → is_over ms p ≡ false → IsWithinLimit (total (ms ++ tried_moves p) account asset)
  pair-more ms p h over =
      subst IsWithinLimit (sym (volumes-append ms (tried_moves p) (λ _. true) account asset ∙ ap (sum_of (total ms account asset)) (total-posting 0 _ _ p account asset))) (record {
        input = added (bytes_eq p.destination account && bytes_eq p.asset asset) (total ms account asset).input p.amount (2 ^ 127) h.input
            (λ t. let eqs = both_true (bytes_eq p.destination account) (bytes_eq p.asset asset) t in
            subst (λ a. (total ms a asset).input + p.amount < 2 ^ 127) (same_bytes p.destination account eqs.0)
            (subst (λ s. (total ms p.destination s).input + p.amount < 2 ^ 127) (same_bytes p.asset asset eqs.1) (below_limit _ limits.1)));
        output = added (bytes_eq p.source account && bytes_eq p.asset asset) (total ms account asset).output p.amount (2 ^ 127) h.output
            (λ t. let eqs = both_true (bytes_eq p.source account) (bytes_eq p.asset asset) t in
            subst (λ a. (total ms a asset).output + p.amount < 2 ^ 127) (same_bytes p.source account eqs.0)
            (subst (λ s. (total ms p.source s).output + p.amount < 2 ^ 127) (same_bytes p.asset asset eqs.1) (below_limit _ limits.0)));
      })
    where
      limits : (passes_limit ((total ms p.source p.asset).output + p.amount) ≡ false) × (passes_limit ((total ms p.destination p.asset).input + p.amount) ≡ false)
      limits = not_over _ _ over

  -- postings that don't pass the limit leave the account and the asset within it
  pair-within : (ms : List Placed) (k : ℕ) (ps : List Posting) → IsWithinLimit (total ms account asset) → limit_from ms k ps ≡ None → IsWithinLimit (total (ms ++ flat_map tried_moves ps) account asset)
  pair-within ms k [] h none = subst (λ (l : List Placed). IsWithinLimit (total l account asset)) (sym (append-nil ms)) h
  pair-within ms k (p ∷ ps) h none =
      let parts = if_none (is_over ms p) (Limit k) (limit_from (ms ++ tried_moves p) (k + 1) ps) none in
      subst (λ (l : List Placed). IsWithinLimit (total l account asset)) (append_assoc ms (tried_moves p) (flat_map tried_moves ps))
      (pair-within (ms ++ tried_moves p) (k + 1) ps (pair-more ms p h parts.0) parts.1)

-- ---- the accounts of a transaction

module _ (lent : ℕ → Option StripeState) (events : List Event) (ledger : List ℕ) where
  abbrev stripe_of : List ℕ → ℕ
  stripe_of account = stripe AccountClass ledger account

  -- the shard of the account's stripe is lent and is its part
  abbrev IsOwn : List ℕ → Type 0
  IsOwn account = IsOwnPart (stripe_of account) events (lent (stripe_of account))

  own-parts : (names : List (List ℕ)) → Each IsOwn names → All (IsPartOf lent ledger events) names
  own-parts [] h = All-nil (IsPartOf lent ledger events)
  own-parts (name ∷ names) h = All-cons (IsPartOf lent ledger events) name names (is-part (stripe_of name) events (lent (stripe_of name)) h.0) (own-parts names h.1)

  module _ (limits : AreLimited lent) where
    account-within : (account asset : List ℕ) → IsOwn account → IsWithinLimit (total (moves (log events ledger)) account asset)
    account-within account asset own = known-within (stripe_of account) ledger account asset events refl (lent (stripe_of account)) own (limits (stripe_of account) (below-sixteen AccountClass ledger account))

    postings-within : (ps : List Posting) → Each IsOwn (flat_map posting_accounts ps) → Each (IsPostingWithin (moves (log events ledger))) ps
    postings-within [] h = tt
    postings-within (p ∷ ps) h = (record { source = account-within p.source p.asset h.0; destination = account-within p.destination p.asset h.1.0 }, postings-within ps h.1.1)

    module _ (t : Transaction) (none : limit_from (moves (log events ledger)) 0 t.postings ≡ None) where
      one-within : (account asset : List ℕ) → IsOwn account → IsPairWithin lent ledger [] t (account, asset)
      one-within account asset own =
          subst IsWithinLimit
          (volumes-append (moves (log events ledger)) (flat_map tried_moves t.postings) (λ _. true) account asset
          ∙ ap (λ ms. sum_of (total_of ms) (total (flat_map tried_moves t.postings) account asset))
          (sym (append-nil (shard_moves (lent (stripe_of account)) ledger account asset) ∙ shown-moves (stripe_of account) ledger account asset events refl (lent (stripe_of account)) own)))
          (pair-within account asset (moves (log events ledger)) 0 t.postings (account-within account asset own) none)

      all-within : (ps : List Posting) → Each IsOwn (flat_map posting_accounts ps) → All (IsPairWithin lent ledger [] t) (flat_map posting_pairs ps)
      all-within [] h = All-nil (IsPairWithin lent ledger [] t)
      all-within (p ∷ ps) h =
          All-cons (IsPairWithin lent ledger [] t) (p.source, p.asset) ((p.destination, p.asset) ∷ flat_map posting_pairs ps) (one-within p.source p.asset h.0)
          (All-cons (IsPairWithin lent ledger [] t) (p.destination, p.asset) (flat_map posting_pairs ps) (one-within p.destination p.asset h.1.0) (all-within ps h.1.1))

-- ---- the ids of a log's transactions

all-there : {A : Type 0} (P : A → Type 0) (xs : List A) → ((k : ℕ) (x : A) → slice_get xs k ≡ Some x → P x) → All P xs
all-there P [] h = All-nil P
all-there P (x ∷ xs) h = All-cons P x xs (h 0 x refl) (all-there P xs (λ k y at. h (suc k) y at))

pub smaller-ids : (events : List Event) (ledger : List ℕ) (t : Transaction) → IsGrown events → is_misnumbered (log events ledger) (Some t) ≡ false → HasSmallerIds (log events ledger) t.id
smaller-ids events ledger t grown number =
    let sound : IsSound (log events ledger) = sound_log events ledger grown in
    all-there (HasSmallerId t.id) (transactions (log events ledger)) (λ k d at.
    let id : d.transaction.id ≡ suc k = sound.transaction_ids k d at in
    let within : k < length (transactions (log events ledger)) = slice_get_within (transactions (log events ledger)) k d at in
    let next : t.id ≡ length (transactions (log events ledger)) + 1 = next_id (log events ledger) t number in
    omega (arith, id, within, next))

-- ---- the accounts of a new entry

or_left : (a b : Bool) → a ≡ true → (a || b) ≡ true
or_left a b h = ap (λ c. c || b) h

or_right : (a b : Bool) → b ≡ true → (a || b) ≡ true
or_right true b h = refl
or_right false b h = h

each-own : (ledger : List ℕ) (names : List (List ℕ)) → Each (λ name. list_any (is_in (stripe AccountClass ledger name) ledger) (map account_resource names) ≡ true) names
each-own ledger [] = tt
each-own ledger (name ∷ names) = (
  or_left (nat_eq (stripe AccountClass ledger name) (stripe AccountClass ledger name)) _ (eq-eqb (stripe AccountClass ledger name) (stripe AccountClass ledger name) refl),
  each-map (λ other is. or_right (is_in (stripe AccountClass ledger other) ledger (account_resource name)) (list_any (is_in (stripe AccountClass ledger other) ledger) (map account_resource names)) is) names (each-own ledger names),
)

each-front : {A : Type 0} (P : A → Type 0) (xs ys : List A) → Each P (xs ++ ys) → Each P xs
each-front P [] ys h = tt
each-front P (x ∷ xs) ys h = (h.0, each-front P xs ys h.1)

-- an entry touches the stripes of the accounts of its transaction
entry-touches : (ledger : List ℕ) (e : Entry) → Each (λ name. touches (stripe AccountClass ledger name) (Logged ledger e) ≡ true) (transaction_accounts (body_transaction e.body))
entry-touches ledger e =
    each-front _ (transaction_accounts (body_transaction e.body)) (own_accounts e.body)
    (each-map (λ name is.
    list_any-append (is_in (stripe AccountClass ledger name) ledger) (map account_resource (entry_accounts e)) (map key_resource (entry_keys e) ++ map reference_resource (entry_references e))
    ∙ or_left (list_any (is_in (stripe AccountClass ledger name) ledger) (map account_resource (entry_accounts e))) _ is)
    (entry_accounts e) (each-own ledger (entry_accounts e)))

from-granted : (P : EntryBody → Type 0) (d : Decided) (body : EntryBody) → IfGranted P d → d ≡ Granted body → P body
from-granted P d body h is = subst (IfGranted P) is h

module _ (lent : ℕ → Option StripeState) (events : List Event) (ledger : List ℕ) (key : Option (List ℕ)) (write : Write) (ground : Ground lent events ledger key write) (date : ℤ) (body : EntryBody) (is : decided (log events ledger) date write ≡ Granted body) where
  pub body-fits : BodyFits (log events ledger) body
  body-fits = from-granted (BodyFits (log events ledger)) (decided (log events ledger) date write) body (decided-fits (log events ledger) date write) is

  pub body-needs : NeedsAlike (log events ledger) date ledger key write body
  body-needs = from-granted (NeedsAlike (log events ledger) date ledger key write) (decided (log events ledger) date write) body (granted-needs (log events ledger) date ledger key write) is

  body-own : Each (IsOwn lent events ledger) (transaction_accounts (body_transaction body))
  body-own =
      each-map (λ name touched. ground.parts.each (stripe AccountClass ledger name) (sym (body-needs (stripe AccountClass ledger name)) ∙ touched))
      (transaction_accounts (body_transaction body)) (entry-touches ledger (new_entry (log events ledger) date (marked key write) body))

  -- the totals of its accounts are within the limit
  pub body-within : AreAccountsWithin (moves (log events ledger)) (body_transaction body)
  body-within = by_transaction (body_transaction body) body-own
    where
      by_transaction : (o : Option Transaction) → Each (IsOwn lent events ledger) (transaction_accounts o) → AreAccountsWithin (moves (log events ledger)) o
      by_transaction None own = tt
      by_transaction (Some t) own = postings-within lent events ledger ground.limits t.postings own

  -- its volumes can be shown
  pub body-shown : MayShowBody lent events ledger body
  body-shown = by_transaction (body_transaction body) body-own body-fits.number body-fits.limit
    where
      by_transaction : (o : Option Transaction) → Each (IsOwn lent events ledger) (transaction_accounts o) → is_misnumbered (log events ledger) o ≡ false → is_over_limit (log events ledger) o ≡ false → IfSome o (MayShow lent events ledger)
      by_transaction None own number limit = tt
      by_transaction (Some t) own number limit = record {
        parts = own-parts lent events ledger (transaction_accounts (Some t)) own;
        limit = all-within lent events ledger ground.limits t (no_some (limit_from (moves (log events ledger)) 0 t.postings) limit) t.postings own;
        ids = smaller-ids events ledger t ground.grown number;
      }

-- ---- the volumes of a new entry

module _ (lent : ℕ → Option StripeState) (ledger : List ℕ) (t : Transaction) (volumes : FirstVolumes) where
  -- what is read of the shards shows the transaction's volumes
  abbrev pub Shown : Type 0
  Shown = (events : List Event) (e : Entry) → body_transaction e.body ≡ Some t → AreParts lent ledger events t → HasSmallerIds (log events ledger ++ []) t.id → volumes ≡ entry_volumes ((log events ledger ++ []) ++ e ∷ []) e

  pub shown-volumes : (events : List Event) (e : Entry) → Shown → body_transaction e.body ≡ Some t → MayShow lent events ledger t → volumes ≡ entry_volumes (log events ledger ++ e ∷ []) e
  shown-volumes events e shown is may =
      subst (λ g. volumes ≡ entry_volumes (g ++ e ∷ []) e) (append-nil (log events ledger))
      (shown events e is may.parts (subst (λ g. HasSmallerIds g t.id) (sym (append-nil (log events ledger))) may.ids))
