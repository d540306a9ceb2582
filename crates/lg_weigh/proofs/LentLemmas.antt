-- Stripes that are lent, and the resources whose stripes they are.
use Rattle.std.proofs.Common.{◌≡◌, ℕ, ◌<◌, Bool, true, false, ◌||◌, List, [], ◌∷◌, ◌++◌, map, Option, Some, None, refl, ◌∙◌, ap, arith}
use Rattle.std.specs.Prelude.{All, IsTrue, IsSome, IsSomeAnd, nat_eq}
use Rattle.std.specs.List.{list_any, flat_map}
use Rattle.std.proofs.Math.Nat.{mod-lt}
use Rattle.std.proofs.lemmas.Bool.{eq-eqb}
use Rattle.std.proofs.lemmas.Bool.Decides.{nat_tests}
use Rattle.std.proofs.lemmas.List.{map-append}
use Rattle.std.proofs.lemmas.List.Elements.{All-nil, All-cons}
use Rattle.std.proofs.lemmas.List.Folds.{list_any-append}
use Rattle.lg_containers.specs.NameTable.{keys}
use Rattle.lg_shard.specs.State.{StripeState}
use Rattle.lg_sheet.specs.Trials.{OfBoth}
use Rattle.lg_types.specs.declared.calls.Write.{Write}
use Rattle.lg_types.specs.declared.calls.Write.TheVariants.{Create, Revert, SetMeta, DropMeta}
use Rattle.lg_types.specs.declared.calls.Call.{Call}
use Rattle.lg_types.specs.declared.classes.Class.{Class}
use Rattle.lg_types.specs.declared.classes.Class.TheVariants.{Account as AccountClass}
use Rattle.lg_types.specs.declared.records.Event.{Event}
use Rattle.lg_types.specs.declared.records.Posting.{Posting}
use Rattle.lg_types.specs.declared.records.Transaction.{Transaction}
use Rattle.lg_types.specs.Known.{posting_accounts}
use Rattle.lg_types.specs.Parts.{Resource, account_resource, is_in, part_of}
use Rattle.lg_types.specs.Stripes.{stripe, fnv1a, resource_bytes}
use Rattle.lg_weigh.specs.Lent.{stripes_with, AreLent, AreParts}
use Rattle.lg_weigh.specs.Reach.{Reach, Nothing, Resources, Everything, write_accounts, reach, has_reach, needs}
use Rattle.lg_weigh.specs.Trials.{named_postings}

pub stripe_below : (class : Class) (ledger name : List ℕ) → stripe class ledger name < 16
unfolding stripe
stripe_below class ledger name = mod-lt (fnv1a (resource_bytes class ledger name)) (omega arith)

-- ---- stripes of a part of the resources

or_left : (a b : Bool) → IsTrue a → IsTrue (a || b)
or_left true b h = refl
or_left false b h = absurd (let no : false ≡ true = h in cc)

or_right : (a b : Bool) → IsTrue b → IsTrue (a || b)
or_right true b h = refl
or_right false b h = h

module _ (ledger : List ℕ) (first second : List Resource) where
  in_first : (k : ℕ) → IsTrue (stripes_with ledger first k) → IsTrue (stripes_with ledger (first ++ second) k)
  in_first k h = list_any-append (is_in k ledger) first second ∙ or_left (list_any (is_in k ledger) first) (list_any (is_in k ledger) second) h

  in_second : (k : ℕ) → IsTrue (stripes_with ledger second k) → IsTrue (stripes_with ledger (first ++ second) k)
  in_second k h = list_any-append (is_in k ledger) first second ∙ or_right (list_any (is_in k ledger) first) (list_any (is_in k ledger) second) h

  pub lent_first : (lent : ℕ → Option StripeState) → AreLent (stripes_with ledger (first ++ second)) lent → AreLent (stripes_with ledger first) lent
  lent_first lent h = record { each = λ k wanted. h.each k (in_first k wanted) }

  pub lent_second : (lent : ℕ → Option StripeState) → AreLent (stripes_with ledger (first ++ second)) lent → AreLent (stripes_with ledger second) lent
  lent_second lent h = record { each = λ k wanted. h.each k (in_second k wanted) }

  pub parts_first : (lent : ℕ → Option StripeState) (events : List Event) → AreParts (stripes_with ledger (first ++ second)) lent events → AreParts (stripes_with ledger first) lent events
  parts_first lent events h = record { each = λ k wanted. h.each k (in_first k wanted) }

  pub parts_second : (lent : ℕ → Option StripeState) (events : List Event) → AreParts (stripes_with ledger (first ++ second)) lent events → AreParts (stripes_with ledger second) lent events
  parts_second lent events h = record { each = λ k wanted. h.each k (in_second k wanted) }

-- ---- the stripe of the first resource

eq_self : (n : ℕ) → IsTrue (nat_eq n n)
eq_self n = eq-eqb n n refl

module _ (ledger : List ℕ) (r : Resource) (rest : List Resource) where
  in_own : IsTrue (stripes_with ledger (r ∷ rest) (stripe r.class ledger r.name))
  in_own = or_left (is_in (stripe r.class ledger r.name) ledger r) (list_any (is_in (stripe r.class ledger r.name) ledger) rest) (eq_self (stripe r.class ledger r.name))

  pub lent_own : (lent : ℕ → Option StripeState) → AreLent (stripes_with ledger (r ∷ rest)) lent → IsSome (lent (stripe r.class ledger r.name))
  lent_own lent h = h.each (stripe r.class ledger r.name) in_own

  pub part_own : (lent : ℕ → Option StripeState) (events : List Event) → AreParts (stripes_with ledger (r ∷ rest)) lent events
      → IsSomeAnd (lent (stripe r.class ledger r.name)) (λ state. state.shares ≡ part_of (stripe r.class ledger r.name) events)
  part_own lent events h = h.each (stripe r.class ledger r.name) in_own

-- ---- the accounts of postings

-- the resources of their accounts
abbrev pub posting_resources : List Posting → List Resource
posting_resources ps = map account_resource (flat_map posting_accounts ps)

-- what holds of each account whose stripe is among those of the postings holds of both accounts of each posting
pub of_postings : (ledger : List ℕ) (P : List ℕ → List ℕ → Type 0) (ps : List Posting)
    → ((account asset : List ℕ) → IsTrue (stripes_with ledger (posting_resources ps) (stripe AccountClass ledger account)) → P account asset) → All (OfBoth P) ps
of_postings ledger P [] h = All-nil (OfBoth P)
of_postings ledger P (p ∷ ps) h =
    All-cons (OfBoth P) p ps
    (record {
      source = h p.source p.asset (in_own ledger (account_resource p.source) (account_resource p.destination ∷ posting_resources ps));
      destination = h p.destination p.asset (behind p.source (stripe AccountClass ledger p.destination) (account_resource p.destination ∷ posting_resources ps) (in_own ledger (account_resource p.destination) (posting_resources ps)));
    })
    (of_postings ledger P ps (λ account asset wanted.
    h account asset (behind p.source (stripe AccountClass ledger account) (account_resource p.destination ∷ posting_resources ps) (behind p.destination (stripe AccountClass ledger account) (posting_resources ps) wanted))))
  where
    behind : (name : List ℕ) (k : ℕ) (rest : List Resource) → IsTrue (stripes_with ledger rest k) → IsTrue (stripes_with ledger (account_resource name ∷ rest) k)
    behind name k rest wanted = or_right (is_in k ledger (account_resource name)) (list_any (is_in k ledger) rest) wanted

-- the accounts of the postings that a write names are among those that it names
pub named_wanted : (ledger : List ℕ) (write : Write) (known : Option Transaction) (k : ℕ) → IsTrue (stripes_with ledger (posting_resources (named_postings write known)) k)
    → IsTrue (stripes_with ledger (map account_resource (write_accounts write known)) k)
named_wanted ledger (Create postings reference timestamp metadata accounts force) known k h =
    ap (list_any (is_in k ledger)) (map-append account_resource (flat_map posting_accounts postings) (keys accounts))
    ∙ in_first ledger (posting_resources postings) (map account_resource (keys accounts)) k h
named_wanted ledger (Revert id force at_effective_date) None k h = absurd (let no : false ≡ true = h in cc)
named_wanted ledger (Revert id force at_effective_date) (Some t) k h = h
named_wanted ledger (SetMeta target metadata) known k h = absurd (let no : false ≡ true = h in cc)
named_wanted ledger (DropMeta target name) known k h = absurd (let no : false ≡ true = h in cc)

-- ---- all sixteen stripes

in_below : (ledger : List ℕ) (rs : List Resource) (k : ℕ) → IsTrue (stripes_with ledger rs k) → k < 16
in_below ledger [] k h = absurd (let no : false ≡ true = h in cc)
in_below ledger (r ∷ rs) k h = by_own (is_in k ledger r) refl (in_below ledger rs k) h
  where
    by_own : (b : Bool) → is_in k ledger r ≡ b → (IsTrue (stripes_with ledger rs k) → k < 16) → IsTrue (b || list_any (is_in k ledger) rs) → k < 16
    by_own true own later wanted = let below = stripe_below r.class ledger r.name in grind (arith, nat_tests, own, below)
    by_own false own later wanted = later wanted

reach_below : (k : ℕ) (reach : Reach) → IsTrue (has_reach k reach) → k < 16
reach_below k Nothing h = absurd (let no : false ≡ true = h in cc)
reach_below k (Resources ledger resources) h = in_below ledger resources k h
reach_below k Everything h = grind (arith, nat_tests, h)

-- where all sixteen are lent, those that a call needs are lent
pub all_lent : (lent : ℕ → Option StripeState) (call : Call) (known : Option Transaction) → ((k : ℕ) → k < 16 → IsSome (lent k)) → AreLent (needs call known) lent
all_lent lent call known h = record { each = λ k wanted. h k (reach_below k (reach call known) wanted) }
