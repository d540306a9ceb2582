-- What a ledger grants fits its log.
use Rattle.std.proofs.Common.{◌≡◌, ℕ, ◌+◌, ℤ, Bool, true, false, cond, List, [], ◌∷◌, ◌++◌, Option, Some, None, refl, ap, ◌∙◌}
use Rattle.std.specs.Prelude.{is_some, is_none, if◌then◌else◌}
use Rattle.std.specs.Option.{option_map}
use Rattle.std.specs.Str.{bytes_eq}
use Rattle.lg_types.specs.declared.calls.Write.{Write}
use Rattle.lg_types.specs.declared.calls.Write.TheVariants.{Create, Revert, SetMeta, DropMeta}
use Rattle.lg_types.specs.declared.records.Entry.{Entry}
use Rattle.lg_types.specs.declared.records.EntryBody.{EntryBody}
use Rattle.lg_types.specs.declared.records.EntryBody.TheVariants.{SetMetadata, DeleteMetadata}
use Rattle.lg_types.specs.declared.records.KeyMark.{KeyMark}
use Rattle.lg_types.specs.declared.records.Posting.{Posting}
use Rattle.lg_types.specs.declared.records.Target.TheVariants.{Account, Transaction as TransactionOf}
use Rattle.lg_types.specs.declared.refusals.Refusal.{Refusal}
use Rattle.lg_types.specs.declared.refusals.Refusal.TheVariants.{Used, Limit, KeyInput}
use Rattle.lg_types.specs.Lists.{or_else}
use Rattle.lg_types.specs.Known.{Dated, Undoing, kept, used, find_transaction, undone, next_transaction, date}
use Rattle.lg_types.specs.Moves.{Placed, moves}
use Rattle.lg_types.specs.Chain.{input_hash}
use Rattle.lg_types.specs.Trial.{trial, trial_from, limit_from, balances_from, revert_trial, reverting, lacks, lack_of, is_over, tried_moves}
use Rattle.lg_views.specs.declared.decided.Decided.{Decided}
use Rattle.lg_views.specs.declared.decided.Decided.TheVariants.{Denied, Granted}
use Rattle.lg_views.specs.declared.decided.Written.{Written}
use Rattle.lg_views.specs.declared.decided.Written.TheVariants.{Refuses, Finds, Appends}
use Rattle.lg_views.specs.Import.{fault, has_used_key, has_used_reference}
use Rattle.lg_views.specs.Writes.{decided, granted_unless, is_used, revert_decided, revert_body, if_transaction, marked, appended_if, found_if, found, written_by, written}
use Rattle.lg_views.proofs.TestAnswers.{not_same_number, none_there, some_there, both_false}
use Rattle.lg_views.proofs.Follows.{BodyFits, entry-fits}

abbrev pub IfGranted : (EntryBody → Type 0) → Decided → Type 0
IfGranted P (Denied refusal) = Unit {0}
IfGranted P (Granted body) = P body

pub if_granted_unless : (P : EntryBody → Type 0) (o : Option Refusal) (body : EntryBody) → (o ≡ None → P body) → IfGranted P (granted_unless o body)
if_granted_unless P None body h = h refl
if_granted_unless P (Some refusal) body h = tt

or_else-first : {A : Type 0} (a b : Option A) → or_else a b ≡ None → a ≡ None
or_else-first None b h = refl
or_else-first (Some x) b h = h

or_else-second : {A : Type 0} (a b : Option A) → or_else a b ≡ None → b ≡ None
or_else-second None b h = h
or_else-second {A} (Some x) b h = absurd (let f : ◌≡◌ {A = Option A} (Some x) None = h in cc)

option_map-none : {A B : Type 0} (f : A → B) (o : Option A) → option_map f o ≡ None → is_some o ≡ false
option_map-none f None h = refl
option_map-none {B = B} f (Some x) h = absurd (let e : ◌≡◌ {A = Option B} (Some (f x)) None = h in cc)

not_used : (g : List Entry) (reference : Option (List ℕ)) → is_used g reference ≡ None → has_used_reference g reference ≡ false
not_used g None h = refl
not_used g (Some reference) h = option_map-none (Used reference) (used g reference) h

if_none : {A : Type 0} (b : Bool) (x : A) (o : Option A) → (if b then Some x else o) ≡ None → (b ≡ false) × (o ≡ None)
if_none {A} true x o h = absurd (let f : ◌≡◌ {A = Option A} (Some x) None = h in cc)
if_none false x o h = (refl, h)

-- postings that pass the trial don't pass the limit
limit_of_trial : (ms : List Placed) (k : ℕ) (ps : List Posting) (force : Bool) → trial_from ms k ps force ≡ None → limit_from ms k ps ≡ None
limit_of_trial ms k [] force h = refl
limit_of_trial ms k (p ∷ ps) force h =
    let first = if_none (lacks ms force p) (lack_of ms k p) (if is_over ms p then Some (Limit k) else trial_from (ms ++ tried_moves p) (k + 1) ps force) h in
    let second = if_none (is_over ms p) (Limit k) (trial_from (ms ++ tried_moves p) (k + 1) ps force) first.1 in
    ap (λ b. cond b (Some (Limit k)) (limit_from (ms ++ tried_moves p) (k + 1) ps)) second.0 ∙ limit_of_trial (ms ++ tried_moves p) (k + 1) ps force second.1

revert-fits : (g : List Entry) (date : ℤ) (id : ℕ) (force at_effective_date : Bool) (o : Option Dated) (u : Option Undoing)
    → find_transaction g id ≡ o → undone g id ≡ u → IfGranted (BodyFits g) (revert_decided g date id force at_effective_date o u)
revert-fits g date id force at_effective_date None u e f = tt
revert-fits g date id force at_effective_date (Some d) (Some v) e f = tt
revert-fits g date id force at_effective_date (Some d) None e f =
    if_granted_unless (BodyFits g) (revert_trial g (reverting d.transaction.postings) force) (revert_body g date id at_effective_date d) (λ h. record {
      reference = refl;
      number = not_same_number (next_transaction g);
      revert = both_false (is_none (find_transaction g id)) (is_some (undone g id)) (some_there (find_transaction g id) d e) (none_there (undone g id) f);
      target = refl;
      limit = none_there (limit_from (moves g) 0 (reverting d.transaction.postings)) (or_else-first (limit_from (moves g) 0 (reverting d.transaction.postings)) (balances_from (moves g) (reverting d.transaction.postings) force) h);
    })

set-fits : (g : List Entry) (id : ℕ) (o : Option Dated) (body : EntryBody) → (is_none (find_transaction g id) ≡ false → BodyFits g body) → find_transaction g id ≡ o → IfGranted (BodyFits g) (if_transaction id o body)
set-fits g id None body h e = tt
set-fits g id (Some d) body h e = h (some_there (find_transaction g id) d e)

-- what a ledger grants may be its next entry
pub decided-fits : (g : List Entry) (date : ℤ) (write : Write) → IfGranted (BodyFits g) (decided g date write)
decided-fits g date (Create postings reference timestamp metadata accounts force) =
    if_granted_unless (BodyFits g) (or_else (trial g postings force) (is_used g reference)) _ (λ h. record {
      reference = not_used g reference (or_else-second (trial g postings force) (is_used g reference) h);
      number = not_same_number (next_transaction g);
      revert = refl;
      target = refl;
      limit = none_there (limit_from (moves g) 0 postings) (limit_of_trial (moves g) 0 postings force (or_else-first (trial g postings force) (is_used g reference) h));
    })
decided-fits g date (Revert id force at_effective_date) = revert-fits g date id force at_effective_date (find_transaction g id) (undone g id) refl refl
decided-fits g date (SetMeta (Account address) metadata) = record { reference = refl; number = refl; revert = refl; target = refl; limit = refl }
decided-fits g date (SetMeta (TransactionOf id) metadata) = set-fits g id (find_transaction g id) (SetMetadata (TransactionOf id) metadata) (λ h. record { reference = refl; number = refl; revert = refl; target = h; limit = refl }) refl
decided-fits g date (DropMeta (Account address) name) = record { reference = refl; number = refl; revert = refl; target = refl; limit = refl }
decided-fits g date (DropMeta (TransactionOf id) name) = set-fits g id (find_transaction g id) (DeleteMetadata (TransactionOf id) name) (λ h. record { reference = refl; number = refl; revert = refl; target = h; limit = refl }) refl

-- what a write appends may follow the log
abbrev pub Fits : List Entry → Written → Type 0
Fits g (Refuses refusal) = Unit {0}
Fits g (Finds e) = Unit {0}
Fits g (Appends e) = fault g e ≡ None

appended-fits : (g : List Entry) (now : ℤ) (mark : Option KeyMark) (d : Decided) → has_used_key g mark ≡ false → IfGranted (BodyFits g) d → Fits g (appended_if g (date g now) mark d)
appended-fits g now mark (Denied refusal) key h = tt
appended-fits g now mark (Granted body) key h = entry-fits g now mark body key h

either-fits : (g : List Entry) (e : Entry) (refusal : Refusal) (b : Bool) → Fits g (if b then Finds e else Refuses refusal)
either-fits g e refusal true = tt
either-fits g e refusal false = tt

found-fits : (g : List Entry) (mark : Option KeyMark) (given : List ℕ) (e : Entry) → Fits g (found_if mark given e)
found-fits g None given e = tt
found-fits g (Some mark) given e = either-fits g e (KeyInput mark.key mark.input_hash given) (bytes_eq mark.input_hash given)

not_kept : (g : List Entry) (key : Option (List ℕ)) (write : Write) → found g key ≡ None → has_used_key g (marked key write) ≡ false
not_kept g None write h = refl
not_kept g (Some key) write h = none_there (kept g key) h

by-fits : (g : List Entry) (key : Option (List ℕ)) (write : Write) (now : ℤ) (o : Option Entry) → found g key ≡ o → Fits g (written_by g key write (date g now) o)
by-fits g key write now (Some e) h = found-fits g e.mark (input_hash write) e
by-fits g key write now None h = appended-fits g now (marked key write) (decided g (date g now) write) (not_kept g key write h) (decided-fits g (date g now) write)

pub written-fits : (g : List Entry) (key : Option (List ℕ)) (write : Write) (now : ℤ) → Fits g (written g key write now)
written-fits g key write now = by-fits g key write now (found g key) refl
