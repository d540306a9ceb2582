-- An entry that may be the next of its ledger's log may be prepared on each shard.
use Rattle.std.proofs.Common.{◌≡◌, ℕ, zero, suc, ◌+◌, ◌-◌, ◌^◌, ◌<◌, ◌≤◌, ℤ, ◌≤ℤ◌, Bool, true, false, cond, ◌&&◌, ◌||◌, List, [], ◌∷◌, ◌++◌, map, length, take, slice_get, IfSome, Option, Some, None, refl, sym, ap, subst, ◌∙◌, inl, inr, append_assoc, length-append, arith}
use Rattle.std.specs.Prelude.{◌⊎◌, if◌then◌else◌, nat_eq, int_lt, is_some, slice_index_or}
use Rattle.std.specs.Option.{option_map, option_or, option_to_list}
use Rattle.std.specs.List.{flat_map, filter, find, list_any, last_or}
use Rattle.std.specs.Str.{bytes_eq}
use Rattle.std.proofs.lemmas.Int.{ints}
use Rattle.std.proofs.lemmas.Bool.{eqb-true, leb-false}
use Rattle.std.proofs.lemmas.List.{append-nil, take_all}
use Rattle.std.proofs.lemmas.List.Folds.{find-append}
use Rattle.std.proofs.lemmas.Grind.{flat_map-append}
use Rattle.lg_base.specs.Volumes.{sum_of, IsWithinLimit}
use Rattle.lg_containers.specs.NameTable.{pairs_of}
use Rattle.lg_types.specs.declared.classes.Class.TheVariants.{Account as AccountClass, Key as KeyClass, Reference as ReferenceClass}
use Rattle.lg_types.specs.declared.moves.Move.{Move}
use Rattle.lg_types.specs.declared.records.Entry.{Entry}
use Rattle.lg_types.specs.declared.records.EntryBody.{EntryBody}
use Rattle.lg_types.specs.declared.records.EntryBody.TheVariants.{NewTransaction, SetMetadata, Reverted, DeleteMetadata}
use Rattle.lg_types.specs.declared.records.Event.{Event}
use Rattle.lg_types.specs.declared.records.Event.TheVariants.{Made, Logged}
use Rattle.lg_types.specs.declared.records.KeyMark.{KeyMark}
use Rattle.lg_types.specs.declared.records.Posting.{Posting}
use Rattle.lg_types.specs.declared.records.Target.{Target}
use Rattle.lg_types.specs.declared.records.Target.TheVariants.{Account, Transaction as TransactionOf}
use Rattle.lg_types.specs.declared.records.Transaction.{Transaction}
use Rattle.lg_types.specs.declared.refusals.Refusal.TheVariants.{Limit}
use Rattle.lg_types.specs.Changes.{MetaOf, Change, account_change, body_changes, entry_changes, changes, same_target, is_about}
use Rattle.lg_types.specs.Known.{marking, markings, entry_markings, is_marking_of, is_mark_of, has_key as entry_has_key, kept, Referred, referred_by, references, is_referred_as, transaction_of, used, transaction_references, transactions, entry_transactions, Dated, dated, next_entry}
use Rattle.lg_types.specs.Lists.{Each, last_of}
use Rattle.lg_types.specs.Log.{log, logged}
use Rattle.lg_types.specs.Moves.{Placed, what_of, is_of, out_move, in_move, posting_moves, transaction_moves, body_transaction, entry_moves, moves, pair_moves, total}
use Rattle.lg_types.specs.Parts.{has_account, has_target, has_change, has_move, has_key, has_reference, part_of, part_moves, part_changes, part_markings, part_references}
use Rattle.lg_types.specs.Stripes.{stripe}
use Rattle.lg_types.specs.Tally.{total_of}
use Rattle.lg_types.specs.Trial.{passes_limit, tried_moves, lacks, lack_of, is_over, trial_from, limit_from}
use Rattle.lg_types.proofs.Eachs.{each-map, each-append}
use Rattle.lg_types.proofs.Limits.{total-posting, total-tried}
use Rattle.lg_types.proofs.MoveSums.{tally-append, pair_moves-append, volumes-append, moves-snoc}
use Rattle.lg_types.proofs.StripeKnows.{filter-within, knows-moves, knows-changes, knows-keys, knows-references}
use Rattle.lg_meta.specs.declared.change.DatedChange.{DatedChange}
use Rattle.lg_meta.specs.MetaFold.{dated_change, last_date}
use Rattle.lg_moves.specs.Moves.{ComesNext}
use Rattle.lg_views.specs.Import.{is_before, is_misnumbered, has_used_key, has_used_reference, is_referred, is_over_limit, causes}
use Rattle.lg_views.proofs.TestAnswers.{AllFalse, all_false, not_false, bytes_same}
use Rattle.lg_book.specs.Following.{MayFollowLog, MayFollow, IsGrown}
use Rattle.lg_shard.specs.Holdings.{Holding, no_holding, ledger_holding, own_moves, own_changes, own_holding, MovesFollow, IsLater, ChangesFollow, IsNewKey, IsNewReference, HoldingFollows}
use Rattle.lg_shard.specs.Shown.{changes_on}
use Rattle.lg_shard.proofs.HistoryTies.{own-dated}
use Rattle.lg_shard.proofs.QuietLemmas.{holding-logged}
use Rattle.lg_plan.specs.Laws.{IsPostingWithin, AreAccountsWithin, MayEnter, EntryFollows, MadeFollows, FaultlessEnters, PartTotals, TotalsStayWithin, TriedWithinLimit}

-- ---- lists and logs with one item more

some-same : {A : Type 0} (x y : A) → ◌≡◌ {A = Option A} (Some x) (Some y) → x ≡ y
some-same x y h = cc

take-snoc : {A : Type 0} (k : ℕ) (xs : List A) (x : A) → slice_get xs k ≡ Some x → take (suc k) xs ≡ take k xs ++ x ∷ []
take-snoc {A} k [] x h = absurd (let f : ◌≡◌ {A = Option A} None (Some x) = h in cc)
take-snoc zero (y ∷ xs) x h = ap (λ v. v ∷ []) (some-same y x h)
take-snoc (suc k) (y ∷ xs) x h = ap (λ l. y ∷ l) (take-snoc k xs x h)

there-within : {A : Type 0} (k : ℕ) (xs : List A) → k < length xs → (x : A) × (slice_get xs k ≡ Some x)
there-within k [] h = absurd (omega arith)
there-within zero (x ∷ xs) h = (x, refl)
there-within (suc k) (x ∷ xs) h = there-within k xs (omega arith)

transactions-snoc : (g : List Entry) (e : Entry) → transactions (g ++ e ∷ []) ≡ transactions g ++ entry_transactions e
transactions-snoc g e = flat_map-append entry_transactions g (e ∷ []) ∙ ap (λ l. transactions g ++ l) (append-nil (entry_transactions e))

log-snoc : (ledger : List ℕ) (events : List Event) (event : Event) → log (events ++ event ∷ []) ledger ≡ log events ledger ++ logged ledger event
log-snoc ledger events event = flat_map-append (logged ledger) events (event ∷ []) ∙ ap (λ l. log events ledger ++ l) (append-nil (logged ledger event))

next_id : (g : List Entry) (t : Transaction) → is_misnumbered g (Some t) ≡ false → t.id ≡ length (transactions g) + 1
next_id g t h = eqb-true t.id (length (transactions g) + 1) (not_false (nat_eq t.id (length (transactions g) + 1)) h)

no_some : {A : Type 0} (o : Option A) → is_some o ≡ false → o ≡ None
no_some None h = refl
no_some (Some x) h = absurd (let f : true ≡ false = h in cc)

-- ---- moves that come next

record IsUpTo (id : ℕ) (date : ℤ) (m : Move) : Type 0 where
  transaction : m.transaction ≤ id
  inserted : m.inserted ≤ℤ date

record IsAt (id : ℕ) (date : ℤ) (m : Move) : Type 0 where
  transaction : m.transaction ≡ id
  inserted : m.inserted ≡ date

each-at : {A : Type 0} (P : A → Type 0) (xs : List A) (k : ℕ) (d : A) → Each P xs → k < length xs → P (slice_index_or xs k d)
each-at P [] k d h lt = absurd (omega arith)
each-at P (x ∷ xs) zero d h lt = h.0
each-at P (x ∷ xs) (suc k) d h lt = each-at P xs k d h.1 (omega arith)

comes-next : (before : List Move) (m : Move) (id : ℕ) (date : ℤ) → Each (IsUpTo id date) before → IsAt id date m → ComesNext before m
comes-next before m id date low at = record {
  transaction = λ d some. (let h = each-at (IsUpTo id date) before (length before - 1) d low (omega arith) in let a = h.transaction in let b = at.transaction in omega (arith, a, b));
  inserted = λ d some. (let h = each-at (IsUpTo id date) before (length before - 1) d low (omega arith) in subst (λ x. (slice_index_or before (length before - 1) d).inserted ≤ℤ x) (sym at.inserted) h.inserted);
}

within-front : (xs ys : List Move) → IsWithinLimit (total_of (xs ++ ys)) → IsWithinLimit (total_of xs)
within-front xs ys h =
    let both : IsWithinLimit (sum_of (total_of xs) (total_of ys)) = subst IsWithinLimit (tally-append (λ _. true) xs ys) h in
    record { input = (let a = both.input in omega (arith, a)); output = (let a = both.output in omega (arith, a)) }

up_to_self : (m : Move) (id : ℕ) (date : ℤ) → IsAt id date m → IsUpTo id date m
up_to_self m id date at = record { transaction = (let a = at.transaction in omega (arith, a)); inserted = (let a = at.inserted in grind (arith, ints, a)) }

moves-follow : (before new : List Move) (id : ℕ) (date : ℤ) → Each (IsUpTo id date) before → Each (IsAt id date) new → IsWithinLimit (total_of (before ++ new)) → MovesFollow before new
moves-follow before [] id date low at limit = tt
moves-follow before (m ∷ new) id date low at limit =
    let whole : IsWithinLimit (total_of (before ++ m ∷ [] ++ new)) = subst (λ (l : List Move). IsWithinLimit (total_of l)) (sym (append_assoc before (m ∷ []) new)) limit in (
      comes-next before m id date low at.0,
      within-front (before ++ m ∷ []) new whole,
      moves-follow (before ++ m ∷ []) new id date (each-append (IsUpTo id date) before (m ∷ []) low (up_to_self m id date at.0, tt)) at.1 whole,
    )

-- ---- the moves of a log that grew: none is of a later transaction or date

each-filter : {A : Type 0} (P : A → Type 0) (test : A → Bool) (xs : List A) → Each P xs → Each P (filter test xs)
each-filter P test [] h = tt
each-filter P test (x ∷ xs) h = by_test (test x) (each-filter P test xs h.1)
  where
    by_test : (b : Bool) → Each P (filter test xs) → Each P (cond b (x ∷ filter test xs) (filter test xs))
    by_test true rest = (h.0, rest)
    by_test false rest = rest

each-what : (P : Move → Type 0) (ms : List Placed) → Each (λ (m : Placed). P m.what) ms → Each P (map what_of ms)
each-what P [] h = tt
each-what P (m ∷ ms) h = (h.0, each-what P ms h.1)

each-pair : (P : Move → Type 0) (ms : List Placed) (account asset : List ℕ) → Each (λ (m : Placed). P m.what) ms → Each P (pair_moves ms account asset)
each-pair P ms account asset h = each-what P (filter (is_of account asset) ms) (each-filter (λ (m : Placed). P m.what) (is_of account asset) ms h)

-- no move and no change of metadata is dated later than a date that the log's last entry isn't after, and no move is of a later transaction
record IsLowAt (g : List Entry) (date : ℤ) : Type 0 where
  moved : Each (λ (m : Placed). IsUpTo (length (transactions g)) date m.what) (moves g)
  changed : Each (λ (c : Change). c.date ≤ℤ date) (changes g)

abbrev IsLow : List Entry → Type 0
IsLow g = (date : ℤ) → is_before (last_of g) date ≡ false → IsLowAt g date

given-dated : (date : ℤ) (given : List (List ℕ × MetaOf)) → Each (λ (c : Change). c.date ≡ date) (map (account_change date) given)
given-dated date [] = tt
given-dated date (p ∷ ps) = (refl, given-dated date ps)

-- the changes of an entry have its date
body-dated : (date : ℤ) (body : EntryBody) → Each (λ (c : Change). c.date ≡ date) (body_changes date body)
body-dated date (NewTransaction t given) = (refl, given-dated date (pairs_of given))
body-dated date (SetMetadata target metadata) = (refl, tt)
body-dated date (Reverted id t) = (refl, tt)
body-dated date (DeleteMetadata target name) = (refl, tt)

changes-snoc : (g : List Entry) (e : Entry) → changes (g ++ e ∷ []) ≡ changes g ++ entry_changes e
changes-snoc g e = flat_map-append entry_changes g (e ∷ []) ∙ ap (λ l. changes g ++ l) (append-nil (entry_changes e))

postings-at : (id : ℕ) (inserted effective : ℤ) (ps : List Posting) → Each (λ (m : Placed). IsAt id inserted m.what) (flat_map (posting_moves id inserted effective) ps)
postings-at id inserted effective [] = tt
postings-at id inserted effective (p ∷ ps) = (record { transaction = refl; inserted = refl }, (record { transaction = refl; inserted = refl }, postings-at id inserted effective ps))

transaction-up : (g : List Entry) (e : Entry) (o : Option Transaction) (date : ℤ) → is_misnumbered g o ≡ false → e.date ≤ℤ date
    → Each (λ (m : Placed). IsUpTo (length (transactions g ++ dated e.date o)) date m.what) (transaction_moves e.date o)
transaction-up g e None date h le = tt
transaction-up g e (Some t) date h le =
    each-map (λ (m : Placed) at. later m.what at) (flat_map (posting_moves t.id e.date t.timestamp) t.postings) (postings-at t.id e.date t.timestamp t.postings)
  where
    later : (m : Move) → IsAt t.id e.date m → IsUpTo (length (transactions g ++ dated e.date (Some t))) date m
    later m at = record {
      transaction = (let a = at.transaction in let b = next_id g t h in let n = length-append (transactions g) (dated e.date (Some t)) in omega (arith, a, b, n));
      inserted = subst (λ x. x ≤ℤ date) (sym at.inserted) le;
    }

last-snoc : {A : Type 0} (o : Option A) (xs : List A) (x : A) → last_or o (xs ++ x ∷ []) ≡ Some x
last-snoc o [] x = refl
last-snoc o (y ∷ xs) x = last-snoc (Some y) xs x

not-less : (a b : ℤ) → int_lt a b ≡ false → b ≤ℤ a
not-less a b h = grind (arith, ints)

later-date : (a b c : ℤ) → a ≤ℤ b → b ≤ℤ c → a ≤ℤ c
later-date a b c h k = omega (arith, ints)

up-more : (id more : ℕ) (date later : ℤ) (m : Move) → id ≤ more → date ≤ℤ later → IsUpTo id date m → IsUpTo more later m
up-more id more date later m le after h = record { transaction = (let a = h.transaction in omega (arith, a)); inserted = later-date m.inserted date later h.inserted after }

count-more : (g : List Entry) (e : Entry) → length (transactions g) ≤ length (transactions (g ++ e ∷ []))
count-more g e = let h = ap length (transactions-snoc g e) in let k = length-append (transactions g) (entry_transactions e) in omega (arith, h, k)

low-snoc : (g : List Entry) (e : Entry) → IsLow g → MayFollowLog g e → IsLow (g ++ e ∷ [])
low-snoc g e h f = λ date after.
    let le : e.date ≤ℤ date = not-less date e.date (subst (λ o. is_before o date ≡ false) (last-snoc None g e) after) in
    let P : Placed → Type 0 = λ m. IsUpTo (length (transactions (g ++ e ∷ []))) date m.what in
    let Q : Change → Type 0 = λ c. c.date ≤ℤ date in
    record {
      moved = subst (Each P) (sym (moves-snoc g e))
          (each-append P (moves g) (entry_moves e)
          (each-map (λ (m : Placed) up. up-more (length (transactions g)) (length (transactions (g ++ e ∷ []))) e.date date m.what (count-more g e) le up) (moves g) (h e.date f.date).moved)
          (subst (λ (ts : List Dated). Each (λ (m : Placed). IsUpTo (length ts) date m.what) (entry_moves e)) (sym (transactions-snoc g e)) (transaction-up g e (body_transaction e.body) date f.transaction le)));
      changed = subst (Each Q) (sym (changes-snoc g e))
          (each-append Q (changes g) (entry_changes e)
          (each-map (λ (c : Change) at. later-date c.date e.date date at le) (changes g) (h e.date f.date).changed)
          (each-map (λ (c : Change) is. subst (λ x. x ≤ℤ date) (sym is) le) (entry_changes e) (body-dated e.date e.body)));
    }

low-more : (ledger : List ℕ) (events : List Event) (event : Event) → IsLow (log events ledger) → MayFollow events event → IsLow (log events ledger ++ logged ledger event)
low-more ledger events (Made info) h f = subst IsLow (sym (append-nil (log events ledger))) h
low-more ledger events (Logged name e) h f = by_test (bytes_eq name ledger) refl
  where
    by_test : (b : Bool) → bytes_eq name ledger ≡ b → IsLow (log events ledger ++ cond b (e ∷ []) [])
    by_test true is = low-snoc (log events ledger) e h (subst (λ n. MayFollowLog (log events n) e) (bytes_same name ledger is) f.1)
    by_test false is = subst IsLow (sym (append-nil (log events ledger))) h

low-take : (all : List Event) → IsGrown all → (ledger : List ℕ) (k : ℕ) → k ≤ length all → IsLow (log (take k all) ledger)
low-take all h ledger zero le = λ date after. record { moved = tt; changed = tt }
low-take all h ledger (suc k) le =
    let at = there-within k all (omega arith) in
    subst IsLow (sym (ap (λ es. log es ledger) (take-snoc k all at.0 at.1) ∙ log-snoc ledger (take k all) at.0))
    (low-more ledger (take k all) at.0 (low-take all h ledger k (omega arith)) (h.each k at.0 at.1))

low-log : (all : List Event) (ledger : List ℕ) → IsGrown all → IsLow (log all ledger)
low-log all ledger h = subst (λ (es : List Event). IsLow (log es ledger)) (take_all (length all) all (omega arith)) (low-take all h ledger (length all) (omega arith))

-- ---- totals that stay within the limit

if-none : {A : Type 0} (b : Bool) (x : A) (o : Option A) → cond b (Some x) o ≡ None → (b ≡ false) × (o ≡ None)
if-none {A} true x o h = absurd (let f : ◌≡◌ {A = Option A} (Some x) None = h in cc)
if-none false x o h = (refl, h)

neither : (a b : Bool) → (a || b) ≡ false → (a ≡ false) × (b ≡ false)
neither true b h = absurd (let f : true ≡ false = h in cc)
neither false b h = (refl, h)

both : (a b : Bool) → (a && b) ≡ true → (a ≡ true) × (b ≡ true)
both true b h = (refl, h)
both false b h = absurd (let f : false ≡ true = h in cc)

below-limit : (n : ℕ) → passes_limit n ≡ false → n < 2 ^ 127
below-limit n h = leb-false (2 ^ 127) n h

-- an amount that is added where a test holds keeps a bound that holds there with it
added : (b : Bool) (n m bound : ℕ) → n < bound → (b ≡ true → n + m < bound) → n + cond b m 0 < bound
added true n m bound h k = k refl
added false n m bound h k = omega (arith, h)

-- one posting that doesn't pass the limit leaves the total of an account and an asset within it
pair-more : (ms : List Placed) (p : Posting) (account asset : List ℕ) → IsWithinLimit (total ms account asset) → is_over ms p ≡ false → IsWithinLimit (total (ms ++ tried_moves p) account asset)
pair-more ms p account asset h over =
    subst IsWithinLimit (sym (volumes-append ms (tried_moves p) (λ _. true) account asset ∙ ap (sum_of (total ms account asset)) (total-posting 0 _ _ p account asset))) (record {
      input = added (bytes_eq p.destination account && bytes_eq p.asset asset) (total ms account asset).input p.amount (2 ^ 127) h.input
          (λ t. let eqs = both (bytes_eq p.destination account) (bytes_eq p.asset asset) t in
          subst (λ a. (total ms a asset).input + p.amount < 2 ^ 127) (bytes_same p.destination account eqs.0)
          (subst (λ s. (total ms p.destination s).input + p.amount < 2 ^ 127) (bytes_same p.asset asset eqs.1) (below-limit _ limits.1)));
      output = added (bytes_eq p.source account && bytes_eq p.asset asset) (total ms account asset).output p.amount (2 ^ 127) h.output
          (λ t. let eqs = both (bytes_eq p.source account) (bytes_eq p.asset asset) t in
          subst (λ a. (total ms a asset).output + p.amount < 2 ^ 127) (bytes_same p.source account eqs.0)
          (subst (λ s. (total ms p.source s).output + p.amount < 2 ^ 127) (bytes_same p.asset asset eqs.1) (below-limit _ limits.0)));
    })
  where
    limits : (passes_limit ((total ms p.source p.asset).output + p.amount) ≡ false) × (passes_limit ((total ms p.destination p.asset).input + p.amount) ≡ false)
    limits = neither _ _ over

pair-within : (ms : List Placed) (k : ℕ) (ps : List Posting) (account asset : List ℕ) → IsWithinLimit (total ms account asset) → limit_from ms k ps ≡ None → IsWithinLimit (total (ms ++ flat_map tried_moves ps) account asset)
pair-within ms k [] account asset h none = subst (λ (l : List Placed). IsWithinLimit (total l account asset)) (sym (append-nil ms)) h
pair-within ms k (p ∷ ps) account asset h none =
    let parts = if-none (is_over ms p) (Limit k) (limit_from (ms ++ tried_moves p) (k + 1) ps) none in
    subst (λ (l : List Placed). IsWithinLimit (total l account asset)) (append_assoc ms (tried_moves p) (flat_map tried_moves ps))
    (pair-within (ms ++ tried_moves p) (k + 1) ps account asset (pair-more ms p account asset h parts.0) parts.1)

-- an account and an asset that postings don't move have none of their moves
side-kept : (c d : Bool) (m n : Placed) (ms : List Placed) → c ≡ false → d ≡ false → map what_of (cond c (m ∷ cond d (n ∷ ms) ms) (cond d (n ∷ ms) ms)) ≡ map what_of ms
side-kept c d m n ms h k = ap (λ b. map what_of (cond b (m ∷ cond d (n ∷ ms) ms) (cond d (n ∷ ms) ms))) h ∙ ap (λ b. map what_of (cond b (n ∷ ms) ms)) k

pair-or-none : (before : List Placed) (id : ℕ) (inserted effective : ℤ) (ps : List Posting) (account asset : List ℕ) → Each (IsPostingWithin before) ps
    → (pair_moves (flat_map (posting_moves id inserted effective) ps) account asset ≡ []) ⊎ IsWithinLimit (total before account asset)
pair-or-none before id inserted effective [] account asset h = inl refl
pair-or-none before id inserted effective (p ∷ ps) account asset h = by_source (is_of account asset (out_move id inserted effective p)) refl (pair-or-none before id inserted effective ps account asset h.1)
  where
    moved : (x : List ℕ) → (bytes_eq x account && bytes_eq p.asset asset) ≡ true → IsWithinLimit (total before x p.asset) → IsWithinLimit (total before account asset)
    moved x is within =
        let eqs = both (bytes_eq x account) (bytes_eq p.asset asset) is in
        subst (λ a. IsWithinLimit (total before a asset)) (bytes_same x account eqs.0)
        (subst (λ s. IsWithinLimit (total before x s)) (bytes_same p.asset asset eqs.1) within)

    by_rest : is_of account asset (out_move id inserted effective p) ≡ false → is_of account asset (in_move id inserted effective p) ≡ false → (pair_moves (flat_map (posting_moves id inserted effective) ps) account asset ≡ []) ⊎ IsWithinLimit (total before account asset) → (pair_moves (flat_map (posting_moves id inserted effective) (p ∷ ps)) account asset ≡ []) ⊎ IsWithinLimit (total before account asset)
    by_rest out in_ (inl none) = inl (side-kept (is_of account asset (out_move id inserted effective p)) (is_of account asset (in_move id inserted effective p)) (out_move id inserted effective p) (in_move id inserted effective p) (filter (is_of account asset) (flat_map (posting_moves id inserted effective) ps)) out in_ ∙ none)
    by_rest out in_ (inr within) = inr within

    by_destination : (b : Bool) → is_of account asset (in_move id inserted effective p) ≡ b → is_of account asset (out_move id inserted effective p) ≡ false → (pair_moves (flat_map (posting_moves id inserted effective) ps) account asset ≡ []) ⊎ IsWithinLimit (total before account asset) → (pair_moves (flat_map (posting_moves id inserted effective) (p ∷ ps)) account asset ≡ []) ⊎ IsWithinLimit (total before account asset)
    by_destination true is out rest = inr (moved p.destination is h.0.destination)
    by_destination false is out rest = by_rest out is rest

    by_source : (b : Bool) → is_of account asset (out_move id inserted effective p) ≡ b → (pair_moves (flat_map (posting_moves id inserted effective) ps) account asset ≡ []) ⊎ IsWithinLimit (total before account asset) → (pair_moves (flat_map (posting_moves id inserted effective) (p ∷ ps)) account asset ≡ []) ⊎ IsWithinLimit (total before account asset)
    by_source true is rest = inr (moved p.source is h.0.source)
    by_source false is rest = by_destination (is_of account asset (in_move id inserted effective p)) refl is rest

-- ---- what an entry holds of an account and an asset follows the log

none-moved : (before : List Move) (new : List Move) → new ≡ [] → MovesFollow before new
none-moved before new h = subst (MovesFollow before) (sym h) tt

transaction-follows : (g : List Entry) (date : ℤ) (o : Option Transaction) (account asset : List ℕ) → IsLow g → is_before (last_of g) date ≡ false → is_misnumbered g o ≡ false → is_over_limit g o ≡ false → AreAccountsWithin (moves g) o
    → MovesFollow (pair_moves (moves g) account asset) (pair_moves (transaction_moves date o) account asset)
transaction-follows g date None account asset low after number over within = tt
transaction-follows g date (Some t) account asset low after number over within = by_pair (pair-or-none (moves g) t.id date t.timestamp t.postings account asset within)
  where
    later : (m : Placed) → IsUpTo (length (transactions g)) date m.what → IsUpTo t.id date m.what
    later m up = record { transaction = (let a = up.transaction in let b = next_id g t number in omega (arith, a, b)); inserted = up.inserted }

    by_pair : (pair_moves (flat_map (posting_moves t.id date t.timestamp) t.postings) account asset ≡ []) ⊎ IsWithinLimit (total (moves g) account asset) → MovesFollow (pair_moves (moves g) account asset) (pair_moves (flat_map (posting_moves t.id date t.timestamp) t.postings) account asset)
    by_pair (inl none) = none-moved (pair_moves (moves g) account asset) (pair_moves (flat_map (posting_moves t.id date t.timestamp) t.postings) account asset) none
    by_pair (inr limit) =
        moves-follow (pair_moves (moves g) account asset) (pair_moves (flat_map (posting_moves t.id date t.timestamp) t.postings) account asset) t.id date
        (each-pair (IsUpTo t.id date) (moves g) account asset (each-map later (moves g) (low date after).moved))
        (each-pair (IsAt t.id date) (flat_map (posting_moves t.id date t.timestamp) t.postings) account asset (postings-at t.id date t.timestamp t.postings))
        (subst (λ (l : List Move). IsWithinLimit (total_of l)) (pair_moves-append (moves g) (flat_map (posting_moves t.id date t.timestamp) t.postings) account asset)
        (subst IsWithinLimit (sym (total-tried (moves g) t.id date t.timestamp t.postings account asset))
        (pair-within (moves g) 0 t.postings account asset limit (no_some (limit_from (moves g) 0 t.postings) over))))

-- ---- what the stripe of an entry holds

filter-apart : {A : Type 0} (p q : A → Bool) (xs : List A) → ((x : A) → p x ≡ true → q x ≡ false) → filter p (filter q xs) ≡ []
filter-apart p q [] h = refl
filter-apart p q (x ∷ xs) h = by_test (q x) refl (p x) refl (filter-apart p q xs h)
  where
    by_test : (b : Bool) → q x ≡ b → (c : Bool) → p x ≡ c → filter p (filter q xs) ≡ [] → filter p (cond b (x ∷ filter q xs) (filter q xs)) ≡ []
    by_test true is true at rest = absurd (let f : true ≡ false = sym is ∙ h x at in cc)
    by_test true is false at rest = ap (λ c. cond c (x ∷ filter p (filter q xs)) (filter p (filter q xs))) at ∙ rest
    by_test false is c at rest = rest

no-own-marking : (key : List ℕ) (id : ℕ) (o : Option KeyMark) → list_any (is_mark_of key) (option_to_list o) ≡ false → find (is_marking_of key) (map (marking id) (option_to_list o)) ≡ None
no-own-marking key id None h = refl
no-own-marking key id (Some mark) h = ap (λ b. cond b (Some (marking id mark)) None) (neither (bytes_eq mark.key key) false h).0

-- a key that no entry has is no marking's
no-marking : (g : List Entry) (key : List ℕ) → kept g key ≡ None → find (is_marking_of key) (markings g) ≡ None
no-marking [] key h = refl
no-marking (e ∷ g) key h =
    let parts = if-none (entry_has_key key e) e (kept g key) h in
    find-append (is_marking_of key) (entry_markings e) (markings g)
    ∙ ap (λ o. option_or o (find (is_marking_of key) (markings g))) (no-own-marking key e.id e.mark parts.0)
    ∙ no-marking g key parts.1

not-mapped : {A B : Type 0} (f : A → B) (o : Option A) → option_map f o ≡ None → o ≡ None
not-mapped f None h = refl
not-mapped {A} {B} f (Some x) h = absurd (let e : ◌≡◌ {A = Option B} (Some (f x)) None = h in cc)

nothing-follows : (held : Holding) → HoldingFollows held no_holding
nothing-follows held = record { moves = λ account asset. tt; changes = λ account. tt; keys = tt; references = tt }

-- ---- changes that are dated later

dated-within : (date : ℤ) (cs : List Change) → Each (λ (c : Change). c.date ≤ℤ date) cs → Each (λ (d : DatedChange). d.date ≤ℤ date) (map dated_change cs)
dated-within date [] h = tt
dated-within date (c ∷ cs) h = (h.0, dated-within date cs h.1)

last-within : (date : ℤ) (ds : List DatedChange) → Each (λ (d : DatedChange). d.date ≤ℤ date) ds → IfSome (last_date ds) (λ last. last ≤ℤ date)
last-within date [] h = tt
last-within date (d ∷ []) h = h.0
last-within date (d ∷ e ∷ es) h = last-within date (e ∷ es) h.1

each-later : (date : ℤ) (before ds : List DatedChange) → IfSome (last_date before) (λ last. last ≤ℤ date) → Each (λ (d : DatedChange). d.date ≡ date) ds → Each (IsLater before) ds
each-later date before [] last dated = tt
each-later date before (d ∷ ds) last dated = (subst (λ x. IfSome (last_date before) (λ last. last ≤ℤ x)) (sym dated.0) last, each-later date before ds last dated.1)

none-changed : (before ds : List DatedChange) → ds ≡ [] → Each (IsLater before) ds
none-changed before ds h = subst (Each (IsLater before)) (sym h) tt

about-stripe : (k : ℕ) (ledger account : List ℕ) (target : Target) → same_target target (Account account) ≡ true → has_target k ledger target ≡ has_account k ledger account
about-stripe k ledger account (Account name) h = ap (has_account k ledger) (bytes_same name account h)
about-stripe k ledger account (TransactionOf id) h = absurd (let f : false ≡ true = h in cc)

module _ (k : ℕ) (ledger : List ℕ) (events : List Event) (e : Entry) (grown : IsGrown events) (may : MayEnter (log events ledger) e) where
  abbrev g : List Entry
  g = log events ledger

  entry-moves-follow : (account asset : List ℕ) → MovesFollow (pair_moves (moves g) account asset) (pair_moves (entry_moves e) account asset)
  entry-moves-follow account asset = transaction-follows g e.date (body_transaction e.body) account asset (low-log events ledger grown) may.follows.date may.follows.transaction may.limit may.within

  stripe-of-name : (account name : List ℕ) → bytes_eq name account ≡ true → has_account k ledger name ≡ has_account k ledger account
  stripe-of-name account name is = ap (has_account k ledger) (bytes_same name account is)

  own-moves-follow : (account asset : List ℕ) → MovesFollow (pair_moves (part_moves ledger (part_of k events)) account asset) (pair_moves (own_moves k ledger e) account asset)
  own-moves-follow account asset = by_stripe (has_account k ledger account) refl
    where
      by_stripe : (b : Bool) → has_account k ledger account ≡ b → MovesFollow (pair_moves (part_moves ledger (part_of k events)) account asset) (pair_moves (own_moves k ledger e) account asset)
      by_stripe true is =
          subst (λ (l : List Move). MovesFollow l (pair_moves (own_moves k ledger e) account asset)) (sym (knows-moves k ledger account asset events (eqb-true (stripe AccountClass ledger account) k is)))
          (subst (λ (l : List Move). MovesFollow (pair_moves (moves g) account asset) l)
          (sym (ap (map what_of) (filter-within (is_of account asset) (has_move k ledger) (λ m of. stripe-of-name account m.account (both (bytes_eq m.account account) (bytes_eq m.asset asset) of).0 ∙ is) (entry_moves e))))
          (entry-moves-follow account asset))
      by_stripe false is =
          none-moved (pair_moves (part_moves ledger (part_of k events)) account asset) (pair_moves (own_moves k ledger e) account asset)
          (ap (map what_of) (filter-apart (is_of account asset) (has_move k ledger) (entry_moves e) (λ m of. stripe-of-name account m.account (both (bytes_eq m.account account) (bytes_eq m.asset asset) of).0 ∙ is)))

  own-changes-follow : ChangesFollow (part_changes ledger (part_of k events)) (own_changes k ledger e)
  own-changes-follow account = by_stripe (has_account k ledger account) refl
    where
      by_stripe : (b : Bool) → has_account k ledger account ≡ b → Each (IsLater (changes_on (part_changes ledger (part_of k events)) account)) (changes_on (own_changes k ledger e) account)
      by_stripe true is =
          each-later e.date (changes_on (part_changes ledger (part_of k events)) account) (changes_on (own_changes k ledger e) account)
          (subst (λ (cs : List Change). IfSome (last_date (map dated_change cs)) (λ last. last ≤ℤ e.date)) (sym (knows-changes k ledger account events (eqb-true (stripe AccountClass ledger account) k is)))
          (last-within e.date (changes_on (changes g) account)
          (dated-within e.date (filter (is_about (Account account)) (changes g)) (each-filter (λ (c : Change). c.date ≤ℤ e.date) (is_about (Account account)) (changes g) (low-log events ledger grown e.date may.follows.date).changed))))
          (own-dated k ledger e account)
      by_stripe false is =
          none-changed (changes_on (part_changes ledger (part_of k events)) account) (changes_on (own_changes k ledger e) account)
          (ap (map dated_change) (filter-apart (is_about (Account account)) (has_change k ledger) (entry_changes e) (λ c of. about-stripe k ledger account c.target of ∙ is)))

  new-key : (mark : KeyMark) → has_used_key g (Some mark) ≡ false → has_key k ledger mark ≡ true → IsNewKey (part_markings ledger (part_of k events)) (marking e.id mark)
  new-key mark unused is =
      knows-keys k ledger mark.key events (eqb-true (stripe KeyClass ledger mark.key) k is)
      ∙ no-marking g mark.key (no_some (kept g mark.key) unused)

  keys-follow : (o : Option KeyMark) → has_used_key g o ≡ false → Each (IsNewKey (part_markings ledger (part_of k events))) (map (marking e.id) (filter (has_key k ledger) (option_to_list o)))
  keys-follow None unused = tt
  keys-follow (Some mark) unused = by_test (has_key k ledger mark) refl
    where
      by_test : (b : Bool) → has_key k ledger mark ≡ b → Each (IsNewKey (part_markings ledger (part_of k events))) (map (marking e.id) (cond b (mark ∷ []) []))
      by_test true is = (new-key mark unused is, tt)
      by_test false is = tt

  new-reference : (r : Referred) → has_used_reference g (Some r.reference) ≡ false → has_reference k ledger r ≡ true → IsNewReference (part_references ledger (part_of k events)) r
  new-reference r unused is =
      knows-references k ledger r.reference events (eqb-true (stripe ReferenceClass ledger r.reference) k is)
      ∙ not-mapped transaction_of (find (is_referred_as r.reference) (references g)) (no_some (used g r.reference) unused)

  reference-follows : (id : ℕ) (o : Option (List ℕ)) → has_used_reference g o ≡ false → Each (IsNewReference (part_references ledger (part_of k events))) (filter (has_reference k ledger) (map (referred_by id) (option_to_list o)))
  reference-follows id None unused = tt
  reference-follows id (Some reference) unused = by_test (has_reference k ledger (referred_by id reference)) refl
    where
      by_test : (b : Bool) → has_reference k ledger (referred_by id reference) ≡ b → Each (IsNewReference (part_references ledger (part_of k events))) (cond b (referred_by id reference ∷ []) [])
      by_test true is = (new-reference (referred_by id reference) unused is, tt)
      by_test false is = tt

  references-follow : (o : Option Transaction) → is_referred g o ≡ false → Each (IsNewReference (part_references ledger (part_of k events))) (filter (has_reference k ledger) (transaction_references o))
  references-follow None unused = tt
  references-follow (Some t) unused = reference-follows t.id t.reference unused

  own-follows : HoldingFollows (ledger_holding ledger (part_of k events)) (own_holding k ledger e)
  own-follows = record {
    moves = own-moves-follow;
    changes = own-changes-follow;
    keys = keys-follow e.mark may.key;
    references = references-follow (body_transaction e.body) may.reference;
  }

  holding-follows : (q : List ℕ) (b : Bool) → bytes_eq ledger q ≡ b → HoldingFollows (ledger_holding q (part_of k events)) (cond b (own_holding k ledger e) no_holding)
  holding-follows q true is = subst (λ (name : List ℕ). HoldingFollows (ledger_holding name (part_of k events)) (own_holding k ledger e)) (bytes_same ledger q is) own-follows
  holding-follows q false is = nothing-follows (ledger_holding q (part_of k events))

pub entry-follows : EntryFollows
entry-follows events ledger e k grown may = λ q.
    subst (HoldingFollows (ledger_holding q (part_of k events))) (sym (holding-logged k (length events) ledger e q))
    (holding-follows k ledger events e grown may q (bytes_eq ledger q) refl)

pub made-follows : MadeFollows
made-follows events info k = λ q. nothing-follows (ledger_holding q (part_of k events))

-- ---- what an import and a trial say

pub tried-within : TriedWithinLimit
tried-within ms k [] force h = refl
tried-within ms k (p ∷ ps) force h =
    let first = if-none (lacks ms force p) (lack_of ms k p) (if is_over ms p then Some (Limit k) else trial_from (ms ++ tried_moves p) (k + 1) ps force) h in
    let second = if-none (is_over ms p) (Limit k) (trial_from (ms ++ tried_moves p) (k + 1) ps force) first.1 in
    ap (λ b. cond b (Some (Limit k)) (limit_from (ms ++ tried_moves p) (k + 1) ps)) second.0 ∙ tried-within (ms ++ tried_moves p) (k + 1) ps force second.1

pub faultless-enters : FaultlessEnters
faultless-enters g e none within =
    let all : AllFalse (causes g e) = all_false (causes g e) none in
    record {
      follows = record {
        id = eqb-true e.id (next_entry g) (not_false (nat_eq e.id (next_entry g)) all.0);
        date = all.1.0;
        transaction = all.1.1.1.1.1.0;
        revert = all.1.1.1.1.1.1.0;
        target = all.1.1.1.1.1.1.1.0;
      };
      key = all.1.1.1.0;
      reference = all.1.1.1.1.0;
      limit = all.1.1.1.1.1.1.1.1.0;
      within = within;
    }

-- ---- totals

pub part-totals : PartTotals
part-totals events ledger account asset = ap total_of (knows-moves (stripe AccountClass ledger account) ledger account asset events refl)

total-more : (g : List Entry) (date : ℤ) (o : Option Transaction) (account asset : List ℕ) → IsWithinLimit (total (moves g) account asset) → is_over_limit g o ≡ false → IsWithinLimit (total (moves g ++ transaction_moves date o) account asset)
total-more g date None account asset h over = subst (λ (l : List Placed). IsWithinLimit (total l account asset)) (sym (append-nil (moves g))) h
total-more g date (Some t) account asset h over =
    subst IsWithinLimit (sym (total-tried (moves g) t.id date t.timestamp t.postings account asset))
    (pair-within (moves g) 0 t.postings account asset h (no_some (limit_from (moves g) 0 t.postings) over))

pub totals-stay-within : TotalsStayWithin
totals-stay-within g e account asset h over =
    subst (λ (l : List Placed). IsWithinLimit (total l account asset)) (sym (moves-snoc g e)) (total-more g e.date (body_transaction e.body) account asset h over)
