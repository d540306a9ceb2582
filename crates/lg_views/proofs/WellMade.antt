-- The entries that a good call appends are well made.
use Rattle.std.proofs.Common.{◌≡◌, ℕ, ◌+◌, ◌/◌, ◌%◌, ◌^◌, ◌<◌, ◌≤◌, ℤ, Bool, true, false, nat_lt, List, [], ◌∷◌, ◌++◌, map, reverse, length, Option, Some, None, refl, sym, ap, subst, ◌∙◌, arith, ltb-true}
use Rattle.std.specs.Prelude.{◌≤ℤ◌, ◌<ℤ◌, int_lt, IfSome, IsUtf8, decimal, codes, if◌then◌else◌}
use Rattle.std.specs.Option.{unwrap_or}
use Rattle.std.specs.Ordering.{int_cmp, is_lt, MatchOrdering}
use Rattle.std.specs.Cmp.{int_ranks}
use Rattle.std.specs.declared.cmp.Ordering.{Ordering}
use Rattle.std.specs.declared.cmp.Ordering.TheVariants.{Less, Equal, Greater}
use Rattle.std.specs.List.{AllByRecursion, find, flat_map, last_or, list_all}
use Rattle.std.specs.Str.{bytes_eq}
use Rattle.std.proofs.lemmas.Bool.{cond_both, and_parts}
use Rattle.std.proofs.lemmas.Fmt.{decimal_by_steps_wide}
use Rattle.std.proofs.lemmas.List.{length-append, length-map, length-reverse, reverse-append}
use Rattle.std.proofs.lemmas.Str.{IsUtf8-nil}
use Rattle.jiff_core.proofs.SignedLemmas.{signed_arith}
use Rattle.lg_containers.specs.NameTable.{pairs_of, insert, empty}
use Rattle.lg_containers.specs.TextLaws.{ascii_utf8}
use Rattle.lg_time.specs.Moment.{IsInMoments}
use Rattle.lg_types.specs.declared.calls.Element.{Element}
use Rattle.lg_types.specs.declared.calls.ElementWrite.{ElementWrite}
use Rattle.lg_types.specs.declared.calls.ElementWrite.TheVariants.{Good, Bad}
use Rattle.lg_types.specs.declared.calls.Write.{Write}
use Rattle.lg_types.specs.declared.calls.Write.TheVariants.{Create, Revert, SetMeta, DropMeta}
use Rattle.lg_types.specs.declared.records.Entry.{Entry}
use Rattle.lg_types.specs.declared.records.EntryBody.{EntryBody}
use Rattle.lg_types.specs.declared.records.EntryBody.TheVariants.{NewTransaction, SetMetadata, Reverted, DeleteMetadata}
use Rattle.lg_types.specs.declared.records.KeyMark.{KeyMark}
use Rattle.lg_types.specs.declared.records.Posting.{Posting}
use Rattle.lg_types.specs.declared.records.Target.{Target}
use Rattle.lg_types.specs.declared.records.Target.TheVariants.{Account, Transaction as TransactionOf}
use Rattle.lg_types.specs.declared.records.Transaction.{Transaction}
use Rattle.lg_types.specs.declared.refusals.Refusal.{Refusal}
use Rattle.lg_types.specs.declared.refusals.Refusal.TheVariants.{KeyInput}
use Rattle.lg_types.specs.Chain.{input_hash}
use Rattle.lg_types.specs.GoodCalls.{IsKeyOf, IsGoodElement, IsGoodElementWrite, IsGoodWrite}
use Rattle.lg_types.specs.Known.{Dated, Undoing, dated, entry_transactions, transactions, has_id, find_transaction, undone, next_entry, next_transaction, date_after, date}
use Rattle.lg_types.specs.Lists.{last_of, or_else}
use Rattle.lg_types.specs.Moments.{first_moment, last_moment, brought}
use Rattle.lg_types.specs.Moves.{body_transaction}
use Rattle.lg_types.specs.Records.{IsId, IsPosting, IsTextPair, IsMeta, IsTransaction, IsBody, IsMarkOf, IsEntry}
use Rattle.lg_types.specs.Trial.{trial, revert_trial, exchanged, reverting}
use Rattle.lg_types.proofs.Digests.{own_hash-is_hash, input_hash-is_hash}
use Rattle.lg_views.specs.declared.decided.Decided.{Decided}
use Rattle.lg_views.specs.declared.decided.Decided.TheVariants.{Denied, Granted}
use Rattle.lg_views.specs.declared.decided.Written.{Written}
use Rattle.lg_views.specs.declared.decided.Written.TheVariants.{Refuses, Finds, Appends}
use Rattle.lg_views.specs.declared.replies.BulkItem.{BulkItem}
use Rattle.lg_views.specs.Bulk.{Batched, batched, batch_step, nothing_left, element_written, try_write, atomic_answer, bulk_answer}
use Rattle.lg_views.specs.Writes.{decided, is_used, revert_name, revert_metadata, revert_timestamp, revert_body, revert_decided, if_transaction, marked, unsealed, new_entry, appended_if, found_if, found, written_by, written, write_answer}
use Rattle.lg_views.proofs.Granted.{IfGranted, if_granted_unless}

-- ---- lists

pub all-append : {A : Type 0} (P : A → Type 0) (xs ys : List A) → AllByRecursion P xs → AllByRecursion P ys → AllByRecursion P (xs ++ ys)
all-append P [] ys h k = k
all-append P (x ∷ xs) ys h k = (h.0, all-append P xs ys h.1 k)

pub all-front : {A : Type 0} (P : A → Type 0) (xs ys : List A) → AllByRecursion P (xs ++ ys) → AllByRecursion P xs
all-front P [] ys h = tt
all-front P (x ∷ xs) ys h = (h.0, all-front P xs ys h.1)

all-found : {A : Type 0} (P : A → Type 0) (test : A → Bool) (xs : List A) → AllByRecursion P xs → IfSome (find test xs) P
all-found P test [] h = tt
all-found P test (x ∷ xs) h = cond_both (test x) (Some x) (find test xs) (λ o. IfSome o P) (λ _. h.0) (λ _. all-found P test xs h.1)

all-last : {A : Type 0} (P : A → Type 0) (o : Option A) (xs : List A) → IfSome o P → AllByRecursion P xs → IfSome (last_or o xs) P
all-last P o [] h k = h
all-last P o (x ∷ xs) h k = all-last P (Some x) xs k.0 k.1

all-reverse : {A : Type 0} (P : A → Type 0) (xs : List A) → AllByRecursion P xs → AllByRecursion P (reverse xs)
all-reverse P [] h = tt
all-reverse P (x ∷ xs) h = subst (AllByRecursion P) (sym (reverse-append (x ∷ []) xs)) (all-append P (reverse xs) (x ∷ []) (all-reverse P xs h.1) (h.0, tt))

-- ---- moments

below_or_in : (x y : ℤ) → is_lt (int_cmp x y) ≡ false → y ≤ℤ x
below_or_in x y h = go (int_cmp x y) (int_ranks x y) h
  where
    go : (o : Ordering) → MatchOrdering o (x <ℤ y) (x ≡ y) (y <ℤ x) → is_lt o ≡ false → y ≤ℤ x
    go Less r k = absurd cc
    go Equal r k = omega (arith, signed_arith, r)
    go Greater r k = omega (arith, signed_arith, r)

brought-in : (moment : ℤ) → IsInMoments (brought moment)
brought-in moment =
    cond_both (is_lt (int_cmp moment first_moment)) first_moment (if is_lt (int_cmp last_moment moment) then last_moment else moment) IsInMoments
    (λ _. (omega (arith, signed_arith), omega (arith, signed_arith)))
    (λ low. cond_both (is_lt (int_cmp last_moment moment)) last_moment moment IsInMoments
    (λ _. (omega (arith, signed_arith), omega (arith, signed_arith)))
    (λ high. (below_or_in moment first_moment low, below_or_in last_moment moment high)))

date-in : (o : Option Entry) (now : ℤ) → IfSome o IsEntry → IsInMoments (date_after o now)
date-in None now h = brought-in now
date-in (Some e) now h = cond_both (int_lt (brought now) e.date) e.date (brought now) IsInMoments (λ _. h.date) (λ _. brought-in now)

-- ---- transactions

dated-made : (date : ℤ) (body : EntryBody) → IsBody body → AllByRecursion (λ (d : Dated). IsTransaction d.transaction) (dated date (body_transaction body))
dated-made date (NewTransaction t accounts) h = (h.0, tt)
dated-made date (SetMetadata target metadata) h = tt
dated-made date (Reverted id t) h = (h.1, tt)
dated-made date (DeleteMetadata target name) h = tt

transactions-made : (g : List Entry) → AllByRecursion IsEntry g → AllByRecursion (λ (d : Dated). IsTransaction d.transaction) (transactions g)
transactions-made [] h = tt
transactions-made (e ∷ es) h = all-append (λ (d : Dated). IsTransaction d.transaction) (entry_transactions e) (transactions es) (dated-made e.date e.body h.0.body) (transactions-made es h.1)

one_at_most : (date : ℤ) (o : Option Transaction) → length (dated date o) ≤ 1
one_at_most date None = omega arith
one_at_most date (Some t) = omega arith

few_transactions : (g : List Entry) → length (transactions g) ≤ length g
few_transactions [] = omega arith
few_transactions (e ∷ es) =
    let first = one_at_most e.date (body_transaction e.body) in
    let others = few_transactions es in
    let both = length-append (entry_transactions e) (transactions es) in
    omega (arith, first, others, both)

-- ---- the metadata of a revert

abbrev AreAscii : List ℕ → Type 0
AreAscii bytes = AllByRecursion (λ b. b < 128) bytes

ascii-utf8 : (bytes : List ℕ) → AreAscii bytes → IsUtf8 bytes
ascii-utf8 [] h = IsUtf8-nil
ascii-utf8 (b ∷ bs) h = ascii_utf8 b bs h.0 (ascii-utf8 bs h.1)

literal-ascii : (bytes : List ℕ) → list_all (λ b. nat_lt b 128) bytes ≡ true → AreAscii bytes
literal-ascii [] h = tt
literal-ascii (b ∷ bs) h = let p = and_parts (nat_lt b 128) (list_all (λ b. nat_lt b 128) bs) h in (ltb-true b 128 p.0, literal-ascii bs p.1)

decimal-ascii : (n : ℕ) → IsId n → AreAscii (decimal n)
decimal-ascii n h = decimal_by_steps_wide (λ n ds. AreAscii ds) (λ n lt. (omega arith, tt)) (λ n ds le more. all-append (λ b. b < 128) ds ((48 + n % 10) ∷ []) more (omega arith, tt)) n (omega arith)

revert_metadata-made : (id : ℕ) → IsId id → IsMeta (revert_metadata id)
unfolding pairs_of insert empty
revert_metadata-made id h = (record { name = ascii-utf8 revert_name (literal-ascii revert_name refl); value = ascii-utf8 (decimal id) (decimal-ascii id h) }, tt)

-- ---- what a ledger grants

exchanged-made : (postings : List Posting) → AllByRecursion IsPosting postings → AllByRecursion IsPosting (map exchanged postings)
exchanged-made [] h = tt
exchanged-made (p ∷ ps) h = (record { source = h.0.destination; destination = h.0.source; amount = h.0.amount; asset = h.0.asset }, exchanged-made ps h.1)

some_reverting : (postings : List Posting) → 0 < length postings → 0 < length (reverting postings)
some_reverting postings h =
    let mapped = length-map (reverse postings) exchanged in
    let turned = length-reverse postings in
    omega (arith, h, mapped, turned)

module _ (g : List Entry) (made : AllByRecursion IsEntry g) (room : length g + 1 < 2 ^ 64) (date : ℤ) (moment : IsInMoments date) where
  id-made : IsId (next_transaction g)
  id-made = let few = few_transactions g in omega (arith, few, room)

  timestamp-made : (timestamp : Option ℤ) → IfSome timestamp IsInMoments → IsInMoments (unwrap_or timestamp date)
  timestamp-made None h = moment
  timestamp-made (Some t) h = h

  reverted_timestamp-made : (at_effective_date : Bool) (d : Dated) → IsTransaction d.transaction → IfSome (revert_timestamp at_effective_date d) IsInMoments
  reverted_timestamp-made true d h = h.timestamp
  reverted_timestamp-made false d h = tt

  revert-made : (id : ℕ) (force at_effective_date : Bool) → IsId id → (o : Option Dated) (u : Option Undoing) → IfSome o (λ (d : Dated). IsTransaction d.transaction) → IfGranted IsBody (revert_decided g date id force at_effective_date o u)
  revert-made id force at_effective_date h None u k = tt
  revert-made id force at_effective_date h (Some d) (Some v) k = tt
  revert-made id force at_effective_date h (Some d) None k =
      if_granted_unless IsBody (revert_trial g (reverting d.transaction.postings) force) (revert_body g date id at_effective_date d) (λ _. (
        h,
        record {
          id = id-made;
          some = some_reverting d.transaction.postings k.some;
          postings = exchanged-made (reverse d.transaction.postings) (all-reverse IsPosting d.transaction.postings k.postings);
          metadata = revert_metadata-made id h;
          reference = tt;
          timestamp = timestamp-made (revert_timestamp at_effective_date d) (reverted_timestamp-made at_effective_date d k);
        },
      ))

  target-made : (id : ℕ) (o : Option Dated) (body : EntryBody) → IsBody body → IfGranted IsBody (if_transaction id o body)
  target-made id None body h = tt
  target-made id (Some d) body h = h

  decided-made : (write : Write) → IsGoodWrite write → IfGranted IsBody (decided g date write)
  decided-made (Create postings reference timestamp metadata accounts force) h =
      if_granted_unless IsBody (or_else (trial g postings force) (is_used g reference)) _ (λ _. (
        record {
          id = id-made;
          some = h.0;
          postings = h.1;
          metadata = h.4;
          reference = h.2;
          timestamp = timestamp-made timestamp h.3;
        },
        h.5,
      ))
  decided-made (Revert id force at_effective_date) h = revert-made id force at_effective_date h (find_transaction g id) (undone g id) (all-found (λ (d : Dated). IsTransaction d.transaction) (has_id id) (transactions g) (transactions-made g made))
  decided-made (SetMeta (Account address) metadata) h = h
  decided-made (SetMeta (TransactionOf id) metadata) h = target-made id (find_transaction g id) (SetMetadata (TransactionOf id) metadata) h
  decided-made (DropMeta (Account address) name) h = h
  decided-made (DropMeta (TransactionOf id) name) h = target-made id (find_transaction g id) (DeleteMetadata (TransactionOf id) name) h

-- ---- what a write appends

abbrev pub IsMade : Written → Type 0
IsMade (Refuses refusal) = Unit {0}
IsMade (Finds e) = Unit {0}
IsMade (Appends e) = IsEntry e

marked-made : (key : Option (List ℕ)) (write : Write) → IsKeyOf key → IsMarkOf (marked key write)
marked-made None write h = tt
marked-made (Some key) write h = record { key = h; input_hash = input_hash-is_hash write }

appended-made : (g : List Entry) (date : ℤ) (mark : Option KeyMark) (d : Decided) → length g + 1 < 2 ^ 64 → IsInMoments date → IsMarkOf mark → IfGranted IsBody d → IsMade (appended_if g date mark d)
appended-made g date mark (Denied refusal) room moment h k = tt
appended-made g date mark (Granted body) room moment h k = record { body = k; date = moment; mark = h; id = room; hash = own_hash-is_hash g (unsealed g date mark body) }

found-made : (mark : Option KeyMark) (given : List ℕ) (e : Entry) → IsMade (found_if mark given e)
found-made None given e = tt
found-made (Some mark) given e = cond_both (bytes_eq mark.input_hash given) (Finds e) (Refuses (KeyInput mark.key mark.input_hash given)) IsMade (λ _. tt) (λ _. tt)

by-made : (g : List Entry) (key : Option (List ℕ)) (write : Write) (now : ℤ) (o : Option Entry) → AllByRecursion IsEntry g → length g + 1 < 2 ^ 64 → IsKeyOf key → IsGoodWrite write → IsMade (written_by g key write (date g now) o)
by-made g key write now (Some e) made room k h = found-made e.mark (input_hash write) e
by-made g key write now None made room k h =
    let moment : IsInMoments (date g now) = date-in (last_of g) now (all-last IsEntry None g tt made) in
    appended-made g (date g now) (marked key write) (decided g (date g now) write) room moment (marked-made key write k) (decided-made g made room (date g now) moment write h)

pub written-made : (g : List Entry) (key : Option (List ℕ)) (write : Write) (now : ℤ) → AllByRecursion IsEntry g → length g + 1 < 2 ^ 64 → IsKeyOf key → IsGoodWrite write → IsMade (written g key write now)
written-made g key write now made room k h = by-made g key write now (found g key) made room k h
