-- What is looked up in two logs, one after the other: what the first says, or else the second.
use Rattle.std.proofs.Common.{◌≡◌, ℕ, zero, suc, ◌+◌, ◌-◌, ◌<◌, ◌≤◌, ℤ, Bool, true, false, List, [], ◌∷◌, ◌++◌, length, drop, get_or, slice_get, Option, Some, None, refl, sym, ap, ap₂, ◌∙◌, arith}
use Rattle.std.specs.Prelude.{if◌then◌else◌, int_lt}
use Rattle.std.specs.Option.{option_map, option_or}
use Rattle.std.specs.List.{find, flat_map, last_or}
use Rattle.std.proofs.lemmas.List.{append-nil, length-append, drop_all}
use Rattle.std.proofs.lemmas.List.Folds.{find-append}
use Rattle.std.proofs.lemmas.Grind.{flat_map-append}
use Rattle.std.proofs.lemmas.Option.{slice_get_within, slice_get-get_or}
use Rattle.lg_types.specs.declared.records.Entry.{Entry}
use Rattle.lg_types.specs.Chain.{entry_hash, head}
use Rattle.lg_types.specs.Known.{entry_markings, is_marking_of, entry_references, is_referred_as, transaction_of, used, entry_transactions, transactions, has_id, entry_undoings, undoes, date_after, date}
use Rattle.lg_types.specs.Lists.{last_of}
use Rattle.lg_types.specs.Moments.{brought}
use Rattle.lg_shard.specs.Shown.{kept_of}
use Rattle.lg_weigh.specs.Weighing.{kept_in}
use Rattle.lg_weigh.proofs.KeptLemmas.{kept_mark}
use Rattle.lg_commit_volumes.proofs.SumLemmas.{left_here}
use Rattle.lg_decide.specs.Looking.{transaction_in, undone_by, transaction_at, reverted_by}
use Rattle.lg_decide.proofs.LogCounts.{transactions_within}

mapped_or : {A B : Type 0} (view : A → B) (a b : Option A) → option_map view (option_or a b) ≡ option_or (option_map view a) (option_map view b)
mapped_or view None b = refl
mapped_or view (Some x) b = refl

found_or : {A B : Type 0} (view : A → B) (test : A → Bool) (own : Entry → List A) (g h : List Entry)
    → option_map view (find test (flat_map own (g ++ h))) ≡ option_or (option_map view (find test (flat_map own g))) (option_map view (find test (flat_map own h)))
found_or view test own g h =
    ap (λ l. option_map view (find test l)) (flat_map-append own g h)
    ∙ ap (option_map view) (find-append test (flat_map own g) (flat_map own h))
    ∙ mapped_or view (find test (flat_map own g)) (find test (flat_map own h))

pub used-append : (reference : List ℕ) (g h : List Entry) → used (g ++ h) reference ≡ option_or (used g reference) (used h reference)
used-append reference g h = found_or transaction_of (is_referred_as reference) entry_references g h

pub transaction-append : (id : ℕ) (g h : List Entry) → transaction_at (g ++ h) id ≡ option_or (transaction_at g id) (transaction_at h id)
transaction-append id g h = found_or transaction_in (has_id id) entry_transactions g h

pub reverted-append : (id : ℕ) (g h : List Entry) → reverted_by (g ++ h) id ≡ option_or (reverted_by g id) (reverted_by h id)
reverted-append id g h = found_or undone_by (undoes id) entry_undoings g h

pub kept-append : (key : List ℕ) (g h : List Entry) → kept_in (g ++ h) key ≡ option_or (kept_in g key) (kept_in h key)
kept-append key g h = sym (kept_mark (g ++ h) key) ∙ found_or kept_of (is_marking_of key) entry_markings g h ∙ ap₂ option_or (kept_mark g key) (kept_mark h key)

pub count-append : (g h : List Entry) → length (transactions (g ++ h)) ≡ length (transactions g) + length (transactions h)
count-append g h = ap length (flat_map-append entry_transactions g h) ∙ length-append (transactions g) (transactions h)

-- what the first of two logs says, where it says something
pub first_says : {A : Type 0} (a b whole : Option A) (x : A) → whole ≡ option_or a b → a ≡ Some x → Some x ≡ whole
first_says a b whole x is some = sym (is ∙ ap (λ o. option_or o b) some)

pub second_says : {A : Type 0} (a b whole : Option A) → whole ≡ option_or a b → a ≡ None → b ≡ whole
second_says a b whole is none = sym (is ∙ ap (λ o. option_or o b) none)

-- ---- the last entry

last_or-append : {A : Type 0} (o : Option A) (xs ys : List A) → last_or o (xs ++ ys) ≡ last_or (last_or o xs) ys
last_or-append o [] ys = refl
last_or-append o (x ∷ xs) ys = last_or-append (Some x) xs ys

last_at : {A : Type 0} (o : Option A) (xs : List A) (n : ℕ) (x : A) → suc n ≡ length xs → slice_get xs n ≡ Some x → last_or o xs ≡ Some x
last_at {A} o [] n x e h = absurd (let f : ◌≡◌ {A = Option A} None (Some x) = h in cc)
last_at o (y ∷ []) zero x e h = h
last_at o (y ∷ []) (suc n) x e h = absurd (omega (arith, e))
last_at o (y ∷ z ∷ xs) zero x e h = absurd (omega (arith, e))
last_at o (y ∷ z ∷ xs) (suc n) x e h = last_at (Some y) (z ∷ xs) n x (omega (arith, e)) h

last_is : (g es : List Entry) (e : Entry) → slice_get es (length es - 1) ≡ Some e → last_of (g ++ es) ≡ Some e
last_is g es e h =
    let within : (length es - 1) < length es = slice_get_within es (length es - 1) e h in
    last_or-append None g es ∙ last_at (last_or None g) es (length es - 1) e (omega (arith, within)) h

none_last : (es : List Entry) → slice_get es (length es - 1) ≡ None → es ≡ []
none_last [] h = refl
none_last (x ∷ es) h = absurd (let f : ◌≡◌ {A = Option Entry} (Some _) None = sym (slice_get-get_or (x ∷ es) (length (x ∷ es) - 1) x (omega arith)) ∙ h in cc)

pub head_last : (g es : List Entry) (e : Entry) → slice_get es (length es - 1) ≡ Some e → Some e.hash ≡ head (g ++ es)
head_last g es e h = sym (ap (option_map entry_hash) (last_is g es e h))

pub head_none : (g es : List Entry) → slice_get es (length es - 1) ≡ None → head g ≡ head (g ++ es)
head_none g es h = sym (ap (λ l. head (g ++ l)) (none_last es h) ∙ ap head (append-nil g))

pub date_last : (g es : List Entry) (e : Entry) (now : ℤ) → slice_get es (length es - 1) ≡ Some e → date_after (Some e) now ≡ date (g ++ es) now
date_last g es e now h = sym (ap (λ o. date_after o now) (last_is g es e h))

pub date_none : (g es : List Entry) (now : ℤ) → slice_get es (length es - 1) ≡ None → date g now ≡ date (g ++ es) now
date_none g es now h = sym (ap (λ l. date (g ++ l) now) (none_last es h) ∙ ap (λ l. date l now) (append-nil g))

-- ---- a loop that counts transactions

module _ (es : List Entry) (i : ℕ) where
  abbrev left : ℕ
  left = length (transactions (drop (i + 1) es))

  next_count : (e : Entry) (own : ℕ) → i < length es → e ≡ get_or es i e → own ≡ length (transactions (e ∷ [])) → length (transactions (drop i es)) ≡ own + left
  next_count e own h is told = ap (λ l. length (transactions l)) (left_here es i e h is) ∙ count-append (e ∷ []) (drop (i + 1) es) ∙ ap (λ n. n + left) (sym told)

  pub count_next : (e : Entry) (total own whole : ℕ) → i < length es → e ≡ get_or es i e → own ≡ length (transactions (e ∷ []))
      → total + length (transactions (drop i es)) ≡ whole → (total + own) + left ≡ whole
  count_next e total own whole h is told before = let next : length (transactions (drop i es)) ≡ own + left = next_count e own h is told in omega (arith, next, before)

  pub count_within : (e : Entry) (total own count bound : ℕ) → i < length es → e ≡ get_or es i e → own ≡ length (transactions (e ∷ []))
      → total + length (transactions (drop i es)) ≡ count + length (transactions es) → count + length es < bound → total + own < bound
  count_within e total own count bound h is told before room =
      let next : length (transactions (drop i es)) ≡ own + left = next_count e own h is told in
      let few : length (transactions es) ≤ length es = transactions_within es in
      omega (arith, next, before, few, room)

  pub count_done : (total whole : ℕ) → length es ≤ i → total + length (transactions (drop i es)) ≡ whole → total ≡ whole
  count_done total whole h before =
      let none : length (transactions (drop i es)) ≡ 0 = ap (λ l. length (transactions l)) (drop_all i es h) in
      omega (arith, none, before)

-- the later of a moment and an entry's date
pub later_is : (e : Entry) (now moment later : ℤ) → moment ≡ brought now → later ≡ (if int_lt moment e.date then e.date else moment) → later ≡ date_after (Some e) now
later_is e now moment later is told = told ∙ ap (λ (m : ℤ). if int_lt m e.date then e.date else m) is

-- the number of a ledger that is there
pub counted : (there : Bool) (n m : ℕ) → (if there then Some n else None) ≡ Some m → m ≡ n
counted true n m h = cc
counted false n m h = absurd (let f : ◌≡◌ {A = Option ℕ} None (Some m) = h in cc)
