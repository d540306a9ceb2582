-- What one element does to the answer to a list.
use Rattle.std.proofs.Common.{◌≡◌, ℕ, suc, ◌+◌, ◌≤◌, ◌<◌, ℤ, Bool, true, false, List, [], ◌∷◌, ◌++◌, length, drop, get_or, Option, Some, None, refl, sym, ap, subst, ◌∙◌, append_assoc, add-one, drop-cons}
use Rattle.std.proofs.lemmas.List.{append-nil, drop_all}
use Rattle.lg_types.specs.declared.calls.Element.{Element}
use Rattle.lg_types.specs.declared.calls.ElementWrite.{ElementWrite}
use Rattle.lg_types.specs.declared.calls.ElementWrite.TheVariants.{Good as GoodWrite, Bad}
use Rattle.lg_types.specs.declared.records.Entry.{Entry}
use Rattle.lg_types.specs.declared.refusals.Refusal.{Refusal}
use Rattle.lg_views.specs.declared.decided.Written.{Written}
use Rattle.lg_views.specs.declared.decided.Written.TheVariants.{Refuses, Finds, Appends}
use Rattle.lg_views.specs.declared.replies.BulkItem.{BulkItem}
use Rattle.lg_views.specs.declared.replies.BulkItem.TheVariants.{Failed as FailedItem}
use Rattle.lg_views.specs.declared.replies.Reply.{Reply}
use Rattle.lg_views.specs.Bulk.{Batched, batched, batch_step, nothing_left, try_write, element_written, good_result, bulk_answer, bulk_reply}
use Rattle.lg_views.specs.Import.{fault}
use Rattle.lg_views.specs.Writes.{up_to}
use Rattle.lg_views.proofs.Follows.{follows-join}
use Rattle.lg_views.proofs.Granted.{Fits, written-fits}
use Rattle.lg_book.specs.FirstVolumes.{entry_volumes}
use Rattle.lg_book.specs.Index.{all_volumes}
use Rattle.lg_bulk.specs.declared.gathered.Gathered.{Gathered}
use Rattle.lg_bulk.specs.declared.gathered.Gathering.TheVariants.{Failed, Complete}
use Rattle.lg_bulk.specs.declared.gathered.Turn.TheVariants.{GoOn, End, Fail}
use Rattle.lg_bulk.specs.Gathering.{ComesTo, IsGathered, IsTurn, nothing_gathered, with_result, with_entry, gathered_with, refusal_in, put_before, answer_after, gathered_answer}

-- ---- what is gathered

volumes-more : (g es : List Entry) (e : Entry) → all_volumes g (es ++ e ∷ []) ≡ all_volumes g es ++ entry_volumes ((g ++ es) ++ e ∷ []) e ∷ []
volumes-more g [] e = ap (λ l. entry_volumes (l ++ e ∷ []) e ∷ []) (sym (append-nil g))
volumes-more g (x ∷ es) e =
    ap (λ l. entry_volumes (g ++ x ∷ []) x ∷ l)
    (volumes-more (g ++ x ∷ []) es e ∙ ap (λ l. all_volumes (g ++ x ∷ []) es ++ entry_volumes (l ++ e ∷ []) e ∷ []) (append_assoc g (x ∷ []) es))

tried-fits : (h : List Entry) (key : Option (List ℕ)) (w : ElementWrite) (now : ℤ) → Fits h (try_write h key w now)
tried-fits h key (GoodWrite write) now = written-fits h key write now
tried-fits h key (Bad refusal) now = tt

-- what an element appends may follow
pub element-fits : (h : List Entry) (x : Element) (now : ℤ) → Fits h (element_written h x now)
element-fits h x now = tried-fits h x.key x.write now

pub element-faultless : (h : List Entry) (x : Element) (now : ℤ) (e : Entry) → element_written h x now ≡ Appends e → fault h e ≡ None
element-faultless h x now e is = subst (Fits h) is (element-fits h x now)

pub gathered-more : (g : List Entry) (x : Element) (before : Gathered) (w : Written) → Fits (g ++ before.entries) w → IsGathered g before → IsGathered g (gathered_with (g ++ before.entries) x before w)
gathered-more g x before (Refuses refusal) fits h = h
gathered-more g x before (Finds e) fits h = record { follows = h.follows; volumes = h.volumes }
gathered-more g x before (Appends e) fits h = record {
  follows = follows-join g before.entries (e ∷ []) h.follows (fits, tt);
  volumes = ap (λ vs. vs ++ entry_volumes ((g ++ before.entries) ++ e ∷ []) e ∷ []) h.volumes ∙ sym (volumes-more g before.entries e);
}

pub gathered-result : (g : List Entry) (before : Gathered) (result : BulkItem) → IsGathered g before → IsGathered g (with_result before result)
gathered-result g before result h = record { follows = h.follows; volumes = h.volumes }

pub gathered-nothing : (g : List Entry) → IsGathered g nothing_gathered
gathered-nothing g = record { follows = tt; volumes = refl }

-- ---- one element

same_batched : (rs rs' : List BulkItem) (es es' : List Entry) (failure : Option BulkItem) → rs ≡ rs' → es ≡ es' → ◌≡◌ {A = Batched} (record { results = rs; entries = es; failure = failure }) (record { results = rs'; entries = es'; failure = failure })
same_batched rs rs' es es' failure p q = λ i. record { results = p i; entries = q i; failure = failure }

same_answer : (rs rs' : List BulkItem) (es es' : List Entry) → rs ≡ rs' → es ≡ es' → ◌≡◌ {A = Reply × List Entry} (bulk_reply rs, es) (bulk_reply rs', es')
same_answer rs rs' es es' p q = λ i. (bulk_reply (p i), q i)

module _ (g : List Entry) (now : ℤ) (before : Gathered) (k : ℕ) (x : Element) where
  abbrev h : List Entry
  h = g ++ before.entries

  good-answer : (atomic go_on : Bool) (w : Written) (xs : List Element) → refusal_in w ≡ None
      → bulk_answer atomic (put_before before (batch_step h k go_on x (λ l. batched l (k + 1) go_on now xs) w)) ≡ answer_after g atomic go_on now (gathered_with h x before w) (k + 1) xs
  good-answer atomic go_on (Refuses refusal) xs none = absurd (let f : ◌≡◌ {A = Option Refusal} (Some refusal) None = none in cc)
  good-answer atomic go_on (Finds e) xs none =
      let rest : Batched = batched h (k + 1) go_on now xs in
      ap (bulk_answer atomic)
      (same_batched (before.results ++ good_result x (up_to h e) e ∷ rest.results) ((before.results ++ good_result x (up_to h e) e ∷ []) ++ rest.results) (before.entries ++ rest.entries) (before.entries ++ rest.entries) rest.failure
      (sym (append_assoc before.results (good_result x (up_to h e) e ∷ []) rest.results)) refl)
  good-answer atomic go_on (Appends e) xs none =
      let result : BulkItem = good_result x (h ++ e ∷ []) e in
      let rest : Batched = batched (h ++ e ∷ []) (k + 1) go_on now xs in
      ap (bulk_answer atomic)
      (same_batched (before.results ++ result ∷ rest.results) ((before.results ++ result ∷ []) ++ rest.results) (before.entries ++ e ∷ rest.entries) ((before.entries ++ e ∷ []) ++ rest.entries) rest.failure
      (sym (append_assoc before.results (result ∷ []) rest.results)) (sym (append_assoc before.entries (e ∷ []) rest.entries)))
      ∙ ap (λ l. bulk_answer atomic (put_before (with_entry before result e (entry_volumes (h ++ e ∷ []) e)) (batched l (k + 1) go_on now xs))) (append_assoc g before.entries (e ∷ []))

  pub turn-good : (atomic go_on : Bool) (after : Gathered) → IsGathered g before → refusal_in (element_written h x now) ≡ None → after ≡ gathered_with h x before (element_written h x now)
      → IsTurn g atomic go_on now before k x after GoOn
  turn-good atomic go_on after gathered none is =
      subst (λ a. IsTurn g atomic go_on now before k x a GoOn) (sym is)
      (gathered-more g x before (element_written h x now) (element-fits h x now) gathered, λ xs. good-answer atomic go_on (element_written h x now) xs none)

  -- a refused element, by its refusal
  as-refused : (w : Written) (refusal : Refusal) → refusal_in w ≡ Some refusal → w ≡ Refuses refusal
  as-refused (Refuses other) refusal is = ap Refuses (let f : other ≡ refusal = cc in f)
  as-refused (Finds e) refusal is = absurd (let f : ◌≡◌ {A = Option Refusal} None (Some refusal) = is in cc)
  as-refused (Appends e) refusal is = absurd (let f : ◌≡◌ {A = Option Refusal} None (Some refusal) = is in cc)

  abbrev left : Bool → List Element → Written → Batched
  left go_on xs w = batch_step h k go_on x (λ l. batched l (k + 1) go_on now xs) w

  pub turn-fails : (go_on : Bool) (after : Gathered) (refusal : Refusal) → refusal_in (element_written h x now) ≡ Some refusal → IsTurn g true go_on now before k x after (Fail (FailedItem k refusal))
  turn-fails go_on after refusal is xs =
      ap (λ w. bulk_answer true (put_before before (left go_on xs w))) (as-refused (element_written h x now) refusal is)

  abbrev failed : Refusal → Gathered
  failed refusal = with_result before (FailedItem k refusal)

  ended : (after : Gathered) (refusal : Refusal) → refusal_in (element_written h x now) ≡ Some refusal → (middle : Gathered) → middle ≡ gathered_with h x before (element_written h x now)
      → after ≡ with_result middle (FailedItem k refusal) → after ≡ failed refusal
  ended after refusal is middle same more =
      more ∙ ap (λ m. with_result m (FailedItem k refusal)) (same ∙ ap (gathered_with h x before) (as-refused (element_written h x now) refusal is))

  pub turn-ends : (after middle : Gathered) (refusal : Refusal) → IsGathered g before → refusal_in (element_written h x now) ≡ Some refusal → middle ≡ gathered_with h x before (element_written h x now)
      → after ≡ with_result middle (FailedItem k refusal) → IsTurn g false false now before k x after End
  turn-ends after middle refusal gathered is same more =
      subst (λ a. IsTurn g false false now before k x a End) (sym (ended after refusal is middle same more)) (
        gathered-result g before (FailedItem k refusal) gathered,
        λ xs.
            ap (λ w. bulk_answer false (put_before before (left false xs w))) (as-refused (element_written h x now) refusal is)
            ∙ same_answer (before.results ++ FailedItem k refusal ∷ []) (before.results ++ FailedItem k refusal ∷ []) (before.entries ++ []) before.entries refl (append-nil before.entries),
      )

  pub turn-goes : (after middle : Gathered) (refusal : Refusal) → IsGathered g before → refusal_in (element_written h x now) ≡ Some refusal → middle ≡ gathered_with h x before (element_written h x now)
      → after ≡ with_result middle (FailedItem k refusal) → IsTurn g false true now before k x after GoOn
  turn-goes after middle refusal gathered is same more =
      subst (λ a. IsTurn g false true now before k x a GoOn) (sym (ended after refusal is middle same more)) (
        gathered-result g before (FailedItem k refusal) gathered,
        λ xs.
            let rest : Batched = batched h (k + 1) true now xs in
            ap (λ w. bulk_answer false (put_before before (left true xs w))) (as-refused (element_written h x now) refusal is)
            ∙ same_answer (before.results ++ FailedItem k refusal ∷ rest.results) ((before.results ++ FailedItem k refusal ∷ []) ++ rest.results) (before.entries ++ rest.entries) (before.entries ++ rest.entries)
            (sym (append_assoc before.results (FailedItem k refusal ∷ []) rest.results)) refl,
      )

-- ---- all elements

module _ (g : List Entry) (atomic go_on : Bool) (now : ℤ) where
  pub answer-first : (xs : List Element) → bulk_answer atomic (batched g 0 go_on now xs) ≡ answer_after g atomic go_on now nothing_gathered 0 xs
  answer-first xs = ap (λ l. bulk_answer atomic (batched l 0 go_on now xs)) (sym (append-nil g))

  pub answer-last : (gathered : Gathered) (k : ℕ) → answer_after g atomic go_on now gathered k [] ≡ gathered_answer gathered
  answer-last gathered k = by_test atomic
    where
      by_test : (b : Bool) → bulk_answer b (put_before gathered nothing_left) ≡ gathered_answer gathered
      by_test true = same_answer (gathered.results ++ []) gathered.results (gathered.entries ++ []) gathered.entries (append-nil gathered.results) (append-nil gathered.entries)
      by_test false = same_answer (gathered.results ++ []) gathered.results (gathered.entries ++ []) gathered.entries (append-nil gathered.results) (append-nil gathered.entries)

-- the element at a place is the first of those that are left
next-dropped : (xs : List Element) (k : ℕ) (x : Element) → k < length xs → x ≡ get_or xs k x → drop k xs ≡ x ∷ drop (k + 1) xs
next-dropped xs k x less is = drop-cons xs k x less ∙ ap (λ y. y ∷ drop (suc k) xs) (sym is) ∙ ap (λ n. x ∷ drop n xs) (sym (add-one k))

module _ (g : List Entry) (atomic go_on : Bool) (now : ℤ) (answer : Reply × List Entry) (before : Gathered) (k : ℕ) (xs : List Element) (same : answer ≡ answer_after g atomic go_on now before k (drop k xs)) where
  -- the elements that are left, with the next one in front
  next-answer : (x : Element) → k < length xs → x ≡ get_or xs k x → answer ≡ answer_after g atomic go_on now before k (x ∷ drop (k + 1) xs)
  next-answer x less is = same ∙ ap (answer_after g atomic go_on now before k) (next-dropped xs k x less is)

  pub goes-on : (x : Element) (after : Gathered) → k < length xs → x ≡ get_or xs k x → IsTurn g atomic go_on now before k x after GoOn
      → IsGathered g after × (answer ≡ answer_after g atomic go_on now after (k + 1) (drop (k + 1) xs))
  goes-on x after less is turn = (turn.0, next-answer x less is ∙ turn.1 (drop (k + 1) xs))

  pub ends : (x : Element) (after : Gathered) → k < length xs → x ≡ get_or xs k x → IsTurn g atomic go_on now before k x after End → ComesTo g answer (Complete after)
  ends x after less is turn = (turn.0, next-answer x less is ∙ turn.1 (drop (k + 1) xs))

  pub fails : (x : Element) (after : Gathered) (failed : BulkItem) → k < length xs → x ≡ get_or xs k x → IsTurn g atomic go_on now before k x after (Fail failed) → ComesTo g answer (Failed failed)
  fails x after failed less is turn = next-answer x less is ∙ turn (drop (k + 1) xs)

  pub completes : length xs ≤ k → IsGathered g before → ComesTo g answer (Complete before)
  completes most gathered = (gathered, same ∙ ap (answer_after g atomic go_on now before k) (drop_all k xs most) ∙ answer-last g atomic go_on now before k)
