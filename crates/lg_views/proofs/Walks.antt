-- Following `next` from the first page gives the whole list.
use Rattle.std.proofs.Common.{◌≡◌, ℕ, ℤ, zero, suc, ◌+◌, ◌-◌, ◌<◌, ◌≤◌, Bool, true, false, cond, ◌&&◌, T, List, [], ◌∷◌, ◌++◌, map, reverse, length, take, drop, Option, Some, None, Ordering, Less, Equal, Greater, refl, sym, ap, subst, ◌∙◌, append_assoc, arith}
use Rattle.std.specs.Prelude.{nat_lt, if◌then◌else◌}
use Rattle.std.specs.Ordering.{is_lt, ordering_reverse}
use Rattle.std.specs.Option.{option_map}
use Rattle.std.specs.List.{filter}
use Rattle.std.specs.Cmp.Lexicographic.{nat_list_cmp_total}
use Rattle.std.specs.FinMap.Entries.{below_all, is_sorted}
use Rattle.std.proofs.lemmas.List.{append-nil, take_all, take-append-drop, length-append, length-drop, reverse-append}
use Rattle.std.proofs.lemmas.Grind.{flat_map-append}
use Rattle.std.proofs.lemmas.Bool.{eqb-true}
use Rattle.std.proofs.lemmas.Bool.Decides.{nat_tests}
use Rattle.lg_containers.specs.NameOrder.{name_order}
use Rattle.lg_containers.specs.NameTable as table
use Rattle.lg_types.specs.declared.filters.After.TheVariants.{Address as AddressPlace}
use Rattle.lg_types.specs.declared.records.Entry.{Entry}
use Rattle.lg_types.specs.declared.records.Transaction.{Transaction}
use Rattle.lg_types.specs.Known.{Dated, dated, entry_transactions, transactions, next_transaction}
use Rattle.lg_types.specs.Lists.{Each, Pairs, last_of}
use Rattle.lg_types.specs.Moves.{body_transaction}
use Rattle.lg_types.proofs.Eachs.{each-map, each-append}
use Rattle.lg_views.specs.Import.{causes, fault, FollowsFrom, is_misnumbered}
use Rattle.lg_views.specs.Pages.{after_place, next_place}
use Rattle.lg_views.specs.Pairs.{with_names, in_byte_order}
use Rattle.lg_views.specs.Reads.{whole_accounts, whole_transactions, whole_entries, is_after_name, is_after_transaction, is_after_entry, transaction_place, entry_place, account_passes, accounts_at, transaction_passes, is_effective_at, entry_passes, is_dated_to}
use Rattle.lg_views.specs.PageLaws.{walk_on, walk, IsLater, IsInOrder, AccountPages, EntryPages, TransactionPages}
use Rattle.lg_views.proofs.TestAnswers.{not_false, all_false}
use Rattle.lg_views.proofs.ReadBack.{last-snoc}

each-at : {A : Type 0} (Q : A → Type 0) (xs ys : List A) (x : A) → Each Q (xs ++ x ∷ ys) → Q x
each-at Q [] ys x h = h.0
each-at Q (y ∷ xs) ys x h = each-at Q xs ys x h.1

module _ {P A : Type 0} (is_after : P → A → Bool) (place : A → P) where
  all_after : (p : P) (xs : List A) → Each (λ y. is_after p y ≡ true) xs → filter (is_after p) xs ≡ xs
  all_after p [] h = refl
  all_after p (x ∷ xs) h = ap (λ b. cond b (x ∷ filter (is_after p) xs) (filter (is_after p) xs)) h.0 ∙ ap (λ l. x ∷ l) (all_after p xs h.1)

  -- what stands after an item's place is what stands behind the item
  cut : ((x : A) → is_after (place x) x ≡ false) → (before rest : List A) (x : A) → Pairs (IsLater is_after place) (before ++ x ∷ rest) → filter (is_after (place x)) (before ++ x ∷ rest) ≡ rest
  cut own [] rest x h =
      ap (λ b. cond b (x ∷ filter (is_after (place x)) rest) (filter (is_after (place x)) rest)) (own x)
      ∙ all_after (place x) rest (each-map (λ y later. later.0) rest h.0)
  cut own (b ∷ before) rest x h =
      ap (λ t. cond t (b ∷ filter (is_after (place x)) (before ++ x ∷ rest)) (filter (is_after (place x)) (before ++ x ∷ rest))) (each-at (IsLater is_after place b) before rest x h.0).1
      ∙ cut own before rest x h.1

  pub cut_here : (whole before rest : List A) (x : A) → IsInOrder is_after place whole → whole ≡ before ++ x ∷ rest → filter (is_after (place x)) whole ≡ rest
  cut_here whole before rest x h e = ap (filter (is_after (place x))) e ∙ cut h.own before rest x (subst (Pairs (IsLater is_after place)) e h.pairs)

-- the last item of a list that has one
record Ends {A : Type 0} (xs : List A) : Type 0 where
  before : List A
  last : A
  is : xs ≡ before ++ last ∷ []

ends-more : {A : Type 0} (x : A) (xs : List A) → Ends xs → Ends (x ∷ xs)
ends-more x xs e = record { before = x ∷ e.before; last = e.last; is = ap (λ l. x ∷ l) e.is }

ends : {A : Type 0} (x : A) (xs : List A) → Ends (x ∷ xs)
ends x [] = record { before = []; last = x; is = refl }
ends x (y ∷ ys) = ends-more x (y ∷ ys) (ends y ys)

ends-take : {A : Type 0} (n : ℕ) (xs : List A) → 0 < n → 0 < length xs → Ends (take n xs)
ends-take n [] h k = absurd (omega (arith, k))
ends-take zero (x ∷ xs) h k = absurd (omega (arith, h))
ends-take (suc n) (x ∷ xs) h k = ends x (take n xs)

module _ {P A : Type 0} (is_after : P → A → Bool) (place : A → P) (size : ℕ) (some : 0 < size) (whole : List A) (order : IsInOrder is_after place whole) where
  -- a page and what follows it, by whether more follows
  shown_on : (before rest : List A) (go : P → List A) → whole ≡ before ++ rest
      → ((before' : List A) (x : A) → whole ≡ before' ++ x ∷ drop size rest → size < length rest → go (place x) ≡ drop size rest)
      → (b : Bool) → nat_lt size (length rest) ≡ b → walk_on (take size rest) (if b then option_map place (last_of (take size rest)) else None) go ≡ rest
  shown_on before rest go e ih false t = take_all size rest (grind (arith, nat_tests, t))
  shown_on before rest go e ih true t =
      let less : size < length rest = grind (arith, nat_tests, t) in
      let end : Ends (take size rest) = ends-take size rest some (omega (arith, less, some)) in
      let parts : take size rest ++ drop size rest ≡ rest = take-append-drop size rest in
      let there : whole ≡ (before ++ end.before) ++ end.last ∷ drop size rest =
      e ∙ ap (λ l. before ++ l) (sym parts ∙ ap (λ l. l ++ drop size rest) end.is ∙ append_assoc end.before (end.last ∷ []) (drop size rest))
      ∙ sym (append_assoc before end.before (end.last ∷ drop size rest)) in
      ap (λ o. walk_on (take size rest) (option_map place o) go) (ap last_of end.is ∙ last-snoc end.before end.last)
      ∙ ap (λ l. take size rest ++ l) (ih (before ++ end.before) end.last there less)
      ∙ parts

  pub walk_from : (n : ℕ) (from : Option P) (before rest : List A) → whole ≡ before ++ rest → after_place is_after from whole ≡ rest → length rest ≤ n → walk is_after place size n from whole ≡ rest
  walk_from zero from before [] e h le = refl
  walk_from zero from before (r ∷ rest) e h le = absurd (omega (arith, le))
  walk_from (suc n) from before rest e h le =
      ap (λ l. walk_on (take size l) (next_place place size l) (λ p. walk is_after place size n (Some p) whole)) h
      ∙ shown_on before rest (λ p. walk is_after place size n (Some p) whole) e
      (λ before' x at less. walk_from n (Some (place x)) (before' ++ x ∷ []) (drop size rest) (at ∙ sym (append_assoc before' (x ∷ []) (drop size rest)))
      (cut_here is_after place whole before' (drop size rest) x order at)
      (let short : length (drop size rest) ≡ length rest - size = length-drop size rest in omega (arith, short, le, some, less)))
      (nat_lt size (length rest)) refl

  pub walk_whole : walk is_after place size (length whole) None whole ≡ whole
  walk_whole = walk_from (length whole) None [] whole refl refl (omega arith)

-- ---- lists in order

pub each-filter : {A : Type 0} (Q : A → Type 0) (p : A → Bool) (xs : List A) → Each Q xs → Each Q (filter p xs)
each-filter Q p [] h = tt
each-filter Q p (x ∷ xs) h = by_test (p x) (each-filter Q p xs h.1)
  where
    by_test : (b : Bool) → Each Q (filter p xs) → Each Q (cond b (x ∷ filter p xs) (filter p xs))
    by_test true k = (h.0, k)
    by_test false k = k

pub pairs-filter : {A : Type 0} (R : A → A → Type 0) (p : A → Bool) (xs : List A) → Pairs R xs → Pairs R (filter p xs)
pairs-filter R p [] h = tt
pairs-filter R p (x ∷ xs) h = by_test (p x) (pairs-filter R p xs h.1)
  where
    by_test : (b : Bool) → Pairs R (filter p xs) → Pairs R (cond b (x ∷ filter p xs) (filter p xs))
    by_test true k = (each-filter (R x) p xs h.0, k)
    by_test false k = k

pub pairs-append : {A : Type 0} (R : A → A → Type 0) (xs ys : List A) → Pairs R xs → Pairs R ys → Each (λ x. Each (R x) ys) xs → Pairs R (xs ++ ys)
pairs-append R [] ys h k m = k
pairs-append R (x ∷ xs) ys h k m = (each-append (R x) xs ys h.0 m.0, pairs-append R xs ys h.1 k m.1)

reverse-cons : {A : Type 0} (x : A) (xs : List A) → reverse (x ∷ xs) ≡ reverse xs ++ x ∷ []
reverse-cons x xs = reverse-append (x ∷ []) xs

each-reverse : {A : Type 0} (Q : A → Type 0) (xs : List A) → Each Q xs → Each Q (reverse xs)
each-reverse Q [] h = tt
each-reverse Q (x ∷ xs) h = subst (Each Q) (sym (reverse-cons x xs)) (each-append Q (reverse xs) (x ∷ []) (each-reverse Q xs h.1) (h.0, tt))

pub pairs-reverse : {A : Type 0} (R S : A → A → Type 0) → ((x y : A) → R x y → S y x) → (xs : List A) → Pairs R xs → Pairs S (reverse xs)
pairs-reverse R S f [] h = tt
pairs-reverse R S f (x ∷ xs) h =
    subst (Pairs S) (sym (reverse-cons x xs))
    (pairs-append S (reverse xs) (x ∷ []) (pairs-reverse R S f xs h.1) (tt, tt) (each-reverse (λ y. Each (S y) (x ∷ [])) xs (each-map (λ y r. (f x y r, tt)) xs h.0)))

-- ---- names

equal_itself : (o : Ordering) → o ≡ ordering_reverse o → is_lt o ≡ false
equal_itself Less h = absurd (let f : Less ≡ Greater = h in cc)
equal_itself Equal h = refl
equal_itself Greater h = refl

pub not_after_itself : (x : List ℕ) → is_lt (name_order x x) ≡ false
not_after_itself x = equal_itself (name_order x x) (nat_list_cmp_total.antisymm x x)

pub turned : (o : Ordering) → is_lt o ≡ true → is_lt (ordering_reverse o) ≡ false
turned Less h = refl
turned Equal h = absurd (let f : false ≡ true = h in cc)
turned Greater h = absurd (let f : false ≡ true = h in cc)

name-later : (x y : List ℕ) → is_lt (name_order x y) ≡ true → IsLater is_after_name AddressPlace x y
name-later x y h = (h, ap is_lt (nat_list_cmp_total.antisymm y x) ∙ turned (name_order x y) h)

pub from_T : (b : Bool) → T b → b ≡ true
from_T true h = refl
from_T false h = absurd h

pub and_first : (a b : Bool) → T (a && b) → T a
and_first true b h = tt
and_first false b h = absurd h

pub and_second : (a b : Bool) → T (a && b) → T b
and_second true b h = h
and_second false b h = absurd h

module _ {V : Type 0} where
  below-each : (x : List ℕ) (es : List (List ℕ × V)) → T (below_all name_order x es) → Each (IsLater is_after_name AddressPlace x) (map (λ p. p.0) es)
  below-each x [] h = tt
  below-each x (e ∷ es) h = (name-later x e.0 (from_T (is_lt (name_order x e.0)) (and_first (is_lt (name_order x e.0)) (below_all name_order x es) h)), below-each x es (and_second (is_lt (name_order x e.0)) (below_all name_order x es) h))

  keys-pairs : (es : List (List ℕ × V)) → T (is_sorted name_order es) → Pairs (IsLater is_after_name AddressPlace) (map (λ p. p.0) es)
  keys-pairs [] h = tt
  keys-pairs (e ∷ es) h = (below-each e.0 es (and_first (below_all name_order e.0 es) (is_sorted name_order es) h), keys-pairs es (and_second (below_all name_order e.0 es) (is_sorted name_order es) h))

names-in_order : (names : List (List ℕ)) → Pairs (IsLater is_after_name AddressPlace) (in_byte_order names)
names-in_order names =
    let t = with_names table.empty names in
    subst (Pairs (IsLater is_after_name AddressPlace)) (sym (table.keys-pairs t)) (keys-pairs (table.pairs_of t) (table.pairs_in_order t))

pub account_pages : AccountPages
account_pages g q some =
    walk_whole is_after_name AddressPlace q.page_size some (whole_accounts g q) (record {
      pairs = pairs-filter (IsLater is_after_name AddressPlace) (account_passes g q.pit q.filter) (in_byte_order (accounts_at g q.pit)) (names-in_order (accounts_at g q.pit));
      own = not_after_itself;
    })

-- ---- entries

pub not_below : (n : ℕ) → nat_lt n n ≡ false
not_below n = grind (arith, nat_tests)

pub falling : (m n : ℕ) → n < m → (nat_lt n m ≡ true) × (nat_lt m n ≡ false)
falling m n h = (grind (arith, nat_tests, h), grind (arith, nat_tests, h))

abbrev IsSooner : Entry → Entry → Type 0
IsSooner x y = x.id < y.id

id-is : (g : List Entry) (e : Entry) → fault g e ≡ None → e.id ≡ length g + 1
id-is g e h = eqb-true e.id (length g + 1) (not_false _ (all_false (causes g e) h).0)

longer : (g : List Entry) (e : Entry) → length (g ++ e ∷ []) ≡ length g + 1
longer g e = length-append g (e ∷ [])

ids-above : (g es : List Entry) → FollowsFrom g es → Each (λ e. length g < e.id) es
ids-above g [] h = tt
ids-above g (e ∷ es) h =
    let id = id-is g e h.0 in
    let long = longer g e in
    (omega (arith, id), each-map (λ x lt. let r : length g < x.id = omega (arith, lt, long) in r) es (ids-above (g ++ e ∷ []) es h.1))

ids-rise : (g es : List Entry) → FollowsFrom g es → Pairs IsSooner es
ids-rise g [] h = tt
ids-rise g (e ∷ es) h =
    let id = id-is g e h.0 in
    let long = longer g e in
    (each-map (λ x lt. let r : e.id < x.id = omega (arith, lt, long, id) in r) es (ids-above (g ++ e ∷ []) es h.1), ids-rise (g ++ e ∷ []) es h.1)

pub entry_pages : EntryPages
entry_pages g q h some =
    walk_whole is_after_entry entry_place q.page_size some (whole_entries g q) (record {
      pairs = pairs-filter (IsLater is_after_entry entry_place) (entry_passes q.filter) (filter (is_dated_to q.pit) (reverse g))
          (pairs-filter (IsLater is_after_entry entry_place) (is_dated_to q.pit) (reverse g)
          (pairs-reverse IsSooner (IsLater is_after_entry entry_place) (λ x y lt. falling y.id x.id lt) g (ids-rise [] g h.follows)));
      own = λ e. not_below e.id;
    })

-- ---- transactions

abbrev IsSmaller : Dated → Dated → Type 0
IsSmaller x y = x.transaction.id < y.transaction.id

transactions-append : (g h : List Entry) → transactions (g ++ h) ≡ transactions g ++ transactions h
transactions-append g h = flat_map-append entry_transactions g h

transactions-snoc : (g : List Entry) (e : Entry) → transactions (g ++ e ∷ []) ≡ transactions g ++ entry_transactions e
transactions-snoc g e = transactions-append g (e ∷ []) ∙ ap (λ l. transactions g ++ l) (append-nil (entry_transactions e))

-- the transaction of an entry that may follow has the next id
one_more : (g : List Entry) (date : ℤ) (o : Option Transaction) → is_misnumbered g o ≡ false → Each (λ d. d.transaction.id ≡ length (transactions g) + 1) (dated date o)
one_more g date None h = tt
one_more g date (Some t) h = (eqb-true t.id (next_transaction g) (not_false _ h), tt)

numbered : (g : List Entry) (e : Entry) → fault g e ≡ None → Each (λ d. d.transaction.id ≡ length (transactions g) + 1) (entry_transactions e)
numbered g e h = one_more g e.date (body_transaction e.body) (all_false (causes g e) h).1.1.1.1.1.0

more_transactions : (g : List Entry) (e : Entry) → length (transactions (g ++ e ∷ [])) ≡ length (transactions g) + length (entry_transactions e)
more_transactions g e = ap length (transactions-snoc g e) ∙ length-append (transactions g) (entry_transactions e)

numbers-above : (g es : List Entry) → FollowsFrom g es → Each (λ d. length (transactions g) < d.transaction.id) (transactions es)
numbers-above g [] h = tt
numbers-above g (e ∷ es) h =
    let more = more_transactions g e in
    each-append (λ d. length (transactions g) < d.transaction.id) (entry_transactions e) (transactions es)
    (each-map (λ d is. let r : length (transactions g) < d.transaction.id = omega (arith, is) in r) (entry_transactions e) (numbered g e h.0))
    (each-map (λ d lt. let r : length (transactions g) < d.transaction.id = omega (arith, lt, more) in r) (transactions es) (numbers-above (g ++ e ∷ []) es h.1))

-- an entry has at most one transaction
alone-pairs : (date : ℤ) (o : Option Transaction) → Pairs IsSmaller (dated date o)
alone-pairs date None = tt
alone-pairs date (Some t) = (tt, tt)

long_one : (date : ℤ) (o : Option Transaction) → Each (λ d. length (dated date o) ≡ 1) (dated date o)
long_one date None = tt
long_one date (Some t) = (refl, tt)

each-two : {A : Type 0} {P Q R : A → Type 0} (f : (x : A) → P x → Q x → R x) (xs : List A) → Each P xs → Each Q xs → Each R xs
each-two f [] h k = tt
each-two f (x ∷ xs) h k = (f x h.0 k.0, each-two f xs h.1 k.1)

numbers-rise : (g es : List Entry) → FollowsFrom g es → Pairs IsSmaller (transactions es)
numbers-rise g [] h = tt
numbers-rise g (e ∷ es) h =
    let more = more_transactions g e in
    let above = numbers-above (g ++ e ∷ []) es h.1 in
    pairs-append IsSmaller (entry_transactions e) (transactions es) (alone-pairs e.date (body_transaction e.body)) (numbers-rise (g ++ e ∷ []) es h.1)
    (each-two (λ d is one.
    each-map (λ x lt. let r : d.transaction.id < x.transaction.id = omega (arith, lt, more, is, one) in r) (transactions es) above)
    (entry_transactions e) (numbered g e h.0) (long_one e.date (body_transaction e.body)))

pub transaction_pages : TransactionPages
transaction_pages g q h some =
    walk_whole is_after_transaction transaction_place q.page_size some (whole_transactions g q) (record {
      pairs = pairs-filter (IsLater is_after_transaction transaction_place) (transaction_passes g q.pit q.filter) (filter (is_effective_at q.pit) (reverse (transactions g)))
          (pairs-filter (IsLater is_after_transaction transaction_place) (is_effective_at q.pit) (reverse (transactions g))
          (pairs-reverse IsSmaller (IsLater is_after_transaction transaction_place) (λ x y lt. falling y.transaction.id x.transaction.id lt) (transactions g) (numbers-rise [] g h.follows)));
      own = λ d. not_below d.transaction.id;
    })
