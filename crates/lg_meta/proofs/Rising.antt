-- Dates that never fall, and the tests that follow them.
use Rattle.std.proofs.Common.{◌≡◌, ℕ, zero, suc, ◌<◌, ◌≤◌, ℤ, ◌≤ℤ◌, Bool, true, false, cond, List, [], ◌∷◌, ◌++◌, length, get_or, take, filter, slice_get, IfSome, Option, Some, None, refl, ap, ◌∙◌, arith}
use Rattle.std.specs.List.{AllWithin}
use Rattle.std.specs.List.Sorted.{IsPartitionedBy}
use Rattle.std.specs.Ordering.{eq_by_cmp}
use Rattle.std.proofs.lemmas.Int.{ints}
use Rattle.lg_containers.specs.NameOrder.{name_order}
use Rattle.lg_types.specs.declared.changes.MetaChange.{MetaChange}
use Rattle.lg_meta.specs.declared.change.DatedChange.{DatedChange}
use Rattle.lg_types.specs.Tally.{is_to}
use Rattle.lg_meta.specs.MetaFold.{last_date}
use Rattle.lg_meta.specs.Index.{names, hits, places, is_there_by, IsFrom, IsRising}

-- one more date behind the last
IsFrom-push : (date : ℤ) (cs : List DatedChange) (c : DatedChange) → IsFrom date cs → date ≤ℤ c.date → IsFrom date (cs ++ c ∷ [])
IsFrom-push date [] c from le = (le, tt)
IsFrom-push date (d ∷ ds) c from le = (from.0, IsFrom-push date ds c from.1 le)

from_last : (d : DatedChange) (cs : List DatedChange) (date : ℤ) → IsFrom d.date cs → IsRising cs → IfSome (last_date (d ∷ cs)) (λ last. last ≤ℤ date) → d.date ≤ℤ date
from_last d [] date from rising h = h
from_last d (e ∷ es) date from rising h =
    let first : d.date ≤ℤ e.date = from.0 in
    let then : e.date ≤ℤ date = from_last e es date rising.0 rising.1 h in
    omega (arith, ints)

rest_last : (d : DatedChange) (cs : List DatedChange) (date : ℤ) → IfSome (last_date (d ∷ cs)) (λ last. last ≤ℤ date) → IfSome (last_date cs) (λ last. last ≤ℤ date)
rest_last d [] date h = tt
rest_last d (e ∷ es) date h = h

pub IsRising-push : (cs : List DatedChange) (c : DatedChange) → IsRising cs → IfSome (last_date cs) (λ last. last ≤ℤ c.date) → IsRising (cs ++ c ∷ [])
IsRising-push [] c rising h = (tt, tt)
IsRising-push (d ∷ ds) c rising h =
    (IsFrom-push d.date ds c rising.0 (from_last d ds c.date rising.0 rising.1 h), IsRising-push ds c rising.1 (rest_last d ds c.date h))

-- what is dated at most at a date, so is what stands before it
earlier : (date : Option ℤ) (a b : ℤ) → a ≤ℤ b → is_to date b ≡ true → is_to date a ≡ true
earlier None a b le h = refl
earlier (Some date) a b le h = grind (arith, ints)

by_from : (date : Option ℤ) (d : ℤ) (cs : List DatedChange) (n : ℕ) → IsFrom d cs → is_there_by date (slice_get cs n) ≡ true → is_to date d ≡ true
by_from date d [] n from h = absurd cc
by_from date d (c ∷ cs) zero from h = earlier date d c.date from.0 h
by_from date d (c ∷ cs) (suc n) from h = by_from date d cs n from.1 h

there_before : (date : Option ℤ) (cs : List DatedChange) (m n : ℕ) → IsRising cs → m ≤ n → is_there_by date (slice_get cs n) ≡ true → is_there_by date (slice_get cs m) ≡ true
there_before date [] m n rising le h = absurd cc
there_before date (c ∷ cs) zero zero rising le h = h
there_before date (c ∷ cs) zero (suc n) rising le h = by_from date c.date cs n rising.0 h
there_before date (c ∷ cs) (suc m) zero rising le h = absurd (omega arith)
there_before date (c ∷ cs) (suc m) (suc n) rising le h = there_before date cs m n rising.1 (omega arith) h

-- places never fall
abbrev pub IsAbove : ℕ → List ℕ → Type 0
IsAbove k xs = (j d : ℕ) → j < length xs → k ≤ get_or xs j d

abbrev pub IsClimbing : List ℕ → Type 0
IsClimbing xs = (i j d : ℕ) → i ≤ j → j < length xs → get_or xs i d ≤ get_or xs j d

above-cons : (k x : ℕ) (xs : List ℕ) → k ≤ x → IsAbove k xs → IsAbove k (x ∷ xs)
above-cons k x xs le h zero d lt = le
above-cons k x xs le h (suc j) d lt = h j d (omega arith)

above-hits : (q : List ℕ) (k : ℕ) (ns : List (List ℕ)) (rest : List ℕ) → IsAbove k rest → IsAbove k (hits q k ns ++ rest)
above-hits q k [] rest h = h
above-hits q k (n ∷ ns) rest h =
    let more : IsAbove k (hits q k ns ++ rest) = above-hits q k ns rest h in
    elim (eq_by_cmp name_order q n) as (λ b. IsAbove k (cond b (k ∷ hits q k ns) (hits q k ns) ++ rest))
    [ true ↦ above-cons k k (hits q k ns ++ rest) (omega arith) more | false ↦ more ]

above-none : (k : ℕ) → IsAbove k []
above-none k j d lt = absurd (omega arith)

above-places : (q : List ℕ) (k : ℕ) (cs : List MetaChange) → IsAbove k (places q k cs)
above-places q k [] = above-none k
above-places q k (c ∷ cs) =
    above-hits q k (names c) (places q (suc k) cs) (λ j d lt. let more : suc k ≤ get_or (places q (suc k) cs) j d = above-places q (suc k) cs j d lt in omega arith)

climbing-cons : (x : ℕ) (xs : List ℕ) → IsAbove x xs → IsClimbing xs → IsClimbing (x ∷ xs)
climbing-cons x xs above h zero zero d le lt = omega arith
climbing-cons x xs above h zero (suc j) d le lt = above j d (omega arith)
climbing-cons x xs above h (suc i) zero d le lt = absurd (omega arith)
climbing-cons x xs above h (suc i) (suc j) d le lt = h i j d (omega arith) (omega arith)

climbing-hits : (q : List ℕ) (k : ℕ) (ns : List (List ℕ)) (rest : List ℕ) → IsAbove k rest → IsClimbing rest → IsClimbing (hits q k ns ++ rest)
climbing-hits q k [] rest above h = h
climbing-hits q k (n ∷ ns) rest above h =
    let more : IsClimbing (hits q k ns ++ rest) = climbing-hits q k ns rest above h in
    elim (eq_by_cmp name_order q n) as (λ b. IsClimbing (cond b (k ∷ hits q k ns) (hits q k ns) ++ rest))
    [ true ↦ climbing-cons k (hits q k ns ++ rest) (above-hits q k ns rest above) more | false ↦ more ]

climbing-none : IsClimbing []
climbing-none i j d le lt = absurd (omega arith)

climbing-places : (q : List ℕ) (k : ℕ) (cs : List MetaChange) → IsClimbing (places q k cs)
climbing-places q k [] = climbing-none
climbing-places q k (c ∷ cs) =
    climbing-hits q k (names c) (places q (suc k) cs)
    (λ j d lt. let more : suc k ≤ get_or (places q (suc k) cs) j d = above-places q (suc k) cs j d lt in omega arith)
    (climbing-places q (suc k) cs)

-- so the places that pass the test of a date stand before those that fail it
pub partitioned : (date : Option ℤ) (q : List ℕ) (cs : List DatedChange) (all : List MetaChange) → IsRising cs → IsPartitionedBy (λ p. is_there_by date (slice_get cs p)) (places q 0 all)
partitioned date q cs all rising i j d le lt h =
    there_before date cs (get_or (places q 0 all) i d) (get_or (places q 0 all) j d) rising (climbing-places q 0 all i j d le lt) h

-- what passes a test that a partition point tells apart is the front
none_pass : (p : ℕ → Bool) (xs : List ℕ) → AllWithin (λ x. p x ≡ false) xs 0 (length xs) → filter p xs ≡ []
none_pass p [] fail = refl
none_pass p (x ∷ xs) fail =
    ap (λ b. cond b (x ∷ filter p xs) (filter p xs)) (fail 0 0 (omega arith) (omega arith))
    ∙ none_pass p xs (λ k d low high. fail (suc k) d (omega arith) (omega arith))

pub filter-front : (p : ℕ → Bool) (xs : List ℕ) (n : ℕ) → n ≤ length xs → AllWithin (λ x. p x ≡ true) xs 0 n → AllWithin (λ x. p x ≡ false) xs n (length xs) → filter p xs ≡ take n xs
filter-front p xs zero le pass fail = none_pass p xs fail
filter-front p [] (suc n) le pass fail = absurd (omega arith)
filter-front p (x ∷ xs) (suc n) le pass fail =
    ap (λ b. cond b (x ∷ filter p xs) (filter p xs)) (pass 0 0 (omega arith) (omega arith))
    ∙ ap (λ ys. x ∷ ys) (filter-front p xs n (omega arith) (λ k d low high. pass (suc k) d (omega arith) (omega arith)) (λ k d low high. fail (suc k) d (omega arith) (omega arith)))

pub last_date-push : (cs : List DatedChange) (c : DatedChange) → last_date (cs ++ c ∷ []) ≡ Some c.date
last_date-push [] c = refl
last_date-push (d ∷ []) c = refl
last_date-push (d ∷ e ∷ es) c = last_date-push (e ∷ es) c
