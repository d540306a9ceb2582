-- The places of the changes of a name: how they grow, and which stay below a limit.
use Rattle.std.proofs.Common.{◌≡◌, ℕ, zero, suc, ◌+◌, ◌<◌, ◌≤◌, Bool, true, false, cond, List, [], ◌∷◌, ◌++◌, length, take, filter, nat_lt, refl, sym, ap, ap₂, ◌∙◌, arith, append_assoc, append-nil}
use Rattle.std.proofs.lemmas.List.Elements.{filter-append}
use Rattle.std.specs.Ordering.{eq_by_cmp}
use Rattle.lg_containers.specs.NameOrder.{name_order}
use Rattle.lg_types.specs.declared.changes.MetaChange.{MetaChange}
use Rattle.lg_meta.specs.Index.{names, hits, places}

cond-append : (b : Bool) (k : ℕ) (xs ys : List ℕ) → cond b (k ∷ (xs ++ ys)) (xs ++ ys) ≡ cond b (k ∷ xs) xs ++ ys
cond-append true k xs ys = refl
cond-append false k xs ys = refl

pub hits-append : (q : List ℕ) (k : ℕ) (xs ys : List (List ℕ)) → hits q k (xs ++ ys) ≡ hits q k xs ++ hits q k ys
hits-append q k [] ys = refl
hits-append q k (x ∷ xs) ys =
    ap (λ h. cond (eq_by_cmp name_order q x) (k ∷ h) h) (hits-append q k xs ys)
    ∙ cond-append (eq_by_cmp name_order q x) k (hits q k xs) (hits q k ys)

pub places-append : (q : List ℕ) (k : ℕ) (cs ds : List MetaChange) → places q k (cs ++ ds) ≡ places q k cs ++ places q (k + length cs) ds
places-append q k [] ds = ap (λ n. places q n ds) (omega arith)
places-append q k (c ∷ cs) ds =
    ap (λ ps. hits q k (names c) ++ ps) (places-append q (suc k) cs ds)
    ∙ sym (append_assoc (hits q k (names c)) (places q (suc k) cs) (places q (suc k + length cs) ds))
    ∙ ap (λ n. (hits q k (names c) ++ places q (suc k) cs) ++ places q n ds) (omega arith)

pub places-push : (q : List ℕ) (cs : List MetaChange) (c : MetaChange) → places q 0 (cs ++ c ∷ []) ≡ places q 0 cs ++ hits q (length cs) (names c)
places-push q cs c =
    places-append q 0 cs (c ∷ [])
    ∙ ap (λ ps. places q 0 cs ++ ps) (append-nil (hits q (0 + length cs) (names c)) ∙ ap (λ n. hits q n (names c)) (omega arith))

nested : (b : Bool) (k : ℕ) (h : List ℕ) → cond b (k ∷ cond b h []) (cond b h []) ≡ cond b (k ∷ h) []
nested true k h = refl
nested false k h = refl

same_ends : (b : Bool) (h : List ℕ) → cond b h h ≡ h
same_ends true h = refl
same_ends false h = refl

filter-hit : (p : ℕ → Bool) (b : Bool) (k : ℕ) (h : List ℕ) → filter p h ≡ cond (p k) h [] → filter p (cond b (k ∷ h) h) ≡ cond (p k) (cond b (k ∷ h) h) []
filter-hit p true k h e = ap (λ g. cond (p k) (k ∷ g) g) e ∙ nested (p k) k h
filter-hit p false k h e = e

pub filter-hits : (p : ℕ → Bool) (q : List ℕ) (k : ℕ) (ns : List (List ℕ)) → filter p (hits q k ns) ≡ cond (p k) (hits q k ns) []
filter-hits p q k [] = sym (same_ends (p k) [])
filter-hits p q k (n ∷ ns) = filter-hit p (eq_by_cmp name_order q n) k (hits q k ns) (filter-hits p q k ns)

is_below : (k n : ℕ) → k < n → nat_lt k n ≡ true
is_below k n h = grind arith

is_not_below : (k n : ℕ) → n ≤ k → nat_lt k n ≡ false
is_not_below k n h = grind arith

pub hits-below : (q : List ℕ) (k n : ℕ) (ns : List (List ℕ)) → k < n → filter (λ p. nat_lt p n) (hits q k ns) ≡ hits q k ns
hits-below q k n ns h = filter-hits (λ p. nat_lt p n) q k ns ∙ ap (λ b. cond b (hits q k ns) []) (is_below k n h)

pub hits-from : (q : List ℕ) (k n : ℕ) (ns : List (List ℕ)) → n ≤ k → filter (λ p. nat_lt p n) (hits q k ns) ≡ []
hits-from q k n ns h = filter-hits (λ p. nat_lt p n) q k ns ∙ ap (λ b. cond b (hits q k ns) []) (is_not_below k n h)

pub places-below : (q : List ℕ) (k n : ℕ) (cs : List MetaChange) → k + length cs ≤ n → filter (λ p. nat_lt p n) (places q k cs) ≡ places q k cs
places-below q k n [] h = refl
places-below q k n (c ∷ cs) h =
    filter-append (λ p. nat_lt p n) (hits q k (names c)) (places q (suc k) cs)
    ∙ ap₂ (λ xs ys. xs ++ ys) (hits-below q k n (names c) (omega arith)) (places-below q (suc k) n cs (omega arith))

pub places-from : (q : List ℕ) (k n : ℕ) (cs : List MetaChange) → n ≤ k → filter (λ p. nat_lt p n) (places q k cs) ≡ []
places-from q k n [] h = refl
places-from q k n (c ∷ cs) h =
    filter-append (λ p. nat_lt p n) (hits q k (names c)) (places q (suc k) cs)
    ∙ ap₂ (λ xs ys. xs ++ ys) (hits-from q k n (names c) h) (places-from q (suc k) n cs (omega arith))

places-cut : (q : List ℕ) (k n : ℕ) (cs : List MetaChange) → filter (λ p. nat_lt p (k + n)) (places q k cs) ≡ places q k (take n cs)
places-cut q k zero cs = places-from q k (k + 0) cs (omega arith)
places-cut q k (suc n) [] = refl
places-cut q k (suc n) (c ∷ cs) =
    filter-append (λ p. nat_lt p (k + suc n)) (hits q k (names c)) (places q (suc k) cs)
    ∙ ap₂ (λ xs ys. xs ++ ys) (hits-below q k (k + suc n) (names c) (omega arith))
    (ap (λ m. filter (λ p. nat_lt p m) (places q (suc k) cs)) (omega arith) ∙ places-cut q (suc k) n cs)

pub places-take : (q : List ℕ) (n : ℕ) (cs : List MetaChange) → filter (λ p. nat_lt p n) (places q 0 cs) ≡ places q 0 (take n cs)
places-take q n cs = ap (λ m. filter (λ p. nat_lt p m) (places q 0 cs)) (omega arith) ∙ places-cut q 0 n cs
