-- Accounts and assets that are found by what they have.
use Rattle.std.proofs.Common.{◌≡◌, ◌⊎◌, inl, inr, ℕ, suc, ◌+◌, ◌<◌, ◌≤◌, arith, Bool, true, false, cond, ◌&&◌, ◌||◌, T, List, [], ◌∷◌, ◌++◌, length, get_or, take, drop, map, nat_lt, slice_get, Option, Some, None, IsTrue, Ordering, Less, Equal, Greater, refl, sym, ap, ap₂, subst, ◌∙◌}
use Rattle.std.specs.List.{filter, list_any, AllByRecursion}
use Rattle.std.specs.List.Sorted.{IsStrictlySortedBy}
use Rattle.std.specs.Option.{option_map}
use Rattle.std.specs.Ordering.{is_eq, is_lt, eq_by_cmp}
use Rattle.std.specs.Str.{bytes_eq}
use Rattle.std.specs.FinMap.Entries.{find, below_all}
use Rattle.std.proofs.lemmas.Bool.Decides.{nat_tests}
use Rattle.std.proofs.lemmas.List.{append-nil, take_more, take_all, drop_more, drop_all, map-append}
use Rattle.std.proofs.lemmas.Option.{slice_get_within, slice_get_cases, get_or_from_slice_get}
use Rattle.std.proofs.lemmas.List.Elements.{filter-append}
use Rattle.lg_containers.specs.NameOrder.{name_order, is_in_order}
use Rattle.lg_containers.specs.NameTable.{NameTable, get, len, pairs_of, get-pairs, len-pairs, pairs_in_order}
use Rattle.lg_maps.proofs.Shown.{some_is_there}
use Rattle.lg_meta.specs.MetaFold.{dated_change}
use Rattle.lg_types.specs.declared.records.Target.TheVariants.{Account}
use Rattle.lg_types.specs.Changes.{Change, is_about}
use Rattle.lg_types.specs.Moves.{Placed, what_of, is_of}
use Rattle.lg_types.specs.PartLaws.{is_account}
use Rattle.lg_shard.specs.declared.accounts.AccountPart.{AccountPart}
use Rattle.lg_shard.specs.declared.reserved.Reserved.{Reserved}
use Rattle.lg_shard.specs.Accounts.{slot_in, items_of, history_in}
use Rattle.lg_shard.specs.Named.{has_items, is_named, passes, is_named_at, names_where, assets_of, assets_at}
use Rattle.lg_shard.specs.Shown.{ListsExactly}
use Rattle.lg_shard.specs.Ties.{MovesTied, HistoriesTied}
use Rattle.lg_shard.proofs.AccountLemmas.{bytes_same, bytes_itself, order_eq}

pub first_true : (a b : Bool) → (a && b) ≡ true → a ≡ true
first_true true b h = refl
first_true false b h = absurd (let f : false ≡ true = h in cc)

pub second_true : (a b : Bool) → (a && b) ≡ true → b ≡ true
second_true true b h = h
second_true false b h = absurd (let f : false ≡ true = h in cc)

either_true : (a b : Bool) → b ≡ true → (a || b) ≡ true
either_true true b h = refl
either_true false b h = h

neither : (a b : Bool) → a ≡ false → b ≡ false → (a || b) ≡ false
neither true b p q = absurd (let f : true ≡ false = p in cc)
neither false b p q = q

first_false : (a b : Bool) → (a || b) ≡ false → a ≡ false
first_false true b h = h
first_false false b h = refl

second_false : (a b : Bool) → (a || b) ≡ false → b ≡ false
second_false true b h = absurd (let f : true ≡ false = h in cc)
second_false false b h = h

or_swap : (a b : Bool) → (a || b) ≡ (b || a)
or_swap true true = refl
or_swap true false = refl
or_swap false true = refl
or_swap false false = refl

pub from_lt : (r : Ordering) → is_lt r ≡ true → r ≡ Less
from_lt Less h = refl
from_lt Equal h = absurd cc
from_lt Greater h = absurd cc

truth : (b : Bool) → T b → b ≡ true
truth true h = refl
truth false h = absurd h

pub in_order : {V : Type 0} (t : NameTable V) → IsTrue (is_in_order (pairs_of t))
in_order t = truth (is_in_order (pairs_of t)) (pairs_in_order t)

-- ---- names in order

module _ {V : Type 0} where
  not_below : (q : List ℕ) (es : List (List ℕ × V)) → below_all name_order q es ≡ true → find name_order q es ≡ None
  not_below q [] h = refl
  not_below q (e ∷ es) h =
      ap (λ r. cond (is_eq r) (Some e.1) (find name_order q es)) (from_lt _ (first_true (is_lt (name_order q e.0)) _ h))
      ∙ not_below q es (second_true (is_lt (name_order q e.0)) _ h)

  none_after : (a : List ℕ) (e : List ℕ × V) (es : List (List ℕ × V)) → is_in_order (e ∷ es) ≡ true → bytes_eq e.0 a ≡ true → find name_order a es ≡ None
  none_after a e es h b =
      let is : e.0 ≡ a = bytes_same e.0 a b in
      not_below a es (subst (λ q. below_all name_order q es ≡ true) is (first_true (below_all name_order e.0 es) _ h))

module _ {V : Type 0} (test : V → Bool) where
  step : (t b : Bool) (v : V) (o : Option V) (r : Bool) → test v ≡ t → r ≡ passes test o → (b ≡ true → o ≡ None) → ((t && b) || r) ≡ passes test (cond b (Some v) o)
  step true true v o r e h none = sym e
  step false true v o r e h none = h ∙ ap (passes test) (none refl) ∙ sym e
  step true false v o r e h none = h
  step false false v o r e h none = h

  head : (t : Bool) (a : List ℕ) (e : List ℕ × V) (es : List (List ℕ × V)) → list_any (is_account a) (map (λ p. p.0) (cond t (e ∷ es) es)) ≡ ((t && bytes_eq e.0 a) || list_any (is_account a) (map (λ p. p.0) es))
  head true a e es = refl
  head false a e es = refl

  -- a name is among those of the values that pass, where its own value passes
  pub found-where : (a : List ℕ) (pairs : List (List ℕ × V)) → IsTrue (is_in_order pairs) → list_any (is_account a) (names_where test pairs) ≡ passes test (find name_order a pairs)
  found-where a [] h = refl
  found-where a (e ∷ es) h =
      head (test e.1) a e (filter (λ p. test p.1) es)
      ∙ step (test e.1) (bytes_eq e.0 a) e.1 (find name_order a es) _ refl (found-where a es (second_true (below_all name_order e.0 es) _ h)) (none_after a e es h)
      ∙ ap (λ b. passes test (cond b (Some e.1) (find name_order a es))) (sym (order_eq a e.0))

  below-where : (x : List ℕ) (pairs : List (List ℕ × V)) → below_all name_order x pairs ≡ true → AllByRecursion (λ y. name_order x y ≡ Less) (names_where test pairs)
  below-where x [] h = tt
  below-where x (e ∷ es) h = kept (test e.1) (below-where x es (second_true (is_lt (name_order x e.0)) _ h))
    where
      kept : (t : Bool) → AllByRecursion (λ y. name_order x y ≡ Less) (map (λ p. p.0) (filter (λ p. test p.1) es)) → AllByRecursion (λ y. name_order x y ≡ Less) (map (λ p. p.0) (cond t (e ∷ filter (λ p. test p.1) es) (filter (λ p. test p.1) es)))
      kept true rest = (from_lt _ (first_true (is_lt (name_order x e.0)) _ h), rest)
      kept false rest = rest

  -- those names stand in order
  pub order-where : (pairs : List (List ℕ × V)) → IsTrue (is_in_order pairs) → IsStrictlySortedBy name_order (names_where test pairs)
  unfolding IsStrictlySortedBy
  order-where [] h = tt
  order-where (e ∷ es) h = kept (test e.1) (order-where es (second_true (below_all name_order e.0 es) _ h))
    where
      kept : (t : Bool) → IsStrictlySortedBy name_order (map (λ p. p.0) (filter (λ p. test p.1) es)) → IsStrictlySortedBy name_order (map (λ p. p.0) (cond t (e ∷ filter (λ p. test p.1) es) (filter (λ p. test p.1) es)))
      kept true rest = (below-where e.0 es (first_true (below_all name_order e.0 es) _ h), rest)
      kept false rest = rest

  -- a value passes where it passes under its name
  any-none : (pairs : List (List ℕ × V)) → IsTrue (is_in_order pairs) → ((a : List ℕ) → passes test (find name_order a pairs) ≡ false) → list_any (λ p. test p.1) pairs ≡ false
  any-none [] h none = refl
  any-none (e ∷ es) h none =
      neither (test e.1) _ (sym (ap (λ b. passes test (cond b (Some e.1) (find name_order e.0 es))) (order_eq e.0 e.0 ∙ bytes_itself e.0)) ∙ none e.0)
      (any-none es (second_true (below_all name_order e.0 es) _ h) (λ a. later a (bytes_eq e.0 a) refl))
    where
      later : (a : List ℕ) (b : Bool) → bytes_eq e.0 a ≡ b → passes test (find name_order a es) ≡ false
      later a true k = ap (passes test) (none_after a e es h k)
      later a false k = sym (ap (λ b. passes test (cond b (Some e.1) (find name_order a es))) (order_eq a e.0 ∙ k)) ∙ none a

  any-some : (a : List ℕ) (pairs : List (List ℕ × V)) → passes test (find name_order a pairs) ≡ true → list_any (λ p. test p.1) pairs ≡ true
  any-some a [] h = absurd (let f : false ≡ true = h in cc)
  any-some a (e ∷ es) h = at (eq_by_cmp name_order a e.0) (λ k. any-some a es k) h
    where
      at : (b : Bool) → (passes test (find name_order a es) ≡ true → list_any (λ p. test p.1) es ≡ true) → passes test (cond b (Some e.1) (find name_order a es)) ≡ true → (test e.1 || list_any (λ p. test p.1) es) ≡ true
      at true rest k = ap (λ b. b || list_any (λ p. test p.1) es) k
      at false rest k = either_true (test e.1) _ (rest k)

-- ---- moves and changes of an account

abbrev pub of_account : List ℕ → Placed → Bool
of_account a m = bytes_eq m.account a

positive : (n : ℕ) → nat_lt 0 (suc n) ≡ true
positive n = grind (arith, nat_tests)

some_counted : {X Y : Type 0} (f : X → Y) (p : X → Bool) (xs : List X) → nat_lt 0 (length (map f (filter p xs))) ≡ list_any p xs
some_counted f p [] = refl
some_counted f p (x ∷ xs) = at (p x) (some_counted f p xs)
  where
    at : (b : Bool) → nat_lt 0 (length (map f (filter p xs))) ≡ list_any p xs → nat_lt 0 (length (map f (cond b (x ∷ filter p xs) (filter p xs)))) ≡ (b || list_any p xs)
    at true h = positive (length (map f (filter p xs)))
    at false h = h

has_any : (o : Option Reserved) → passes has_items o ≡ nat_lt 0 (length (items_of o))
has_any None = refl
has_any (Some slot) = refl

none_of : (a b : List ℕ) (ms : List Placed) → list_any (of_account a) ms ≡ false → list_any (is_of a b) ms ≡ false
none_of a b [] h = refl
none_of a b (m ∷ ms) h =
    neither (is_of a b m) _ (ap (λ t. t && bytes_eq m.asset b) (first_false (of_account a m) _ h)) (none_of a b ms (second_false (of_account a m) _ h))

some_of : (a : List ℕ) (ms : List Placed) → list_any (of_account a) ms ≡ true → (b : List ℕ) × (list_any (is_of a b) ms ≡ true)
some_of a [] h = absurd (let f : false ≡ true = h in cc)
some_of a (m ∷ ms) h = at (of_account a m) refl (λ k. some_of a ms k) h
  where
    at : (t : Bool) → of_account a m ≡ t → (list_any (of_account a) ms ≡ true → (b : List ℕ) × (list_any (is_of a b) ms ≡ true)) → (t || list_any (of_account a) ms) ≡ true → (b : List ℕ) × (list_any (is_of a b) (m ∷ ms) ≡ true)
    at true e rest k = (m.asset, ap (λ t. t || list_any (is_of a m.asset) ms) (ap₂ (λ x y. x && y) e (bytes_itself m.asset)))
    at false e rest k = let r = rest k in (r.0, either_true (is_of a r.0 m) _ r.1)

any_assets : Option AccountPart → Bool
any_assets None = false
any_assets (Some part) = list_any (λ p. has_items p.1) (pairs_of part.assets)

assets_none : (o : Option AccountPart) → ((b : List ℕ) → passes has_items (slot_in o b) ≡ false) → any_assets o ≡ false
unfolding any_assets
assets_none None h = refl
assets_none (Some part) h = any-none has_items (pairs_of part.assets) (in_order part.assets) (λ b. sym (ap (passes has_items) (get-pairs part.assets b)) ∙ h b)

assets_some : (o : Option AccountPart) (b : List ℕ) → passes has_items (slot_in o b) ≡ true → any_assets o ≡ true
unfolding any_assets
assets_some None b h = absurd (let f : false ≡ true = h in cc)
assets_some (Some part) b h = any-some has_items b (pairs_of part.assets) (sym (ap (passes has_items) (get-pairs part.assets b)) ∙ h)

named_parts : (o : Option AccountPart) → passes is_named o ≡ (nat_lt 0 (length (history_in o).changes) || any_assets o)
unfolding any_assets
named_parts None = refl
named_parts (Some part) = refl

module _ (accounts : NameTable AccountPart) (ms ahead : List Placed) (tied : MovesTied accounts ms ahead) where
  moved : (a b : List ℕ) → passes has_items (slot_in (get accounts a) b) ≡ list_any (is_of a b) ms
  moved a b = has_any (slot_in (get accounts a) b) ∙ ap (λ l. nat_lt 0 (length l)) (tied.items a b) ∙ some_counted what_of (is_of a b) ms

  assets_of_moves : (a : List ℕ) (t : Bool) → list_any (of_account a) ms ≡ t → any_assets (get accounts a) ≡ t
  assets_of_moves a true h = let one = some_of a ms h in assets_some (get accounts a) one.0 (moved a one.0 ∙ one.1)
  assets_of_moves a false h = assets_none (get accounts a) (λ b. moved a b ∙ none_of a b ms h)

  -- the assets that have moves
  pub assets-members : (a b : List ℕ) → list_any (is_account b) (assets_at accounts a) ≡ list_any (is_of a b) ms
  assets-members a b = members_of (get accounts a) ∙ moved a b
    where
      members_of : (o : Option AccountPart) → list_any (is_account b) (assets_of o) ≡ passes has_items (slot_in o b)
      members_of None = refl
      members_of (Some part) = found-where has_items b (pairs_of part.assets) (in_order part.assets) ∙ sym (ap (passes has_items) (get-pairs part.assets b))

  -- the accounts that have moves or changes
  pub named-at : (cs coming : List Change) → HistoriesTied accounts cs coming → (a : List ℕ) → is_named_at accounts a ≡ (list_any (of_account a) ms || list_any (is_about (Account a)) cs)
  named-at cs coming histories a =
      named_parts (get accounts a)
      ∙ ap₂ (λ x y. x || y) (ap (λ l. nat_lt 0 (length l)) (histories.applied a) ∙ some_counted dated_change (is_about (Account a)) cs) (assets_of_moves a (list_any (of_account a) ms) refl)
      ∙ or_swap (list_any (is_about (Account a)) cs) (list_any (of_account a) ms)

pub assets-order : (accounts : NameTable AccountPart) (a : List ℕ) → IsStrictlySortedBy name_order (assets_at accounts a)
unfolding IsStrictlySortedBy
assets-order accounts a = order_of (get accounts a)
  where
    order_of : (o : Option AccountPart) → IsStrictlySortedBy name_order (assets_of o)
    order_of None = tt
    order_of (Some part) = order-where has_items (pairs_of part.assets) (in_order part.assets)

pub accounts-members : (accounts : NameTable AccountPart) (a : List ℕ) → list_any (is_account a) (names_where is_named (pairs_of accounts)) ≡ is_named_at accounts a
accounts-members accounts a = found-where is_named a (pairs_of accounts) (in_order accounts) ∙ sym (ap (passes is_named) (get-pairs accounts a))

pub accounts-order : (accounts : NameTable AccountPart) → IsStrictlySortedBy name_order (names_where is_named (pairs_of accounts))
accounts-order accounts = order-where is_named (pairs_of accounts) (in_order accounts)

-- one value more
where_step : {V : Type 0} (test : V → Bool) (b : Bool) (ps : List (List ℕ × V)) (p : List ℕ × V) → test p.1 ≡ b → names_where test (ps ++ p ∷ []) ≡ names_where test ps ++ cond b (p.0 ∷ []) []
where_step test b ps p e =
    ap (map (λ x. x.0)) (filter-append (λ x. test x.1) ps (p ∷ []))
    ∙ map-append (λ x. x.0) (filter (λ x. test x.1) ps) (cond (test p.1) (p ∷ []) [])
    ∙ ap (λ t. names_where test ps ++ map (λ x. x.0) (cond t (p ∷ []) [])) e
    ∙ ap (λ l. names_where test ps ++ l) (one b)
  where
    one : (t : Bool) → map (λ x. x.0) (cond t (p ∷ []) []) ≡ cond t (p.0 ∷ []) []
    one true = refl
    one false = refl

-- a map has a name at each place below its length
past : {X : Type 0} (xs : List X) (i : ℕ) → i < length xs → None ≡ slice_get xs i → ((x : X) × (i < length xs) × (slice_get xs i ≡ Some x) × (get_or xs i x ≡ x)) ⊎ ((length xs ≤ i) × (slice_get xs i ≡ None)) → ⊥
past xs i within none (inl (x, below, is, at)) = some_is_there x (sym (none ∙ is))
past xs i within none (inr (le, is)) = omega (arith, within, le)

pub place-filled : {X V : Type 0} (t : NameTable V) (i : ℕ) → i < len t → (show : X → List ℕ × V) (found : Option X) → found ≡ None → option_map show found ≡ slice_get (pairs_of t) i → ⊥
place-filled t i within show found none is = past (pairs_of t) i (subst (λ n. i < n) (len-pairs t) within) (ap (option_map show) (sym none) ∙ is) (slice_get_cases (pairs_of t) i).1

-- past the last place of a map everything is listed
module _ {V : Type 0} (test : V → Bool) (t : NameTable V) (n : ℕ) (past : len t ≤ n) where
  whole : length (pairs_of t) ≤ n
  whole = subst (λ m. m ≤ n) (len-pairs t) past

  pub names-all : (names : List (List ℕ)) → names ≡ names_where test (take n (pairs_of t)) → names ≡ names_where test (pairs_of t)
  names-all names e = e ∙ ap (names_where test) (take_all n (pairs_of t) whole)

  pub none-left : (all : Bool) → all ≡ list_any (λ x. test x.1) (drop n (pairs_of t)) → false ≡ all
  none-left all e = sym (e ∙ ap (list_any (λ x. test x.1)) (drop_all n (pairs_of t) whole))

-- a step of a loop over the places of a map, at the pair that it takes
module _ {V : Type 0} (test : V → Bool) (ps : List (List ℕ × V)) (i : ℕ) (p : List ℕ × V) (is : slice_get ps i ≡ Some p) where
  within : i < length ps
  within = slice_get_within ps i p is

  here : get_or ps i p ≡ p
  here = get_or_from_slice_get ps i p p is

  taken : take (i + 1) ps ≡ take i ps ++ p ∷ []
  taken = take_more ps i p within ∙ ap (λ x. take i ps ++ x ∷ []) here

  pub names-pushed : (mid new : List (List ℕ)) (name : List ℕ) → mid ≡ names_where test (take i ps) → test p.1 ≡ true → name ≡ p.0 → new ≡ mid ++ name ∷ [] → new ≡ names_where test (take (i + 1) ps)
  names-pushed mid new name e t n h = h ∙ ap₂ (λ l x. l ++ x ∷ []) e n ∙ sym (ap (names_where test) taken ∙ where_step test true (take i ps) p t)

  pub names-passed : (mid : List (List ℕ)) → mid ≡ names_where test (take i ps) → test p.1 ≡ false → mid ≡ names_where test (take (i + 1) ps)
  names-passed mid e t = e ∙ sym (ap (names_where test) taken ∙ where_step test false (take i ps) p t ∙ append-nil (names_where test (take i ps)))

  rest : drop i ps ≡ p ∷ drop (i + 1) ps
  rest = drop_more ps i p within ∙ ap (λ x. x ∷ drop (i + 1) ps) here

  pub any-passed : (all : Bool) → all ≡ list_any (λ x. test x.1) (drop i ps) → test p.1 ≡ false → all ≡ list_any (λ x. test x.1) (drop (i + 1) ps)
  any-passed all e t = e ∙ ap (list_any (λ x. test x.1)) rest ∙ ap (λ b. b || list_any (λ x. test x.1) (drop (i + 1) ps)) t

  pub any-reached : (all : Bool) → all ≡ list_any (λ x. test x.1) (drop i ps) → test p.1 ≡ true → true ≡ all
  any-reached all e t = sym (e ∙ ap (list_any (λ x. test x.1)) rest ∙ ap (λ b. b || list_any (λ x. test x.1) (drop (i + 1) ps)) t)

-- where nothing passes
pub nothing-listed : (test : List ℕ → Bool) (names : List (List ℕ)) → names ≡ [] → ((name : List ℕ) → false ≡ test name) → ListsExactly names test
unfolding IsStrictlySortedBy
nothing-listed test names none is = subst (λ (l : List (List ℕ)). ListsExactly l test) (sym none) (record { order = tt; members = is })
