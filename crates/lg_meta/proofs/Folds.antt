-- The value of one name in metadata that was folded.
use Rattle.std.proofs.Common.{◌≡◌, ℕ, ℤ, Bool, true, false, cond, ◌&&◌, ◌||◌, T, List, [], ◌∷◌, filter, Option, Some, None, is_some, Ordering, Less, Equal, Greater, is_eq, is_lt, refl, sym, ap, ap₂, ◌∙◌}
use Rattle.std.specs.Option.{option_or}
use Rattle.std.specs.List.{list_any}
use Rattle.std.specs.Ordering.{eq_by_cmp}
use Rattle.std.specs.FinMap.Entries.{find, below_all, is_some-find}
use Rattle.lg_containers.specs.NameOrder.{name_order, is_in_order}
use Rattle.lg_containers.specs.NameTable.{name_order-same, pairs_of, get, empty, insert, pairs_in_order, get-pairs, get-insert, get-remove, get-empty}
use Rattle.lg_types.specs.declared.changes.MetaChange.{MetaChange}
use Rattle.lg_types.specs.declared.changes.MetaChange.TheVariants.{Set, Drop}
use Rattle.lg_meta.specs.declared.change.DatedChange.{DatedChange}
use Rattle.lg_types.specs.Changes.{MetaOf, put_all, changed}
use Rattle.lg_types.specs.Tally.{is_to}
use Rattle.lg_meta.specs.MetaFold.{folded, meta_at}
use Rattle.lg_meta.specs.Index.{names, value_of}

-- whether the name is one of the names
abbrev pub is_among : List ℕ → List (List ℕ) → Bool
is_among name others = list_any (eq_by_cmp name_order name) others

front_of : (a b : Bool) → T (a && b) → T a
front_of true b h = tt
front_of false b h = absurd h

rest_of : (a b : Bool) → T (a && b) → T b
rest_of true b h = h
rest_of false b h = absurd h

less : (r : Ordering) → T (is_lt r) → r ≡ Less
less Less h = refl
less Equal h = absurd h
less Greater h = absurd h

equal : (r : Ordering) → is_eq r ≡ true → r ≡ Equal
equal Less h = absurd cc
equal Equal h = refl
equal Greater h = absurd cc

or_false : (b : Bool) → (b || false) ≡ b
or_false true = refl
or_false false = refl

pub same_names : (q x : List ℕ) → eq_by_cmp name_order q x ≡ true → q ≡ x
same_names q x e = name_order-same q x (equal (name_order q x) e)

find_below : (x : List ℕ) (pairs : List (List ℕ × List ℕ)) → T (below_all name_order x pairs) → find name_order x pairs ≡ None
find_below x [] h = refl
find_below x (e ∷ es) h =
    ap (λ r. cond (is_eq r) (Some e.1) (find name_order x es)) (less (name_order x e.0) (front_of _ _ h))
    ∙ find_below x es (rest_of _ _ h)

absent : (q x : List ℕ) (pairs : List (List ℕ × List ℕ)) → T (below_all name_order x pairs) → eq_by_cmp name_order q x ≡ true → find name_order q pairs ≡ None
absent q x pairs h e =
    ap (λ n. find name_order n pairs) (same_names q x e) ∙ find_below x pairs h

put_once : (b : Bool) (f g : Option (List ℕ)) (v : List ℕ) → (b ≡ true → f ≡ None) → option_or f (cond b (Some v) g) ≡ option_or (cond b (Some v) f) g
put_once true f g v h = ap (λ o. option_or o (Some v)) (h refl)
put_once false f g v h = refl

get-put_all : (pairs : List (List ℕ × List ℕ)) (meta : MetaOf) (q : List ℕ) → T (is_in_order pairs) → get (put_all meta pairs) q ≡ option_or (find name_order q pairs) (get meta q)
get-put_all [] meta q h = refl
get-put_all (p ∷ ps) meta q h =
    get-put_all ps (insert meta p.0 p.1) q (rest_of _ _ h)
    ∙ ap (option_or (find name_order q ps)) (get-insert meta p.0 p.1 q)
    ∙ put_once (eq_by_cmp name_order q p.0) (find name_order q ps) (get meta q) p.1 (absent q p.0 ps (front_of _ _ h))

or_cond : (f g : Option (List ℕ)) → option_or f g ≡ cond (is_some f) f g
or_cond None g = refl
or_cond (Some v) g = refl

pub get-changed : (meta : MetaOf) (change : MetaChange) (q : List ℕ) → get (changed meta change) q ≡ cond (is_among q (names change)) (value_of q change) (get meta q)
get-changed meta (Set set) q =
    get-put_all (pairs_of set) meta q (pairs_in_order set)
    ∙ or_cond (find name_order q (pairs_of set)) (get meta q)
    ∙ ap₂ (λ b o. cond b o (get meta q)) (is_some-find name_order q (pairs_of set)) (sym (get-pairs set q))
get-changed meta (Drop name) q =
    get-remove meta name q ∙ ap (λ b. cond b None (get meta q)) (sym (or_false (eq_by_cmp name_order q name)))

-- what the changes dated at most at the date make of a value of the name
abbrev pub value_by : Option ℤ → List ℕ → Option (List ℕ) → List DatedChange → Option (List ℕ)
value_by date q o [] = o
value_by date q o (c ∷ cs) = value_by date q (cond (is_to date c.date) (cond (is_among q (names c.change)) (value_of q c.change) o) o) cs

folded-cond : (b : Bool) (meta : MetaOf) (c : DatedChange) (rest : List DatedChange) → folded meta (cond b (c ∷ rest) rest) ≡ folded (cond b (changed meta c.change) meta) rest
folded-cond true meta c rest = refl
folded-cond false meta c rest = refl

get-cond : (b : Bool) (m n : MetaOf) (q : List ℕ) → get (cond b m n) q ≡ cond b (get m q) (get n q)
get-cond true m n q = refl
get-cond false m n q = refl

get-folded : (date : Option ℤ) (q : List ℕ) (meta : MetaOf) (cs : List DatedChange) → get (folded meta (filter (λ c. is_to date c.date) cs)) q ≡ value_by date q (get meta q) cs
get-folded date q meta [] = refl
get-folded date q meta (c ∷ cs) =
    ap (λ m. get m q) (folded-cond (is_to date c.date) meta c (filter (λ d. is_to date d.date) cs))
    ∙ get-folded date q (cond (is_to date c.date) (changed meta c.change) meta) cs
    ∙ ap (λ o. value_by date q o cs) (get-cond (is_to date c.date) (changed meta c.change) meta q ∙ ap (λ o. cond (is_to date c.date) o (get meta q)) (get-changed meta c.change q))

pub get-meta_at : (date : Option ℤ) (q : List ℕ) (cs : List DatedChange) → get (meta_at date cs) q ≡ value_by date q None cs
get-meta_at date q cs = get-folded date q empty cs ∙ ap (λ o. value_by date q o cs) (get-empty (List ℕ) q)
