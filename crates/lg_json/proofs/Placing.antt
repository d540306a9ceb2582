-- An index of names, as one more name comes.
use Rattle.std.proofs.Common.{◌≡◌, ◌⊎◌, inl, inr, ℕ, ◌+◌, ◌-◌, ◌*◌, ◌%◌, ◌^◌, ◌<◌, ◌≤◌, Bool, true, false, ◌==◌, ◌||◌, cond, List, [], ◌∷◌, ◌++◌, length, drop, take, replicate, get_or, set, Option, Some, None, refl, sym, ap, ◌∙◌, subst, arith, length-append}
use Rattle.std.proofs.Math.Nat.{mul_comm, mul-lt-mul_of_pos_left}
use Rattle.std.proofs.Math.Seq.{get_or-append_seam}
use Rattle.std.proofs.lemmas.List.{get_or_append_left, get_or-set_same, get_or-set_other, get_or-replicate, get_or_past, length-replicate, length-set, length-map, drop_more, drop_all, map_more, get_or-map}
use Rattle.std.proofs.lemmas.List.Folds.{list_any-append}
use Rattle.std.proofs.lemmas.Nat.{div_below, mul-lt}
use Rattle.std.proofs.lemmas.Bool.{cases_eq, cases_lt, cond-false, ne_eqb, false_from_ne_true}
use Rattle.std.proofs.lemmas.Slice.Eq.{bytes_eq-Decides}
use Rattle.lg_json.specs.Places.{names_view, has, number_from, name_number, other_number, part_of, HaveParts, slot_of, place_of, slot_place, Comes, set_has, AreFree, IsIndexed, IsAdded, IsAddedTo}
use Rattle.lg_json.specs.Reading.{has_name}
use Rattle.lg_json.specs.Tree.{entry}
use Rattle.lg_json.specs.View.{entries_view}
use Rattle.lg_json.specs.declared.json.Member.{Member}
use Rattle.lg_json.specs.declared.index.NameIndex.{NameIndex}
use Rattle.std.specs.Prelude.{bytes_eq, not}
use Rattle.std.specs.List.{list_any}
use Rattle.std.specs.Cmp.Lexicographic.{slice_cmp}
use Rattle.std.specs.Ordering.{nat_cmp, is_eq}
use Rattle.std.specs.BTreeSet.{BTreeSet, Updates, IsEmpty}
use Rattle.std.proofs.lemmas.Map.Text.{is_eq-slice_cmp}

or_false : (b : Bool) → (b || false) ≡ b
or_false true = refl
or_false false = refl

pub has_push : (names : List (List ℕ)) (name q : List ℕ) → has q (names ++ name ∷ []) ≡ (has q names || bytes_eq name q)
has_push names name q = list_any-append (λ n. bytes_eq n q) names (name ∷ []) ∙ ap (λ b. has q names || b) (or_false (bytes_eq name q))

-- what is known with one more name
abbrev pub Grows : (List ℕ → Bool) → (List ℕ → Bool) → List ℕ → Type 0
Grows known grown name = (q : List ℕ) → grown q ≡ (known q || bytes_eq name q)

grown_false : (known grown : List ℕ → Bool) (name q : List ℕ) → Grows known grown name → bytes_eq name q ≡ false → grown q ≡ known q
grown_false known grown name q g e = g q ∙ ap (λ b. known q || b) e ∙ or_false (known q)

grown_known : (known grown : List ℕ → Bool) (name q : List ℕ) → Grows known grown name → known q ≡ true → grown q ≡ true
grown_known known grown name q g e = g q ∙ ap (λ b. b || bytes_eq name q) e

equal_names : (name q : List ℕ) → bytes_eq name q ≡ true → name ≡ q
equal_names name q e = (bytes_eq-Decides name q).0 e

-- the name gets a place of its own
pub new_place : (names : List (List ℕ)) (known grown : List ℕ → Bool) (f g : List ℕ → Option ℕ) (others : List ℕ → Bool) (name : List ℕ) → Comes known names f others → Grows known grown name
    → ((q : List ℕ) → ((g q ≡ f q) × (bytes_eq name q ≡ false)) ⊎ ((g q ≡ Some (length names)) × (f q ≡ None))) → Comes grown (names ++ name ∷ []) g others
new_place names known grown f g others name c up to = record { within = within; absent = absent; present = present; among = λ q e. grown_known known grown name q up (c.among q e) }
  where
    longer : length (names ++ name ∷ []) ≡ length names + 1
    longer = length-append names (name ∷ [])

    within : (q : List ℕ) (i : ℕ) → g q ≡ Some i → i < length (names ++ name ∷ [])
    within q i e = go (to q)
      where
        go : ((g q ≡ f q) × (bytes_eq name q ≡ false)) ⊎ ((g q ≡ Some (length names)) × (f q ≡ None)) → i < length (names ++ name ∷ [])
        go (inl p) = let old : i < length names = c.within q i (sym p.0 ∙ e) in omega (arith, longer)
        go (inr p) = let same : i ≡ length names = cc in omega (arith, longer)

    absent : (q : List ℕ) → g q ≡ None → grown q ≡ false
    absent q e = go (to q)
      where
        go : ((g q ≡ f q) × (bytes_eq name q ≡ false)) ⊎ ((g q ≡ Some (length names)) × (f q ≡ None)) → grown q ≡ false
        go (inl p) = grown_false known grown name q up p.1 ∙ c.absent q (sym p.0 ∙ e)
        go (inr p) = absurd cc

    present : (q : List ℕ) (i : ℕ) → g q ≡ Some i → grown q ≡ (bytes_eq (get_or (names ++ name ∷ []) i []) q || others q)
    present q i e = go (to q)
      where
        none : f q ≡ None → others q ≡ false
        none n = false_from_ne_true (others q) (λ t. let k : known q ≡ false = c.absent q n in let k2 : known q ≡ true = c.among q t in cc)

        go : ((g q ≡ f q) × (bytes_eq name q ≡ false)) ⊎ ((g q ≡ Some (length names)) × (f q ≡ None)) → grown q ≡ (bytes_eq (get_or (names ++ name ∷ []) i []) q || others q)
        go (inl p) =
            let old : f q ≡ Some i = sym p.0 ∙ e in
            grown_false known grown name q up p.1 ∙ c.present q i old ∙ ap (λ n. bytes_eq n q || others q) (sym (get_or_append_left names (name ∷ []) [] i (c.within q i old)))
        go (inr p) =
            let same : i ≡ length names = cc in
            up q ∙ ap (λ b. b || bytes_eq name q) (c.absent q p.1) ∙ sym (or_false (bytes_eq name q)) ∙ ap (λ b. bytes_eq name q || b) (sym (none p.1))
            ∙ ap (λ n. bytes_eq n q || others q) (sym (get_or-append_seam names name [] [])) ∙ ap (λ k. bytes_eq (get_or (names ++ name ∷ []) k []) q || others q) (sym same)

-- the name is known
pub same_name : (names : List (List ℕ)) (known grown : List ℕ → Bool) (f : List ℕ → Option ℕ) (others : List ℕ → Bool) (name : List ℕ) → Comes known names f others → Grows known grown name → known name ≡ true → Comes grown (names ++ name ∷ []) f others
same_name names known grown f others name c up is =
    record { within = λ q i e. let old : i < length names = c.within q i e in omega (arith, length-append names (name ∷ [])); absent = λ q e. same q ∙ c.absent q e; present = λ q i e. same q ∙ c.present q i e ∙ ap (λ n. bytes_eq n q || others q) (sym (get_or_append_left names (name ∷ []) [] i (c.within q i e))); among = λ q e. same q ∙ c.among q e }
  where
    same : (q : List ℕ) → grown q ≡ known q
    same q = go (bytes_eq name q) refl
      where
        go : (b : Bool) → bytes_eq name q ≡ b → grown q ≡ known q
        go true e = let k : known q ≡ true = ap known (sym (equal_names name q e)) ∙ is in grown_known known grown name q up k ∙ sym k
        go false e = grown_false known grown name q up e

-- the name finds another in its place
pub other_name : (names : List (List ℕ)) (known grown : List ℕ → Bool) (f : List ℕ → Option ℕ) (others more : List ℕ → Bool) (name : List ℕ) (i : ℕ) → Comes known names f others → Grows known grown name → f name ≡ Some i
    → ((q : List ℕ) → more q ≡ cond (bytes_eq name q) true (others q)) → Comes grown (names ++ name ∷ []) f more
other_name names known grown f others more name i c up finds adds =
    record { within = λ q j e. let old : j < length names = c.within q j e in omega (arith, length-append names (name ∷ [])); absent = absent; present = present; among = among }
  where
    absent : (q : List ℕ) → f q ≡ None → grown q ≡ false
    absent q e =
        let other : bytes_eq name q ≡ false = false_from_ne_true (bytes_eq name q) (λ t. let here : f q ≡ Some i = ap f (sym (equal_names name q t)) ∙ finds in cc) in
        grown_false known grown name q up other ∙ c.absent q e

    three : (a b o : Bool) → ((a || o) || b) ≡ (a || cond b true o)
    three true b o = refl
    three false true true = refl
    three false true false = refl
    three false false true = refl
    three false false false = refl

    present : (q : List ℕ) (j : ℕ) → f q ≡ Some j → grown q ≡ (bytes_eq (get_or (names ++ name ∷ []) j []) q || more q)
    present q j e =
        up q ∙ ap (λ b. b || bytes_eq name q) (c.present q j e) ∙ three (bytes_eq (get_or names j []) q) (bytes_eq name q) (others q)
        ∙ ap (λ b. bytes_eq (get_or names j []) q || b) (sym (adds q)) ∙ ap (λ n. bytes_eq n q || more q) (sym (get_or_append_left names (name ∷ []) [] j (c.within q j e)))

    among : (q : List ℕ) → more q ≡ true → grown q ≡ true
    among q e = go (bytes_eq name q) refl
      where
        right : (b : Bool) → (b || true) ≡ true
        right true = refl
        right false = refl

        go : (b : Bool) → bytes_eq name q ≡ b → grown q ≡ true
        go true t = up q ∙ ap (λ b. known q || b) t ∙ right (known q)
        go false t = grown_known known grown name q up (c.among q (ap (λ b. cond b true (others q)) (sym t) ∙ sym (adds q) ∙ e))

-- the number of a name, byte by byte
pub number_more : (name : List ℕ) (n i : ℕ) → i < length name → number_from n (drop i name) ≡ number_from (((n + get_or name i 0) % 2 ^ 64 * 11400714819323198485) % 2 ^ 64) (drop (i + 1) name)
unfolding number_from
number_more name n i h = ap (number_from n) (drop_more name i 0 h)

pub number_done : (name : List ℕ) (n i : ℕ) → length name ≤ i → number_from n (drop i name) ≡ n
unfolding number_from
number_done name n i h = ap (number_from n) (drop_all i name h)

-- the names of members
pub has_members : (ms : List Member) (q : List ℕ) → has q (names_view ms) ≡ has_name q (entries_view ms)
has_members [] q = refl
has_members (m ∷ ms) q = ap (λ b. bytes_eq (entry m).0 q || b) (has_members ms q)

-- a slot that was free is the name's
pub slot_taken : (f : List ℕ → ℕ) (slots : List ℕ) (name : List ℕ) (n s : ℕ) → 0 < length slots → s ≡ slot_of (f name) (length slots) → s < length slots → get_or slots s 0 ≡ 0 → (q : List ℕ)
    → ((slot_place f (set slots s (n + 1)) q ≡ slot_place f slots q) × (bytes_eq name q ≡ false)) ⊎ ((slot_place f (set slots s (n + 1)) q ≡ Some n) × (slot_place f slots q ≡ None))
slot_taken f slots name n s some is within free q = go (cases_eq s (slot_of (f q) (length slots)))
  where
    same_length : length (set slots s (n + 1)) ≡ length slots
    same_length = length-set slots s (n + 1)

    moved : slot_place f (set slots s (n + 1)) q ≡ place_of (get_or (set slots s (n + 1)) (slot_of (f q) (length slots)) 0)
    moved = ap (λ k. place_of (get_or (set slots s (n + 1)) (slot_of (f q) k) 0)) same_length

    one_more : place_of (n + 1) ≡ Some n
    one_more = cond-false (n + 1 == 0) None (Some (n + 1 - 1)) (ne_eqb (n + 1) 0 (λ e. omega arith)) ∙ ap Some (omega arith)

    go : (s ≡ slot_of (f q) (length slots)) ⊎ (s ≡ slot_of (f q) (length slots) → ⊥) → ((slot_place f (set slots s (n + 1)) q ≡ slot_place f slots q) × (bytes_eq name q ≡ false)) ⊎ ((slot_place f (set slots s (n + 1)) q ≡ Some n) × (slot_place f slots q ≡ None))
    go (inl e) =
        inr (
          moved ∙ ap (λ k. place_of (get_or (set slots s (n + 1)) k 0)) (sym e) ∙ ap place_of (get_or-set_same slots s (n + 1) 0 within) ∙ one_more,
          ap (λ k. place_of (get_or slots k 0)) (sym e) ∙ ap place_of free,
        )
    go (inr d) =
        inl (
          moved ∙ ap place_of (get_or-set_other slots s (slot_of (f q) (length slots)) (n + 1) 0 (λ e. d (sym e))),
          false_from_ne_true (bytes_eq name q) (λ t. d (is ∙ ap (λ m. slot_of (f m) (length slots)) (equal_names name q t))),
        )

-- the place of the name, where its slot is taken
pub finds : (f : List ℕ → ℕ) (slots : List ℕ) (name : List ℕ) (s taken : ℕ) → s ≡ slot_of (f name) (length slots) → taken ≡ get_or slots s 0 → (taken ≡ 0 → ⊥) → slot_place f slots name ≡ Some (taken - 1)
finds f slots name s taken is e n =
    ap (λ k. place_of (get_or slots k 0)) (sym is) ∙ ap place_of (sym e) ∙ cond-false (taken == 0) None (Some (taken - 1)) (ne_eqb taken 0 n)

-- a free slot
pub added_new : (f : List ℕ → ℕ) (names : List (List ℕ)) (name : List ℕ) (slots : List ℕ) (known grown others : List ℕ → Bool) (s : ℕ) → Comes known names (slot_place f slots) others → Grows known grown name → 0 < length slots → s ≡ slot_of (f name) (length slots) → s < length slots → get_or slots s 0 ≡ 0
    → (known name ≡ false) × Comes grown (names ++ name ∷ []) (slot_place f (set slots s (length names + 1))) others
added_new f names name slots known grown others s c up some is within free = (
  c.absent name (ap (λ k. place_of (get_or slots k 0)) (sym is) ∙ ap place_of free),
  new_place names known grown (slot_place f slots) (slot_place f (set slots s (length names + 1))) others name c up (slot_taken f slots name (length names) s some is within free),
)

-- the name stands in its slot
pub added_known : (names : List (List ℕ)) (name : List ℕ) (place : List ℕ → Option ℕ) (known grown others : List ℕ → Bool) (i : ℕ) → Comes known names place others → Grows known grown name → place name ≡ Some i → bytes_eq (get_or names i []) name ≡ true
    → (known name ≡ true) × Comes grown (names ++ name ∷ []) place others
added_known names name place known grown others i c up at same =
    let is : known name ≡ true = c.present name i at ∙ ap (λ b. b || others name) same in
    (is, same_name names known grown place others name c up is)

-- another name stands there
pub added_other : (names : List (List ℕ)) (name : List ℕ) (place : List ℕ → Option ℕ) (known grown others more : List ℕ → Bool) (i : ℕ) → Comes known names place others → Grows known grown name → place name ≡ Some i → bytes_eq (get_or names i []) name ≡ false
    → ((q : List ℕ) → more q ≡ cond (bytes_eq name q) true (others q)) → (known name ≡ others name) × Comes grown (names ++ name ∷ []) place more
added_other names name place known grown others more i c up at differs adds =
    (c.present name i at ∙ ap (λ b. b || others name) differs, other_name names known grown place others more name i c up at adds)

-- a name that isn't of theirs
pub longer_names : (names : List (List ℕ)) (name : List ℕ) (place : List ℕ → Option ℕ) (known others : List ℕ → Bool) → Comes known names place others → Comes known (names ++ name ∷ []) place others
longer_names names name place known others c =
    record { within = λ q i e. let old : i < length names = c.within q i e in omega (arith, length-append names (name ∷ [])); absent = c.absent; present = λ q i e. c.present q i e ∙ ap (λ n. bytes_eq n q || others q) (sym (get_or_append_left names (name ∷ []) [] i (c.within q i e))); among = c.among }

pub not_not : (b : Bool) → not (not b) ≡ b
not_not true = refl
not_not false = refl

pub or_cond : (a b : Bool) → (a || b) ≡ cond b true a
or_cond true true = refl
or_cond true false = refl
or_cond false true = refl
or_cond false false = refl

-- slots that are all free
pub zeros : (n i : ℕ) → ◌≡◌ {A = ℕ} (get_or (replicate n 0) i 0) 0
zeros n i = go (cases_lt i n)
  where
    go : (i < n) ⊎ (n ≤ i) → ◌≡◌ {A = ℕ} (get_or (replicate n 0) i 0) 0
    go (inl h) = get_or-replicate n i 0 0 h
    go (inr h) = get_or_past (replicate n 0) i 0 (omega (arith, length-replicate {A = ℕ} n 0))

pub no_names : (f : List ℕ → ℕ) (known others : List ℕ → Bool) (slots : List ℕ) → AreFree slots → ((q : List ℕ) → known q ≡ false) → ((q : List ℕ) → others q ≡ false) → Comes known [] (slot_place f slots) others
no_names f known others slots free none no_others =
    record { within = λ q i e. absurd (not_placed q i e); absent = λ q e. none q; present = λ q i e. absurd (not_placed q i e); among = λ q e. let f : others q ≡ false = no_others q in absurd cc }
  where
    not_placed : (q : List ℕ) (i : ℕ) → slot_place f slots q ≡ Some i → ⊥
    not_placed q i e = let f : slot_place f slots q ≡ None = ap place_of (free (slot_of (f q) (length slots))) in cc

pub empty_index : (index : NameIndex) → index.parts.items ≡ [] → AreFree index.first.items → AreFree index.second.items → 0 < length index.first.items → 0 < length index.second.items → IsEmpty index.others → IsIndexed [] index
empty_index index no_parts a b p q none =
    record { count = ap length no_parts; parts = record { within = omega arith; same = λ i h. absurd (omega arith) }; some = p; more = q; known = λ name. false; comes = no_names name_number (λ name. has name []) (λ name. false) index.first.items a (λ name. refl) (λ name. refl); rest = no_names other_number (λ name. false) (set_has index.others) index.second.items b (λ name. refl) (λ name. ap (λ ks. list_any (λ k. is_eq (slice_cmp nat_cmp name k)) ks) none) }

-- a set of names with one more
pub set_adds : (before after : BTreeSet (List ℕ)) (name : List ℕ) → Updates (slice_cmp nat_cmp) before after name true → (q : List ℕ) → set_has after q ≡ cond (bytes_eq name q) true (set_has before q)
set_adds before after name u q = u.0 q ∙ ap (λ b. cond b true (set_has before q)) (is_eq-slice_cmp name q)

pub is_added : (names : List (List ℕ)) (name : List ℕ) (index : NameIndex) (known is_new : Bool) → has name names ≡ known → is_new ≡ not known → IsIndexed (names ++ name ∷ []) index → IsAdded names name is_new index
is_added names name index true is_new h e i = subst (λ b. IsAdded names name b index) (sym e) (h, i)
is_added names name index false is_new h e i = subst (λ b. IsAdded names name b index) (sym e) (h, i)

-- the members with one more
pub names_push : (ms : List Member) (m : Member) → names_view (ms ++ m ∷ []) ≡ names_view ms ++ (entry m).0 ∷ []
names_push [] m = refl
names_push (k ∷ ms) m = ap (λ l. (entry k).0 ∷ l) (names_push ms m)

pub added_indexed : (names : List (List ℕ)) (name : List ℕ) (is_new : Bool) (index : NameIndex) → IsAdded names name is_new index → IsIndexed (names ++ name ∷ []) index
added_indexed names name true index a = a.1
added_indexed names name false index a = a.1

-- one member more of those that stand in the list
pub names_more : (ms : List Member) (i : ℕ) (name : List ℕ) (is_new : Bool) (index : NameIndex) → i < length ms → name ≡ get_or (names_view ms) i [] → IsAdded (names_view (take i ms)) name is_new index → IsIndexed (names_view (take (i + 1) ms)) index
names_more [] i name is_new index h n a = absurd (omega arith)
names_more (m ∷ ms) i name is_new index h n a =
    let whole = m ∷ ms in
    subst (λ l. IsIndexed l index)
    (ap (λ k. names_view (take i whole) ++ k ∷ []) (n ∙ get_or-map (λ k. (entry k).0) whole i m [] h) ∙ sym (map_more (λ k. (entry k).0) whole i m h))
    (added_indexed (names_view (take i whole)) name is_new index a)

pub names_length : (ms : List Member) → length (names_view ms) ≡ length ms
names_length ms = length-map ms (λ m. (entry m).0)

-- what a look-up says of the members
pub known_name : (ms seen : List Member) (name : List ℕ) (is_new : Bool) (index : Option NameIndex) → seen ≡ ms → is_new ≡ false → IsAddedTo (names_view seen) name is_new index → has_name name (entries_view ms) ≡ true
known_name ms seen name is_new None same e l = absurd l
known_name ms seen name is_new (Some index) same e l = sym (has_members ms name) ∙ ap (λ ns. has name (names_view ns)) (sym same) ∙ (subst (λ b. IsAdded (names_view seen) name b index) e l).0

pub new_name : (ms seen : List Member) (name : List ℕ) (is_new : Bool) (index : Option NameIndex) → seen ≡ ms → is_new ≡ true → IsAddedTo (names_view seen) name is_new index → has_name name (entries_view ms) ≡ false
new_name ms seen name is_new None same e l = absurd l
new_name ms seen name is_new (Some index) same e l =
    let looked : IsAdded (names_view seen) name true index = subst (λ b. IsAdded (names_view seen) name b index) e l in
    sym (has_members ms name) ∙ ap (λ ns. has name (names_view ns)) (sym same) ∙ looked.0

-- what a reading of all members says
pub scanned : (ms seen : List Member) (name bytes : List ℕ) (r b : Bool) → seen ≡ ms → bytes ≡ name → r ≡ has bytes (names_view seen) → r ≡ b → has_name name (entries_view ms) ≡ b
scanned ms seen name bytes r b same equal is e =
    sym (has_members ms name) ∙ ap (λ ns. has name (names_view ns)) (sym same) ∙ ap (λ n. has n (names_view seen)) (sym equal) ∙ sym is ∙ e

-- a slot is one of the slots
pub slot_within : (number count : ℕ) → number < 2 ^ 64 → 0 < count → slot_of number count < count
slot_within number count n some = div_below (number * count) (2 ^ 64) count (omega arith) (subst (λ k. k < count * 2 ^ 64) (mul_comm count number) (mul-lt-mul_of_pos_left n some))

-- no product of two numbers of 64 bits is too wide
pub product_within : (number count : ℕ) → number < 2 ^ 64 → count < 2 ^ 64 → number * count < 2 ^ 128
product_within number count n c = mul-lt number count (2 ^ 64) (2 ^ 64) n c

-- parts of numbers, with that of one more name
pub parts_more : (names : List (List ℕ)) (parts : List ℕ) (name : List ℕ) (part : ℕ) → HaveParts names parts → length parts ≡ length names → part ≡ part_of (name_number name) → HaveParts (names ++ name ∷ []) (parts ++ part ∷ [])
parts_more names parts name part h count is = record { within = omega (arith, length-append names (name ∷ []), length-append parts (part ∷ []), h.within); same = same }
  where
    same : (i : ℕ) → i < length (names ++ name ∷ []) → get_or (parts ++ part ∷ []) i 0 ≡ part_of (name_number (get_or (names ++ name ∷ []) i []))
    same i b = go (cases_lt i (length names))
      where
        go : (i < length names) ⊎ (length names ≤ i) → get_or (parts ++ part ∷ []) i 0 ≡ part_of (name_number (get_or (names ++ name ∷ []) i []))
        go (inl a) =
            get_or_append_left parts (part ∷ []) 0 i (omega (arith, count, a)) ∙ h.same i a
            ∙ ap (λ n. part_of (name_number n)) (sym (get_or_append_left names (name ∷ []) [] i a))
        go (inr a) =
            let last : i ≡ length names = omega (arith, length-append names (name ∷ []), a, b) in
            let last_part : i ≡ length parts = omega (arith, last, count) in
            ap (λ k. get_or (parts ++ part ∷ []) k 0) last_part ∙ get_or-append_seam parts part [] 0 ∙ is
            ∙ ap (λ n. part_of (name_number n)) (sym (get_or-append_seam names name [] [])) ∙ ap (λ k. part_of (name_number (get_or (names ++ name ∷ []) k []))) (sym last)

pub parts_still : (names : List (List ℕ)) (parts grown : List ℕ) (part : ℕ) → HaveParts names parts → grown ≡ parts ++ part ∷ [] → HaveParts names grown
parts_still names parts grown part h e =
    subst (HaveParts names) (sym e) (record { within = omega (arith, length-append parts (part ∷ []), h.within); same = λ i a. get_or_append_left parts (part ∷ []) 0 i (omega (arith, h.within, a)) ∙ h.same i a })

-- a name of another part is another name
pub other_part : (names : List (List ℕ)) (parts : List ℕ) (name : List ℕ) (i part : ℕ) → HaveParts names parts → i < length names → part ≡ part_of (name_number name) → (get_or parts i 0 ≡ part → ⊥) → bytes_eq (get_or names i []) name ≡ false
other_part names parts name i part h b is differs =
    false_from_ne_true (bytes_eq (get_or names i []) name) (λ t. differs (h.same i b ∙ ap (λ n. part_of (name_number n)) (equal_names (get_or names i []) name t) ∙ sym is))

pub more_parts : (names : List (List ℕ)) (parts grown : List ℕ) (name : List ℕ) (part : ℕ) → HaveParts names parts → length parts ≡ length names → grown ≡ parts ++ part ∷ [] → part ≡ part_of (name_number name) → (length grown ≡ length (names ++ name ∷ [])) × HaveParts (names ++ name ∷ []) grown
more_parts names parts grown name part h count e is = subst (λ g. (length g ≡ length (names ++ name ∷ [])) × HaveParts (names ++ name ∷ []) g) (sym e) (omega (arith, length-append parts (part ∷ []), length-append names (name ∷ []), count), parts_more names parts name part h count is)
