-- The texts of JSON values without blanks: lists, and objects member by member.
use Rattle.std.proofs.Common.{◌≡◌, ℕ, ◌-◌, ◌<◌, Bool, true, false, not, ◌&&◌, List, [], ◌∷◌, ◌++◌, refl, sym, ap, subst, ◌∙◌, append_assoc}
use Rattle.std.specs.Prelude.{◌≢◌, T, IsUtf8}
use Rattle.std.specs.List.{AllByRecursion}
use Rattle.std.specs.Str.{bytes_eq}
use Rattle.std.specs.FinMap.Entries.{below_all}
use Rattle.std.proofs.lemmas.Slice.Eq.{bytes_eq-Decides}
use Rattle.std.proofs.lemmas.List.{append-nil}
use Rattle.std.proofs.lemmas.Bool.{both_ways, and_parts, not-true}
use Rattle.lg_base.specs.Texts.{quoted}
use Rattle.lg_containers.specs.CanonicalTexts.{commas, list_text, member_text, members_text}
use Rattle.lg_containers.specs.NameOrder.{name_order, is_in_order}
use Rattle.lg_json.specs.Grammar.{Padded, IsString, IsMember, IsValue, AreItems, AreMembers, IsNew, Fits, AllFit, MembersFit}
use Rattle.lg_json.specs.Tree.{Tree, Trees, Members}
use Rattle.lg_json.specs.Tree.Tree.{list, members}
use Rattle.lg_json.specs.Tree.Trees.{none, item}
use Rattle.lg_json.specs.Tree.Members.{no_member, member}
use Rattle.lg_entry_lines.proofs.Strings.{all_plain, literal_is_string, text_is_string}
use Rattle.lg_entry_lines.proofs.Tables.{first_before, others_in_order, before_next, before_others}

padded : (P : List ℕ → Type 0) (bytes : List ℕ) → P bytes → Padded P bytes
padded P bytes p = ([], bytes, [], tt, p, tt, sym (append-nil bytes))

pub is_member : (name : List ℕ) (t : Tree) (bytes : List ℕ) → IsString name (quoted name) → IsValue t bytes → IsMember name (IsValue t) (quoted name ++ 58 ∷ bytes)
is_member name t bytes s v = (quoted name, bytes, padded (IsString name) (quoted name) s, padded (IsValue t) bytes v, refl)

-- ---- objects with members of their own, one after another

-- what stands after a member: further members, each after a comma, up to the rest
pub record Follows (ms : Members) (bytes rest : List ℕ) : Type 0 where
  pub front : List ℕ
  pub extends : (name : List ℕ) (t : Tree) (first : List ℕ) → IsMember name (IsValue t) first → AreMembers (member name t ms) (first ++ front)
  pub parts : bytes ≡ front ++ rest

abbrev own : List ℕ → List ℕ → List ℕ
own name text = quoted name ++ 58 ∷ text

after_own : (name text bytes front rest : List ℕ) → bytes ≡ front ++ rest → quoted name ++ 58 ∷ (text ++ bytes) ≡ (own name text ++ front) ++ rest
after_own name text bytes front rest e =
    sym (append_assoc (quoted name) (58 ∷ text) bytes) ∙ ap (λ (l : List ℕ). own name text ++ l) e ∙ sym (append_assoc (own name text) front rest)

own_member : (name : List ℕ) (t : Tree) (text : List ℕ) → all_plain name ≡ true → IsValue t text → IsMember name (IsValue t) (own name text)
own_member name t text plain v = is_member name t text (literal_is_string name plain) v

pub nothing_more : (rest : List ℕ) → Follows no_member rest rest
nothing_more rest = record { front = []; extends = λ name t first m. subst (IsMember name (IsValue t)) (sym (append-nil first)) m; parts = refl }

pub one_more : (name : List ℕ) (t : Tree) (text : List ℕ) {ms : Members} {bytes rest : List ℕ} → all_plain name ≡ true → IsValue t text → Follows ms bytes rest → Follows (member name t ms) (44 ∷ (quoted name ++ 58 ∷ (text ++ bytes))) rest
one_more name t text {bytes = bytes} {rest = rest} plain v f = record {
  front = 44 ∷ (own name text ++ f.front);
  extends = λ n u first m. (first, own name text ++ f.front, m, f.extends name t (own name text) (own_member name t text plain v), refl);
  parts = ap (λ (l : List ℕ). 44 ∷ l) (after_own name text bytes f.front rest f.parts);
}

-- an object, from its first member on
pub object : (name : List ℕ) (t : Tree) (text : List ℕ) {ms : Members} {bytes : List ℕ} → all_plain name ≡ true → IsValue t text → Follows ms bytes (125 ∷ []) → IsValue (members (member name t ms)) (123 ∷ (quoted name ++ 58 ∷ (text ++ bytes)))
object name t text {bytes = bytes} plain v f =
    (own name text ++ f.front, f.extends name t (own name text) (own_member name t text plain v), ap (λ (l : List ℕ). 123 ∷ l) (after_own name text bytes f.front (125 ∷ []) f.parts))

-- ---- names that are written out

other_name : (x y : List ℕ) → bytes_eq x y ≡ false → x ≢ y
other_name x y h e = both_ways (bytes_eq x y) h ((bytes_eq-Decides x y).1 e)

abbrev pub is_new : List ℕ → Members → Bool
is_new name no_member = true
is_new name (member other t ms) = not (bytes_eq name other) && is_new name ms

new_name : (name : List ℕ) (ms : Members) → is_new name ms ≡ true → IsNew name ms
new_name name no_member h = tt
new_name name (member other t ms) h =
    let p = and_parts (not (bytes_eq name other)) (is_new name ms) h in
    (other_name name other (not-true (bytes_eq name other) p.0), new_name name ms p.1)

-- ---- the limits, member by member

pub record Fitting (room : ℕ) (ms : Members) : Type 0 where
  pub fits : MembersFit room ms

pub none_fits : (room : ℕ) → Fitting room no_member
none_fits room = record { fits = tt }

pub one_fits : {room : ℕ} {name : List ℕ} {t : Tree} {ms : Members} → is_new name ms ≡ true → Fits room t → Fitting room ms → Fitting room (member name t ms)
one_fits {name = name} {ms = ms} new h f = record { fits = (new_name name ms new, h, f.fits) }

pub object_fits : (room : ℕ) (ms : Members) → 0 < room → Fitting (room - 1) ms → Fits room (members ms)
object_fits room ms some f = (some, f.fits)

-- ---- lists

abbrev pub items : {X : Type 0} → (X → Tree) → List X → Trees
items tree [] = none
items tree (x ∷ xs) = item (tree x) (items tree xs)

module _ {X : Type 0} (tree : X → Tree) (P : X → Type 0) where
  items_are : (text : X → List ℕ) → ((x : X) → P x → IsValue (tree x) (text x)) → (xs : List X) → AllByRecursion P xs → AreItems (items tree xs) (commas text xs)
  items_are text is [] h = tt
  items_are text is (x ∷ []) h = ([], text x, [], tt, is x h.0, tt, refl)
  items_are text is (x ∷ y ∷ ys) h = (text x, commas text (y ∷ ys), padded (IsValue (tree x)) (text x) (is x h.0), items_are text is (y ∷ ys) h.1, refl)

  pub list_is : (text : X → List ℕ) → ((x : X) → P x → IsValue (tree x) (text x)) → (xs : List X) → AllByRecursion P xs → IsValue (list (items tree xs)) (list_text text xs)
  list_is text is xs h = (commas text xs, items_are text is xs h, refl)

  pub items_fit : (room : ℕ) → ((x : X) → P x → Fits room (tree x)) → (xs : List X) → AllByRecursion P xs → AllFit room (items tree xs)
  items_fit room fit [] h = tt
  items_fit room fit (x ∷ xs) h = (fit x h.0, items_fit room fit xs h.1)

-- ---- objects of pairs

abbrev pub members_of_pairs : {V : Type 0} → (V → Tree) → List (List ℕ × V) → Members
members_of_pairs tree [] = no_member
members_of_pairs tree (p ∷ ps) = member p.0 (tree p.1) (members_of_pairs tree ps)

-- a pair whose name is UTF-8 and whose value has a text
pub record IsSpelled {V : Type 0} (tree : V → Tree) (text : V → List ℕ) (p : List ℕ × V) : Type 0 where
  pub name : IsUtf8 p.0
  pub value : IsValue (tree p.1) (text p.1)

module _ {V : Type 0} (tree : V → Tree) (P : List ℕ × V → Type 0) where
  pair_is : (text : V → List ℕ) (p : List ℕ × V) → IsSpelled tree text p → IsMember p.0 (IsValue (tree p.1)) (member_text text p)
  pair_is text p s = is_member p.0 (tree p.1) (text p.1) (text_is_string p.0 s.name) s.value

  pairs_are : (text : V → List ℕ) → ((p : List ℕ × V) → P p → IsSpelled tree text p) → (ps : List (List ℕ × V)) → AllByRecursion P ps → AreMembers (members_of_pairs tree ps) (commas (member_text text) ps)
  pairs_are text is [] h = tt
  pairs_are text is (p ∷ []) h = subst (IsMember p.0 (IsValue (tree p.1))) (sym (append-nil (member_text text p))) (pair_is text p (is p h.0))
  pairs_are text is (p ∷ q ∷ qs) h = (member_text text p, commas (member_text text) (q ∷ qs), pair_is text p (is p h.0), pairs_are text is (q ∷ qs) h.1, refl)

  pub object_is : (text : V → List ℕ) → ((p : List ℕ × V) → P p → IsSpelled tree text p) → (ps : List (List ℕ × V)) → AllByRecursion P ps → IsValue (members (members_of_pairs tree ps)) (members_text text ps)
  object_is text is ps h = (commas (member_text text) ps, pairs_are text is ps h, refl)

  pairs_new : (name : List ℕ) (ps : List (List ℕ × V)) → T (below_all name_order name ps) → IsNew name (members_of_pairs tree ps)
  pairs_new name [] h = tt
  pairs_new name (p ∷ ps) h = (before_next name p ps h, pairs_new name ps (before_others name p ps h))

  pub pairs_fit : (room : ℕ) → ((p : List ℕ × V) → P p → Fits room (tree p.1)) → (ps : List (List ℕ × V)) → T (is_in_order ps) → AllByRecursion P ps → MembersFit room (members_of_pairs tree ps)
  pairs_fit room fit [] o h = tt
  pairs_fit room fit (p ∷ ps) o h = (pairs_new p.0 ps (first_before p ps o), fit p h.0, pairs_fit room fit ps (others_in_order p ps o) h.1)
