-- Names that are new, and those that stand twice.
use Rattle.std.proofs.Common.{◌≡◌, ◌≢◌, ℕ, true, false, ◌||◌, List, [], ◌∷◌, ◌++◌, bytes_eq, refl, sym, ap, ◌∙◌}
use Rattle.std.proofs.lemmas.Bool.{false_from_ne_true, or_parts, false≢true}
use Rattle.std.proofs.lemmas.Slice.Eq.{bytes_eq-Decides}
use Rattle.lg_json.specs.Tree.{Tree, Trees, Members, Entry, trees, entries}
use Rattle.lg_json.specs.Tree.Trees.{none, item}
use Rattle.lg_json.specs.Tree.Members.{no_member, member}
use Rattle.lg_json.specs.Grammar.{IsNew, Fits, AllFit, MembersFit}
use Rattle.lg_json.specs.Reading.{has_name}

pub differ : (a b : List ℕ) → a ≢ b → bytes_eq a b ≡ false
differ a b h = false_from_ne_true (bytes_eq a b) (λ e. h ((bytes_eq-Decides a b).0 e))

pub same_bytes : (a b : List ℕ) → a ≡ b → bytes_eq a b ≡ true
same_bytes a b e = (bytes_eq-Decides a b).1 e

pub has_name-push : (name other : List ℕ) (t : Tree) (ms : List Entry) → has_name name ms ≡ false → other ≢ name → has_name name (ms ++ (other, t) ∷ []) ≡ false
has_name-push name other t [] h ne = ap (λ b. b || false) (differ other name ne)
has_name-push name other t (m ∷ ms) h ne = let p = or_parts (bytes_eq m.0 name) (has_name name ms) h in ap (λ b. b || has_name name (ms ++ (other, t) ∷ [])) p.0 ∙ has_name-push name other t ms p.1 ne

-- the members that are to come, none of whose names stands among ms
abbrev pub AllNew : List Entry → Members → Type 0
AllNew ms no_member = Unit {0}
AllNew ms (member name t us) = (has_name name ms ≡ false) × AllNew ms us

pub new_to_none : (us : Members) → AllNew [] us
new_to_none no_member = tt
new_to_none (member name t us) = (refl, new_to_none us)

pub all_new_push : (ms : List Entry) (other : List ℕ) (u : Tree) (us : Members) → AllNew ms us → IsNew other us → AllNew (ms ++ (other, u) ∷ []) us
all_new_push ms other u no_member h g = tt
all_new_push ms other u (member name t us) h g = (has_name-push name other u ms h.0 g.0, all_new_push ms other u us h.1 g.1)

-- back from lists
abbrev pub list_of : Trees → List Tree
list_of none = []
list_of (item t ts) = t ∷ list_of ts

abbrev pub entries_of : Members → List Entry
entries_of no_member = []
entries_of (member name t ms) = (name, t) ∷ entries_of ms

pub trees-list_of : (ts : Trees) → trees (list_of ts) ≡ ts
trees-list_of none = refl
trees-list_of (item t ts) = ap (λ us. item t us) (trees-list_of ts)

pub entries-entries_of : (ms : Members) → entries (entries_of ms) ≡ ms
entries-entries_of no_member = refl
entries-entries_of (member name t ms) = ap (λ us. member name t us) (entries-entries_of ms)

-- one more member
pub new_push : (name other : List ℕ) (t : Tree) (ms : List Entry) → IsNew name (entries ms) → name ≢ other → IsNew name (entries (ms ++ (other, t) ∷ []))
new_push name other t [] h ne = (ne, tt)
new_push name other t (m ∷ ms) h ne = (h.0, new_push name other t ms h.1 ne)

pub members_fit_push : (room : ℕ) (ms : List Entry) (name : List ℕ) (t : Tree) → MembersFit room (entries ms) → has_name name ms ≡ false → Fits room t → MembersFit room (entries (ms ++ (name, t) ∷ []))
members_fit_push room [] name t h new f = (tt, f, tt)
members_fit_push room (m ∷ ms) name t h new f =
    let p = or_parts (bytes_eq m.0 name) (has_name name ms) new in
    (new_push m.0 name t ms h.0 (λ e. false≢true (sym p.0 ∙ same_bytes m.0 name e)), h.1, members_fit_push room ms name t h.2 p.1 f)

pub all_fit_push : (room : ℕ) (ts : List Tree) (t : Tree) → AllFit room (trees ts) → Fits room t → AllFit room (trees (ts ++ t ∷ []))
all_fit_push room [] t h f = (f, tt)
all_fit_push room (u ∷ us) t h f = (h.0, all_fit_push room us t h.1 f)

pub new_has_not : (name : List ℕ) (ms : List Entry) → IsNew name (entries ms) → has_name name ms ≡ false
new_has_not name [] h = refl
new_has_not name (m ∷ ms) h = ap (λ b. b || has_name name ms) (differ m.0 name (λ e. h.0 (sym e))) ∙ new_has_not name ms h.1

pub not_new : (name : List ℕ) (ms : List Entry) → has_name name ms ≡ true → IsNew name (entries ms) → ⊥
not_new name ms e h = false≢true (sym (new_has_not name ms h) ∙ e)

pub new_of_not : (name : List ℕ) (ms : List Entry) → has_name name ms ≡ false → IsNew name (entries ms)
new_of_not name [] h = tt
new_of_not name (m ∷ ms) h = let p = or_parts (bytes_eq m.0 name) (has_name name ms) h in (λ e. false≢true (sym p.0 ∙ same_bytes m.0 name (sym e)), new_of_not name ms p.1)
