-- How the readings of a filter's parts make up the reading of the whole.
use Rattle.std.proofs.Common.{◌≡◌, ℕ, ◌+◌, ◌<◌, ◌≤◌, Bool, true, false, List, [], ◌∷◌, ◌++◌, take, drop, length, length-append, get_or, take_all, drop_of_length-le, refl, sym, ap, subst, ◌∙◌, arith}
use Rattle.std.specs.Prelude.{Option, Some, None, Result, Ok, Err, MatchBool, IsTrue, ◌↔◌, codes}
use Rattle.std.specs.Result.{IsErrAnd}
use Rattle.std.specs.Str.{bytes_eq}
use Rattle.std.proofs.lemmas.Slice.Eq.{bytes_eq-Decides}
use Rattle.lg_json.specs.declared.json.Json.{Json}
use Rattle.lg_json.specs.declared.json.Member.{Member}
use Rattle.lg_json.specs.Tree.{Tree, Trees, Members, tree}
use Rattle.lg_json.specs.Tree.Tree.{members}
use Rattle.lg_json.specs.Tree.Members.{no_member, member}
use Rattle.lg_types.specs.declared.filters.ListKind.{ListKind}
use Rattle.lg_types.specs.declared.filters.Filter.{Filter, Both, Either, Not}
use Rattle.lg_types.specs.declared.refusals.Refusal.TheVariants.{BadFilter}
use Rattle.lg_readings.specs.Answers.{Answer}
use Rattle.lg_readings.specs.Paths.{Path, below, at_item, path_text}
use Rattle.lg_readings.specs.FilterReadings.{one, is_of_list, IsFilter, LeafFault, FilterFault, ListFault, ItemsFault}
use Rattle.lg_codec.specs.Results.{Reads}
use Rattle.lg_codec.specs.Stops.{StopsWith}
use Rattle.lg_codec.specs.Seen.{members_seen, items_seen}
use Rattle.lg_codec.specs.declared.stop.CodecStop.{CodecStop}
use Rattle.lg_codec.specs.declared.stop.CodecStop.TheVariants.{Refused, NoMemory}
use Rattle.lg_codec.proofs.Readings.{err_is, same_reading, refused}
use Rattle.lg_codec.proofs.Onward.{members_at, items_at}
use Rattle.lg_codec.proofs.ElementLists.{up_to}
use Rattle.lg_filters.specs.AtPaths.{FilterAt, OperatorFault, OperatorAt, LeafAt, AreFiltersOf, ListAt, ItemsAt}
use Rattle.lg_filters.proofs.Faults.{items_fault}
use Rattle.lg_filters.proofs.Rows.{both_is, either_is, not_is}

at_false : (P : Type 0) {Q : Type 0} (b : Bool) → b ≡ false → Q → MatchBool b P Q
at_false P true e q = absurd (let f : true ≡ false = e in cc)
at_false P false e q = q

not_same : (a b : List ℕ) → ¬ (a ≡ b) → bytes_eq a b ≡ false
not_same a b n = go (bytes_eq a b) (bytes_eq-Decides a b).0
  where
    go : (r : Bool) → (r ≡ true → a ≡ b) → r ≡ false
    go true h = absurd (n (h refl))
    go false h = refl

-- a name that was compared with another
pub is_name : (r : Bool) (bytes name other : List ℕ) → bytes ≡ name → (IsTrue r ↔ (bytes ≡ other)) → r ≡ true → name ≡ other
is_name r bytes name other e h t = sym e ∙ h.0 t

pub is_no_name : (r : Bool) (bytes name other : List ℕ) → bytes ≡ name → (IsTrue r ↔ (bytes ≡ other)) → r ≡ false → ¬ (name ≡ other)
is_no_name r bytes name other e h f q = let t : r ≡ true = h.1 (e ∙ q) in cc

-- ---- objects

-- an object of one member
pub one_seen : (ms : List Member) (m : Member) → length ms ≡ 1 → m ≡ get_or ms 0 m → members_seen ms ≡ member m.name (tree m.value) no_member
one_seen ms m e is =
    members_at ms 0 m (omega arith) is ∙ ap (λ (l : List Member). member m.name (tree m.value) (members_seen l)) (let short : length ms ≤ 1 = omega arith in drop_of_length-le ms short)

pub object_read : (kind : ListKind) (path place : Path) (ms : List Member) (m : Member) (r : Result Filter CodecStop) → length ms ≡ 1 → m ≡ get_or ms 0 m → place ≡ below path m.name
    → Reads (OperatorAt kind place m.name (tree m.value)) r → Reads (FilterAt kind path (members (members_seen ms))) r
object_read kind path place ms m r e is at h =
    subst (λ (l : Members). Reads (FilterAt kind path (members l)) r) (sym (one_seen ms m e is)) (subst (λ (p : Path). Reads (OperatorAt kind p m.name (tree m.value)) r) at h)

-- one of several members
several_fault : (kind : ListKind) (path : Path) (ms : List Member) → 2 ≤ length ms → FilterFault kind path (members (members_seen ms)) (Some (path_text path))
several_fault kind path [] h = absurd (omega arith)
several_fault kind path (m ∷ []) h = absurd (omega arith)
several_fault kind path (m ∷ k ∷ ms) h = refl

pub several_read : (kind : ListKind) (path : Path) (ms : List Member) (e : CodecStop) → 2 ≤ length ms → StopsWith (BadFilter (path_text path)) e → Reads (FilterAt kind path (members (members_seen ms))) (Err e)
several_read kind path ms e h stops = refused _ stops (path_text path, several_fault kind path ms h, refl)

-- ---- operators

module _ (kind : ListKind) (path : Path) (name : List ℕ) (over : Tree) where
  pub both_read : (fs : List Filter) → name ≡ codes "$and" → Reads (ListAt kind path over) (Ok fs) → Reads (OperatorAt kind path name over) (Ok (Both fs))
  both_read fs e h = subst (λ (n : List ℕ). Reads (OperatorAt kind path n over) (Ok (Both fs))) (sym e) (record {
    answers = (subst (λ (t : Tree). IsFilter kind (Both fs) (one (codes "$and") t)) (sym h.answers.0.1) (both_is kind fs h.answers.0.0 h.answers.0.2), h.answers.1);
  })

  pub either_read : (fs : List Filter) → name ≡ codes "$or" → Reads (ListAt kind path over) (Ok fs) → Reads (OperatorAt kind path name over) (Ok (Either fs))
  either_read fs e h = subst (λ (n : List ℕ). Reads (OperatorAt kind path n over) (Ok (Either fs))) (sym e) (record {
    answers = (subst (λ (t : Tree). IsFilter kind (Either fs) (one (codes "$or") t)) (sym h.answers.0.1) (either_is kind fs h.answers.0.0 h.answers.0.2), h.answers.1);
  })

  pub not_read : (f : Filter) → name ≡ codes "$not" → Reads (FilterAt kind path over) (Ok f) → Reads (OperatorAt kind path name over) (Ok (Not f))
  not_read f e h = subst (λ (n : List ℕ). Reads (OperatorAt kind path n over) (Ok (Not f))) (sym e) (record {
    answers = (not_is kind f over h.answers.0, h.answers.1);
  })

  leaf_fault_is : ¬ (name ≡ codes "$and") → ¬ (name ≡ codes "$or") → ¬ (name ≡ codes "$not") → (r : Option (List ℕ)) → LeafFault kind path (one name over) r → OperatorFault kind path name over r
  leaf_fault_is a b c r h =
      let l : is_of_list name ≡ false = rw (not_same name (codes "$and") a, not_same name (codes "$or") b) refl in
      at_false (ListFault kind path over r) (is_of_list name) l (at_false (FilterFault kind path over r) (bytes_eq name (codes "$not")) (not_same name (codes "$not") c) h)

  leaf_answers : ¬ (name ≡ codes "$and") → ¬ (name ≡ codes "$or") → ¬ (name ≡ codes "$not") → (x : Answer Filter) → LeafAt kind path name over x → OperatorAt kind path name over x
  leaf_answers a b c (Ok f) h = (h.0, leaf_fault_is a b c None h.1)
  leaf_answers a b c (Err refusal) h = (h.0, leaf_fault_is a b c (Some h.0) h.1, h.2)

  pub leaf_read : (r : Result Filter CodecStop) → ¬ (name ≡ codes "$and") → ¬ (name ≡ codes "$or") → ¬ (name ≡ codes "$not") → Reads (LeafAt kind path name over) r → Reads (OperatorAt kind path name over) r
  leaf_read r a b c h = same_reading (OperatorAt kind path name over) {r = r} (leaf_answers a b c) h

-- ---- lists

-- the items before a place are read, and have no fault
pub record ItemsSoFar (kind : ListKind) (path : Path) (all : List Json) (i : ℕ) (filters : List Filter) : Type 0 where
  pub counted : length filters ≡ i
  pub are : AreFiltersOf kind filters (items_seen (take i all))
  pub on : (r : Option (List ℕ)) → ItemsFault kind path i (items_seen (drop i all)) r → ItemsFault kind path 0 (items_seen all) r

filters_more : (kind : ListKind) (xs : List Json) (fs : List Filter) (x : Json) (f : Filter) → AreFiltersOf kind fs (items_seen xs) → IsFilter kind f (tree x) → AreFiltersOf kind (fs ++ f ∷ []) (items_seen (xs ++ x ∷ []))
filters_more kind [] [] x f are here = (here, refl)
filters_more kind [] (g ∷ fs) x f are here = absurd are
filters_more kind (y ∷ xs) [] x f are here = absurd cc
filters_more kind (y ∷ xs) (g ∷ fs) x f are here = (are.0, filters_more kind xs fs x f are.1 here)

module _ (kind : ListKind) (path : Path) (all : List Json) (i : ℕ) (filters : List Filter) where
  pub items_more : (x : Json) (f : Filter) → ItemsSoFar kind path all i filters → i < length all → x ≡ get_or all i x
      → Reads (FilterAt kind (at_item path i) (tree x)) (Ok f) → ItemsSoFar kind path all (i + 1) (filters ++ f ∷ [])
  items_more x f s h is first = record {
    counted = (let c = s.counted in omega (arith, length-append filters (f ∷ [])));
    are = subst (λ (l : List Json). AreFiltersOf kind (filters ++ f ∷ []) (items_seen l)) (sym (up_to all i x h is)) (filters_more kind (take i all) filters x f s.are first.answers.0);
    on = λ r rest. s.on r (subst (λ (ts : Trees). ItemsFault kind path i ts r) (sym (items_at all i x h is)) (None, r, first.answers.1, rest, refl));
  }

  stopped : (x : Json) (e : CodecStop) → ItemsSoFar kind path all i filters → i < length all → x ≡ get_or all i x
      → Reads (FilterAt kind (at_item path i) (tree x)) (Err e) → Reads (ItemsAt kind path (items_seen all)) (Err e)
  stopped x (Refused refusal) s h is first =
      let a = first.answers in
      let later = items_fault kind path (i + 1) (items_seen (drop (i + 1) all)) in
      record { answers = (a.0, s.on (Some a.0) (subst (λ (ts : Trees). ItemsFault kind path i ts (Some a.0)) (sym (items_at all i x h is)) (Some a.0, later.0, a.1, later.1, refl)), a.2) }
  stopped x NoMemory s h is first = record { answers = tt }

  pub items_stop : (x : Json) (e : CodecStop) (r : Result (List Filter) CodecStop) → ItemsSoFar kind path all i filters → i < length all → x ≡ get_or all i x → IsErrAnd r (λ y. y ≡ e)
      → Reads (FilterAt kind (at_item path i) (tree x)) (Err e) → Reads (ItemsAt kind path (items_seen all)) r
  items_stop x e r s h is failed first =
      subst (λ (q : Result (List Filter) CodecStop). Reads (ItemsAt kind path (items_seen all)) q) (sym (err_is r failed)) (stopped x e s h is first)

  pub items_end : ItemsSoFar kind path all i filters → length all ≤ i → Reads (ItemsAt kind path (items_seen all)) (Ok filters)
  items_end s h = record {
    answers = (
      subst (λ (l : List Json). AreFiltersOf kind filters (items_seen l)) (take_all i all h) s.are,
      s.on None (subst (λ (l : List Json). ItemsFault kind path i (items_seen l) None) (sym (drop_of_length-le all h)) refl),
    );
  }
