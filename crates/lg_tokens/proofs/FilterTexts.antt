-- The text of a filter, in its member and alone.
use Rattle.std.proofs.Common.{◌≡◌, inl, inr, ℕ, cond, List, [], ◌∷◌, ◌++◌, Option, Some, None, get_or, refl, sym, ap, ◌∙◌, arith, append_assoc, append-nil}
use Rattle.std.specs.Prelude.{codes, bytes_eq, MatchOption, Ok, Err}
use Rattle.lg_json.specs.Tree.{Tree}
use Rattle.lg_json.specs.Grammar.{IsJson, IsValue}
use Rattle.lg_types.specs.declared.filters.ListKind.{ListKind}
use Rattle.lg_types.specs.declared.filters.Filter.{Filter, All, Compare, Has, Both', Either', Not'}
use Rattle.lg_types.specs.declared.refusals.Refusal.{Refusal}
use Rattle.lg_readings.specs.FilterReadings.{IsFilter, FilterIn}
use Rattle.lg_readings.specs.Paths.{top}
use Rattle.lg_views.specs.Tokens.{filter_text, filter_member}
use Rattle.lg_tokens.proofs.Cuts.{behind}
use Rattle.lg_tokens.proofs.FilterFaults.{faultless}

-- the member of a text
abbrev member_of : List ℕ → List ℕ
member_of t = cond (bytes_eq t (codes "{}")) [] (codes ",\"filter\":" ++ (t ++ []))

member_of_text : (f : Filter) → filter_member f ≡ member_of (filter_text f)
member_of_text All = refl
member_of_text (Compare op field value) = refl
member_of_text (Has name) = refl
member_of_text (Both' shape filters) = refl
member_of_text (Either' shape filters) = refl
member_of_text (Not' shape filter) = refl

pub members_alike : (f g : Filter) → filter_text f ≡ filter_text g → filter_member f ≡ filter_member g
members_alike f g e = member_of_text f ∙ (ap member_of e ∙ sym (member_of_text g))

text_behind : (t bytes rest more : List ℕ) → bytes ≡ codes ",\"filter\":" ++ rest → bytes ≡ (codes ",\"filter\":" ++ (t ++ [])) ++ more → rest ≡ t ++ more
text_behind t bytes rest more b e = behind (codes ",\"filter\":") rest ((t ++ []) ++ more) (sym b ∙ e) ∙ append_assoc t [] more

-- the text behind the word, where the word is there
pub member_behind : (f : Filter) (bytes rest more : List ℕ) → bytes ≡ codes ",\"filter\":" ++ rest → bytes ≡ filter_member f ++ 44 ∷ 34 ∷ 97 ∷ more → rest ≡ filter_text f ++ 44 ∷ 34 ∷ 97 ∷ more
member_behind All bytes rest more b e =
    let k : 102 ≡ 97 = ap (λ (l : List ℕ). get_or l 2 0) (sym b ∙ e) in absurd (omega (arith, k))
member_behind (Compare op field value) bytes rest more b e = text_behind (filter_text (Compare op field value)) bytes rest (44 ∷ 34 ∷ 97 ∷ more) b e
member_behind (Has name) bytes rest more b e = text_behind (filter_text (Has name)) bytes rest (44 ∷ 34 ∷ 97 ∷ more) b e
member_behind (Both' shape filters) bytes rest more b e = text_behind (filter_text (Both' shape filters)) bytes rest (44 ∷ 34 ∷ 97 ∷ more) b e
member_behind (Either' shape filters) bytes rest more b e = text_behind (filter_text (Either' shape filters)) bytes rest (44 ∷ 34 ∷ 97 ∷ more) b e
member_behind (Not' shape filter) bytes rest more b e = text_behind (filter_text (Not' shape filter)) bytes rest (44 ∷ 34 ∷ 97 ∷ more) b e

-- a JSON text with no blanks around it
pub json_of : (t : Tree) (bytes text : List ℕ) → IsValue t text → bytes ≡ text → IsJson t bytes
json_of t bytes text v e = ([], text, [], tt, v, tt, e ∙ sym (append-nil text))

-- a value that is refused shows no filter
pub refused_shows_none : (kind : ListKind) (t : Tree) (refusal : Refusal) (f : Filter) → FilterIn kind t (Err refusal) → ¬ (IsFilter kind f t)
refused_shows_none kind t refusal f h is = elim h [
  | inl x ↦ (let e : Err refusal ≡ Ok x.0 = x.2 in cc)
  | inr x ↦ (let e : Some x.0 ≡ None = faultless kind f t top (Some x.0) is x.1 in cc)
]

pub match_then : {X : Type 0} (o : Option X) (P Q : X → Type 0) → ((x : X) → P x → Q x) → MatchOption o ⊥ P → MatchOption o ⊥ Q
match_then None P Q f h = h
match_then (Some x) P Q f h = f x h
