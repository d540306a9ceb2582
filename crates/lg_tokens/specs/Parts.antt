-- The parts of a token's text, and what stands behind each of them.
use Rattle.std.specs.Prelude.{◌≡◌, ◌≢◌, ◌⊎◌, ℕ, ℤ, Bool, nat_eq, if◌then◌else◌, List, [], ◌∷◌, ◌++◌, Option, codes, decimal}
use Rattle.std.specs.List.{AllByRecursion, concat}
use Rattle.lg_base.specs.Texts.{quoted}
use Rattle.lg_json.specs.Tree.{Tree}
use Rattle.lg_json.specs.Grammar.{Fits}
use Rattle.lg_types.specs.PartTexts.{date_text, optional_text}
use Rattle.lg_types.specs.declared.filters.ListKind.{ListKind}
use Rattle.lg_types.specs.declared.filters.Filter.{Filter}
use Rattle.lg_types.specs.declared.filters.After.{After}
use Rattle.lg_readings.specs.FilterReadings.{IsFilter}
use Rattle.lg_views.specs.Tokens.{kind_name, filter_member, after_text}

-- the byte isn't among the bytes
abbrev pub Lacks : ℕ → List ℕ → Type 0
Lacks mark bytes = AllByRecursion (λ b. b ≢ mark) bytes

-- a comma, a quote and a letter begin the bytes: a member whose name begins with a letter of which P holds
pub record Begins (P : ℕ → Type 0) (bytes : List ℕ) : Type 0 where
  pub letter : ℕ
  pub rest : List ℕ
  pub is : bytes ≡ 44 ∷ 34 ∷ letter ∷ rest
  pub holds : P letter

-- a member whose name begins with another letter
abbrev pub IsOther : ℕ → List ℕ → Type 0
IsOther letter bytes = Begins (λ l. l ≢ letter) bytes

-- the members that every list has at its end: `filter`, or `after`
abbrev pub IsTail : List ℕ → Type 0
IsTail bytes = Begins (λ l. (l ≡ 102) ⊎ (l ≡ 97)) bytes

-- the beginning, up to the page size
abbrev pub head_word : ListKind → List ℕ
head_word kind = codes "{\"kind\":" ++ (quoted (kind_name kind) ++ codes ",\"pageSize\":")

abbrev pub head_text : ListKind → ℕ → List ℕ
head_text kind size = head_word kind ++ decimal size

-- a date behind a word
abbrev pub dated : List ℕ → Option ℤ → List ℕ
dated word date = optional_text (λ d. concat (word ∷ date_text d ∷ [])) date

abbrev pub insertion_text : Bool → List ℕ
insertion_text by_insertion = if by_insertion then codes ",\"insertionDate\":true" else []

abbrev pub group_text : ℕ → List ℕ
group_text group = if nat_eq group 0 then [] else concat (codes ",\"groupBy\":" ∷ decimal group ∷ [])

-- the place, and the end
abbrev pub place_text : After → List ℕ
place_text place = codes ",\"after\":" ++ (after_text place ++ codes "}")

abbrev pub tail_text : Filter → After → List ℕ
tail_text filter place = filter_member filter ++ place_text place

-- a filter of the list, of at most 64 lists and objects inside one another
pub record IsShown (kind : ListKind) (filter : Filter) : Type 0 where
  pub shown : Tree
  pub is : IsFilter kind filter shown
  pub fits : Fits 64 shown
