-- Texts of lists and of maps, without blanks (RFC 8259, sections 4 and 5).
use Rattle.std.specs.Prelude.{ℕ, List, ◌++◌, codes}
use Rattle.std.specs.List.{join_by}
use Rattle.lg_base.specs.Texts.{quoted}

-- the texts of the items, with commas between them
abbrev pub commas : {X : Type 0} → (X → List ℕ) → List X → List ℕ
commas text xs = join_by text (codes ",") xs

-- an array of the items' texts
abbrev pub list_text : {X : Type 0} → (X → List ℕ) → List X → List ℕ
list_text text xs = codes "[" ++ (commas text xs ++ codes "]")

-- a name as a string, and the text of its value
abbrev pub member_text : {V : Type 0} → (V → List ℕ) → List ℕ × V → List ℕ
member_text text member = quoted member.0 ++ (codes ":" ++ text member.1)

-- an object of the members
abbrev pub members_text : {V : Type 0} → (V → List ℕ) → List (List ℕ × V) → List ℕ
members_text text members = codes "{" ++ (commas (member_text text) members ++ codes "}")
