-- Where something stands in a body: the names of the members from the top, joined by points, with the place of an item
-- of a list, counted from 0, in brackets.
use Rattle.std.specs.Prelude.{ℕ, List, ◌++◌, Option, Some, None, codes, decimal}

-- none for the whole body
abbrev pub Path : Type 0
Path = Option (List ℕ)

abbrev pub top : Path
top = None

-- a member of what stands there
abbrev pub below : Path → List ℕ → Path
below None name = Some name
below (Some path) name = Some (path ++ (codes "." ++ name))

-- an item of the list that stands there
abbrev pub at_item : Path → ℕ → Path
at_item None place = Some (codes "[" ++ (decimal place ++ codes "]"))
at_item (Some path) place = Some (path ++ (codes "[" ++ (decimal place ++ codes "]")))

-- an item of the list under a name
abbrev pub item_below : Path → List ℕ → ℕ → Path
item_below path name place = below path (name ++ (codes "[" ++ (decimal place ++ codes "]")))

abbrev pub path_text : Path → List ℕ
path_text None = codes "body"
path_text (Some path) = path
