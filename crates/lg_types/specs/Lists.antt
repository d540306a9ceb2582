-- Words on lists and options that the definitions share.
use Rattle.std.specs.Prelude.{◌≡◌, List, [], ◌∷◌, ◌++◌, Option, Some, None, ⊤}
use Rattle.std.specs.List.{AllZip, last_or}

-- the first value that is there
abbrev pub or_else : {A : Type 0} → Option A → Option A → Option A
or_else None b = b
or_else (Some a) b = Some a

-- the last item
abbrev pub last_of : {A : Type 0} → List A → Option A
last_of xs = last_or None xs

-- the first list is a prefix of the second
abbrev pub IsPrefix : {A : Type 0} → List A → List A → Type 0
IsPrefix {A} xs ys = (rest : List A) × (ys ≡ xs ++ rest)

-- a fact of each item
abbrev pub Each : {A : Type 0} → (A → Type 0) → List A → Type 0
Each P [] = ⊤
Each P (x ∷ xs) = P x × Each P xs

-- a fact of each item and each later one
abbrev pub Pairs : {A : Type 0} → (A → A → Type 0) → List A → Type 0
Pairs R [] = ⊤
Pairs R (x ∷ xs) = Each (R x) xs × Pairs R xs

-- a fact of the items of two lists at each place and each later one
abbrev pub ZipPairs : {A B : Type 0} → (A → B → A → B → Type 0) → List A → List B → Type 0
ZipPairs R [] ys = ⊤
ZipPairs R (x ∷ xs) [] = ⊤
ZipPairs R (x ∷ xs) (y ∷ ys) = AllZip (R x y) xs ys × ZipPairs R xs ys
