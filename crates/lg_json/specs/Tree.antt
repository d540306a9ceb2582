-- The values of JSON (RFC 8259, section 3), and which of them a `Json` is.
use Rattle.std.specs.Prelude.{ℕ, Bool, ℤ, List, [], ◌∷◌}
use Rattle.lg_json.specs.declared.json.Json.{Json, fold-Json}
use Rattle.lg_json.specs.declared.json.Json.TheOpen.{Json-F, Member-F}
use Rattle.lg_json.specs.declared.json.Member.{Member, fold-Member}

-- `part` is a number with a fraction or an exponent: its value isn't kept, and no `Json` is one
mutual
  pub data Tree : Type 0 where
    null : Tree
    truth : Bool → Tree
    whole : ℤ → Tree
    part : Tree
    text : List ℕ → Tree
    list : Trees → Tree
    members : Members → Tree

  pub data Trees : Type 0 where
    none : Trees
    item : Tree → Trees → Trees

  pub data Members : Type 0 where
    no_member : Members
    member : List ℕ → Tree → Members → Members

-- a name and its value
abbrev pub Entry : Type 0
Entry = List ℕ × Tree

abbrev pub trees : List Tree → Trees
trees [] = none
trees (t ∷ ts) = item t (trees ts)

abbrev pub entries : List Entry → Members
entries [] = no_member
entries (e ∷ es) = member e.0 e.1 (entries es)

-- one level of a `Json`, with what is inside already seen
abbrev pub level : Json-F Tree Entry → Tree
level Json-F.Null = null
level (Json-F.Truth b) = truth b
level (Json-F.Whole n) = whole n
level (Json-F.Text t) = text t
level (Json-F.List js) = list (trees js)
level (Json-F.Members ms) = members (entries ms)

abbrev pub entry_level : Member-F Tree Entry → Entry
entry_level m = (m.name, m.value)

-- the value that a `Json` is
abbrev pub tree : Json → Tree
tree = fold-Json Tree Entry level entry_level

abbrev pub entry : Member → Entry
entry = fold-Member Tree Entry level entry_level
