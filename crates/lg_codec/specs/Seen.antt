-- What the parts that are read of a JSON value stand for.
use Rattle.std.specs.Prelude.{ℕ, List, Option, map}
use Rattle.std.specs.Borrow.{Bor}
use Rattle.std.specs.Option.{option_map, option_copied}
use Rattle.lg_json.specs.Tree.{Tree, Trees, Members, tree, trees, entries}
use Rattle.lg_json.specs.View.{entries_view}
use Rattle.lg_json.specs.declared.json.Json.{Json}
use Rattle.lg_json.specs.declared.json.Member.{Member}

-- a value, where there is one
abbrev pub value_seen : Option (Bor Json) → Option Tree
value_seen value = option_map tree (option_copied value)

abbrev pub members_seen : List Member → Members
members_seen ms = entries (entries_view ms)

abbrev pub items_seen : List Json → Trees
items_seen items = trees (map tree items)
