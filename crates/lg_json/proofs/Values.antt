-- The value of a `Json`, for each of its variants.
use Rattle.std.proofs.Common.{◌≡◌, ℕ, Bool, List, map, sym, ap, ◌∙◌}
use Rattle.lg_json.specs.Tree.{Tree, Entry, trees, entries, level, entry_level, tree, entry}
use Rattle.lg_json.specs.Tree.Tree.{null, truth, text, list, members}
use Rattle.lg_json.specs.declared.json.Json.{Json}
use Rattle.lg_json.specs.declared.json.Json.TheFolds.{fold-roll-Json}
use Rattle.lg_json.specs.declared.json.Json.TheOpen.{Json-F}
use Rattle.lg_json.specs.declared.json.Json.TheVariants as variants
use Rattle.lg_json.specs.declared.json.Member.{Member}

pub tree-null : tree variants.Null ≡ null
tree-null = ap tree (sym variants.rolls-Null) ∙ fold-roll-Json Tree Entry level entry_level Json-F.Null

pub tree-truth : (b : Bool) → tree (variants.Truth b) ≡ truth b
tree-truth b = ap tree (sym (variants.rolls-Truth b)) ∙ fold-roll-Json Tree Entry level entry_level (Json-F.Truth b)

pub tree-text : (t : List ℕ) → tree (variants.Text t) ≡ text t
tree-text t = ap tree (sym (variants.rolls-Text t)) ∙ fold-roll-Json Tree Entry level entry_level (Json-F.Text t)

pub tree-list : (js : List Json) → tree (variants.List js) ≡ list (trees (map tree js))
tree-list js = ap tree (sym (variants.rolls-List js)) ∙ fold-roll-Json Tree Entry level entry_level (Json-F.List js)

pub tree-members : (ms : List Member) → tree (variants.Members ms) ≡ members (entries (map entry ms))
tree-members ms = ap tree (sym (variants.rolls-Members ms)) ∙ fold-roll-Json Tree Entry level entry_level (Json-F.Members ms)
