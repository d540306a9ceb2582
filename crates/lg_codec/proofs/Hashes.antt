-- The hash that a text stands for.
use Rattle.std.proofs.Common.{◌≡◌, ℕ, List, refl, sym, subst, ap, ◌∙◌}
use Rattle.std.specs.Prelude.{Result, Some}
use Rattle.lg_json.specs.Tree.{Tree, Entry, tree, level, entry_level}
use Rattle.lg_json.specs.Tree.Tree.{text}
use Rattle.lg_json.specs.declared.json.Json.{Json, fold-roll-Json}
use Rattle.lg_json.specs.declared.json.Json.TheOpen.{Json-F}
use Rattle.lg_json.specs.declared.json.Json.TheVariants as variants
use Rattle.lg_readings.specs.EntryLines.{Hash, HashText}
use Rattle.lg_readings.specs.Paths.{Path}
use Rattle.lg_codec.specs.Results.{Reads}
use Rattle.lg_codec.specs.declared.stop.CodecStop.{CodecStop}
use Rattle.lg_codec.proofs.Readings.{onward}

-- the tree of a text
pub text_tree : (t : List ℕ) → tree (variants.Text t) ≡ text t
text_tree t = ap tree (sym (variants.rolls-Text t)) ∙ fold-roll-Json Tree Entry level entry_level (Json-F.Text t)

pub hash_of_text : (path : Path) (value : Json) (t : List ℕ) {r : Result (List ℕ) CodecStop} → tree value ≡ text t → Reads (HashText path t) r → Reads (Hash path (Some (tree value))) r
hash_of_text path value t {r = r} e p = subst (λ (v : Tree). Reads (Hash path (Some v)) r) (sym e) (onward (record { answers = refl }) p)
