use Rattle.std.proofs.Common.{ap, sym, ◌∙◌}
use Rattle.lg_json.specs.Tree.{tree}
use Rattle.lg_json.specs.Tree.Tree.{text}
use Rattle.lg_codec.specs.PathParts.{path_of}
use Rattle.lg_codec.proofs.Hashes.{text_tree, hash_of_text}
use Rattle.lg_codec.proofs.entry_lines.some_hash_of.Goals as goal

pub returns-in-Text : goal.returns-in-Text
returns-in-Text c =
    hash_of_text (path_of c.args.path.now) c.args.value.now c.bytes.result.now
    (ap tree c.in-Text.is ∙ text_tree c.in-Text.text ∙ ap text (sym c.bytes.ensures.value))
    c.read_hash.ensures
