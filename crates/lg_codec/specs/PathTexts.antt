-- What stands before the name of a member in the text of a path.
use Rattle.std.specs.Prelude.{ℕ, List, [], codes}
use Rattle.lg_codec.specs.declared.path_parts.Base.{Base}
use Rattle.lg_codec.specs.declared.path_parts.Base.TheVariants.{Body, Data, Transaction}

abbrev pub prefix_text : Base → List ℕ
prefix_text Body = []
prefix_text Data = codes "data."
prefix_text Transaction = codes "data.transaction."
