-- The texts of the pieces of a summary.
use Rattle.std.specs.Prelude.{ℕ, List, decimal}
use Rattle.std.specs.Fmt.{signed_decimal}
use Rattle.lg_generator.specs.declared.summary.SummaryPart.{SummaryPart}
use Rattle.lg_generator.specs.declared.summary.SummaryPart.TheVariants.{Plain, Number, Balance}

abbrev pub part_text : SummaryPart → List ℕ
part_text (Plain bytes) = bytes.now
part_text (Number n) = decimal n
part_text (Balance n) = signed_decimal n
