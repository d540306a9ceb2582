-- The texts of the pieces of a write's text.
use Rattle.std.specs.Prelude.{ℕ, List}
use Rattle.lg_types.specs.PartTexts.{optional_text}
use Rattle.lg_types.specs.RecordPartTexts.{body_part_text}
use Rattle.lg_types.specs.CallTexts.{truth_text, timestamp_text}
use Rattle.lg_types.specs.declared.call_parts.CallPart.{CallPart}
use Rattle.lg_types.specs.declared.call_parts.CallPart.TheVariants.{Body, Truth, Timestamp}

abbrev pub call_part_text : CallPart → List ℕ
call_part_text (Body part) = body_part_text part
call_part_text (Truth truth) = truth_text truth
call_part_text (Timestamp timestamp) = optional_text timestamp_text timestamp.now
