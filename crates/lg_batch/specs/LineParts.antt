-- The texts of the pieces of a reply's line.
use Rattle.std.specs.Prelude.{ℕ, List}
use Rattle.lg_types.specs.CallTexts.{truth_text}
use Rattle.lg_types.specs.PartTexts.{part_text}
use Rattle.lg_views.specs.ReplyTexts.{body_text}
use Rattle.lg_batch.specs.declared.line_parts.LinePart.{LinePart}
use Rattle.lg_batch.specs.declared.line_parts.LinePart.TheVariants.{Base, Truth, Body}

abbrev pub line_part_text : LinePart → List ℕ
line_part_text (Base part) = part_text part
line_part_text (Truth truth) = truth_text truth
line_part_text (Body reply) = body_text reply.now.content
