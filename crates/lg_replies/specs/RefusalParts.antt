-- The texts of the pieces of a text that tells of a refusal.
use Rattle.std.specs.Prelude.{ℕ, List}
use Rattle.lg_base.specs.Texts.{quoted}
use Rattle.lg_views.specs.RefusalTexts.{code_of, message_text}
use Rattle.lg_views.specs.ReplyTexts.{description}
use Rattle.lg_replies.specs.declared.refusal_parts.RefusalPart.{RefusalPart}
use Rattle.lg_replies.specs.declared.refusal_parts.RefusalPart.TheVariants.{Plain, Code, Message, Description}

abbrev pub refusal_part_text : RefusalPart → List ℕ
refusal_part_text (Plain bytes) = bytes.now
refusal_part_text (Code refusal) = quoted (code_of refusal.now)
refusal_part_text (Message refusal) = quoted (message_text refusal.now)
refusal_part_text (Description element refusal) = quoted (description element refusal.now)
