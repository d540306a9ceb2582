-- The texts of the pieces of the text of volumes.
use Rattle.std.specs.Prelude.{ℕ, List, decimal}
use Rattle.std.specs.Fmt.{signed_decimal}
use Rattle.lg_base.specs.Volumes.{balance_of}
use Rattle.lg_types.specs.PartTexts.{part_text}
use Rattle.lg_replies.specs.declared.amount_parts.AmountPart.{AmountPart}
use Rattle.lg_replies.specs.declared.amount_parts.AmountPart.TheVariants.{Base, Number, Balance, BalanceOf}

abbrev pub amount_part_text : AmountPart → List ℕ
amount_part_text (Base part) = part_text part
amount_part_text (Number n) = decimal n
amount_part_text (Balance n) = signed_decimal n.now
amount_part_text (BalanceOf volumes) = signed_decimal (balance_of volumes.now)
