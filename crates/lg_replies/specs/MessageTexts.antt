-- The texts of the pieces of a message.
use Rattle.std.specs.Prelude.{ℕ, List, decimal}
use Rattle.std.specs.Fmt.{signed_decimal}
use Rattle.std.specs.List.{flat_map}
use Rattle.lg_base.specs.Texts.{escaped}
use Rattle.lg_views.specs.RefusalTexts.{member_text, hex_text, fault_text, reason_text, cause_text}
use Rattle.lg_replies.specs.declared.message_parts.MessagePart.{MessagePart}
use Rattle.lg_replies.specs.declared.message_parts.MessagePart.TheVariants.{Plain, Address, Asset, LedgerName, Key, Reference, Text, Member, Number, Balance, Hash, Fault, Reason, Cause}

abbrev pub message_part_text : MessagePart → List ℕ
message_part_text (Plain bytes) = bytes.now
message_part_text (Address name) = name.now
message_part_text (Asset name) = name.now
message_part_text (LedgerName name) = name.now
message_part_text (Key name) = name.now
message_part_text (Reference name) = name.now
message_part_text (Text name) = name.now
message_part_text (Member name) = member_text name.now
message_part_text (Number n) = decimal n
message_part_text (Balance n) = signed_decimal n.now
message_part_text (Hash hash) = hex_text hash.now
message_part_text (Fault fault) = fault_text fault
message_part_text (Reason reason) = reason_text reason
message_part_text (Cause cause) = cause_text cause.now

-- a piece, as it stands between the quotes of a JSON string
abbrev pub escaped_part : MessagePart → List ℕ
escaped_part part = flat_map escaped (message_part_text part)
