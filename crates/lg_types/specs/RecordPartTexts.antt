-- The texts of the pieces of a record's text.
use Rattle.std.specs.Prelude.{ℕ, List}
use Rattle.lg_containers.specs.CanonicalTexts.{list_text}
use Rattle.lg_types.specs.PartTexts.{part_text, optional_text}
use Rattle.lg_types.specs.EntryTexts.{posting_text, meta_text, account_meta_text, reference_text, transaction_text, target_text, body_text, mark_text, key_text, entry_text as text_of_entry, ledger_text}
use Rattle.lg_types.specs.declared.forms.EntryForm.TheVariants.{Line}
use Rattle.lg_types.specs.declared.record_parts.RecordPart.{RecordPart}
use Rattle.lg_types.specs.declared.record_parts.RecordPart.TheVariants as records
use Rattle.lg_types.specs.declared.record_parts.BodyPart.{BodyPart}
use Rattle.lg_types.specs.declared.record_parts.BodyPart.TheVariants as bodies
use Rattle.lg_types.specs.declared.record_parts.EntryPart.{EntryPart}
use Rattle.lg_types.specs.declared.record_parts.EntryPart.TheVariants as entries
use Rattle.lg_types.specs.declared.record_parts.EventPart.{EventPart}
use Rattle.lg_types.specs.declared.record_parts.EventPart.TheVariants as events

abbrev pub record_part_text : RecordPart → List ℕ
record_part_text (records.Base part) = part_text part
record_part_text (records.Postings postings) = list_text posting_text postings.now
record_part_text (records.Meta metadata) = meta_text metadata.now
record_part_text (records.Accounts accounts) = account_meta_text accounts.now
record_part_text (records.Reference reference) = optional_text reference_text reference.now

abbrev pub body_part_text : BodyPart → List ℕ
body_part_text (bodies.Record part) = record_part_text part
body_part_text (bodies.Transaction transaction) = transaction_text transaction.now
body_part_text (bodies.Target target) = target_text target.now

abbrev pub entry_part_text : EntryPart → List ℕ
entry_part_text (entries.Base part) = part_text part
entry_part_text (entries.Body body) = body_text body.now
entry_part_text (entries.Mark mark) = optional_text mark_text mark.now
entry_part_text (entries.Key mark) = optional_text key_text mark.now

abbrev pub event_part_text : EventPart → List ℕ
event_part_text (events.Base part) = part_text part
event_part_text (events.Ledger info) = ledger_text info.now
event_part_text (events.Entry entry) = text_of_entry entry.now Line
