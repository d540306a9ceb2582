use Rattle.lg_filters.proofs.FieldNames.{field_read_in}
use Rattle.lg_filters.proofs.fields.read_field.Goals as goal

pub returns : goal.returns
returns c = field_read_in _ c.in_default.ensures c.in_default-state_field.ensures _ c.bracket_field.ensures
