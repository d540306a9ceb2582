use Rattle.lg_filters.proofs.FieldNames.{between_is}
use Rattle.lg_filters.proofs.fields.between.Goals as goal

pub returns-in-Some : goal.returns-in-Some
returns-in-Some c = between_is _ _ _ _ c.in-Some.ensures c.before_bracket.ensures
