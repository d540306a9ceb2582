use Rattle.std.specs.Cmp.{unsigned_Decides}
use Rattle.std.proofs.lemmas.Slice.Eq.{strip_suffix_is}
use Rattle.lg_filters.proofs.fields.before_bracket.Goals as goal

pub returns : goal.returns
returns c = strip_suffix_is unsigned_Decides _ _ _ c.strip_suffix.ensures.cases
