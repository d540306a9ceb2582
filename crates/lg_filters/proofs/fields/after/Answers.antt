use Rattle.std.specs.Cmp.{unsigned_Decides}
use Rattle.std.proofs.lemmas.Slice.Eq.{strip_prefix_is}
use Rattle.lg_filters.proofs.fields.after.Goals as goal

pub returns : goal.returns
returns c = strip_prefix_is unsigned_Decides _ _ _ c.strip_prefix.ensures.cases
