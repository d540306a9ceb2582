use Rattle.std.proofs.Common.{sym, ◌∙◌}
use Rattle.lg_filters.proofs.LeafParts.{not_compared}
use Rattle.lg_filters.proofs.leaves.compared.Goals as goal

pub returns-then-not-compares_field : goal.returns-then-not-compares_field
returns-then-not-compares_field c = not_compared c.args.kind c.args.op c.args.field _ (sym c.compares_field.ensures ∙ c.if-not-compares_field.true)
