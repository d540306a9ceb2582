use Rattle.std.proofs.Common.{sym, ap, arith}
use Rattle.lg_types.specs.declared.refusals.Refusal.TheVariants.{BulkSize}
use Rattle.lg_codec.proofs.ElementLists.{count_is}
use Rattle.lg_codec.proofs.elements.elements_of_list.Goals as goal

pub returns-then-values-gt-MOST_ELEMENTS : goal.returns-then-values-gt-MOST_ELEMENTS
returns-then-values-gt-MOST_ELEMENTS c =
    record { answers = (omega (arith, count_is c.args.values.now), ap BulkSize (sym (count_is c.args.values.now))) }

pub returns : goal.returns
returns c = record { answers = (omega (arith, count_is c.args.values.now), c.in_ok-elements_in.ensures) }
