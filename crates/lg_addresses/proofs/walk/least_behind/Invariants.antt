use Rattle.std.proofs.Common.{List}
use Rattle.std.specs.Option.{option_copied}
use Rattle.lg_types.specs.declared.records.Event.{Event}
use Rattle.lg_weigh.specs.Lent.{AreParts}
use Rattle.lg_addresses.specs.Next.{IsFirstBehind, is_stripe}
use Rattle.lg_addresses.proofs.Stripes.{is_named_below}
use Rattle.lg_addresses.proofs.walk.least_behind.Given as goal

abbrev pub invariant-loop-stripe : goal.invariant-loop-stripe
invariant-loop-stripe g l = (events : List Event) → AreParts is_stripe (g.S.Shards.lent l.shards) events → IsFirstBehind (is_named_below events l.ledger l.stripe) (option_copied l.after) (option_copied l.least)
