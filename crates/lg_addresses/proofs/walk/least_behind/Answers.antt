use Rattle.std.proofs.Common.{◌+◌, sym, subst}
use Rattle.std.specs.Option.{option_copied}
use Rattle.lg_shard.specs.Shown.{is_known}
use Rattle.lg_types.specs.Parts.{part_of}
use Rattle.lg_addresses.specs.Next.{IsFirstBehind, is_named}
use Rattle.lg_addresses.proofs.Firsts.{from_next, of_both, same_test}
use Rattle.lg_addresses.proofs.Stripes.{all_below, is_named_below, known_of, none_below, one_stripe_more}
use Rattle.lg_addresses.proofs.walk.least_behind.Goals as goal

pub loop-stripe-init : goal.loop-stripe-init
loop-stripe-init g c = λ events parts. record { passes = tt; first = λ name there b. none_below events c.args.ledger.now name there }

pub loop-stripe-preserved : goal.loop-stripe-preserved
loop-stripe-preserved g c = λ events parts.
    subst (IsFirstBehind (is_named_below events c.args.ledger.now (c.loop-stripe.stripe + 1)) (option_copied c.args.after)) (sym c.lesser-least.ensures)
    (same_test _ _ (option_copied c.args.after) _ (one_stripe_more events c.args.ledger.now c.loop-stripe.stripe)
    (of_both (is_named_below events c.args.ledger.now c.loop-stripe.stripe) (is_known (part_of c.loop-stripe.stripe events) c.args.ledger.now) (option_copied c.args.after) (option_copied c.loop-stripe.least) (option_copied c.next_of-next.result)
    (c.loop-stripe.invariant events parts)
    (from_next (is_known (part_of c.loop-stripe.stripe events) c.args.ledger.now) (option_copied c.args.after) (option_copied c.next_of-next.result)
    (known_of (g.S.Shards.lent c.args.shards.now) events c.args.ledger.now c.loop-stripe.stripe (option_copied c.args.after) (option_copied c.next_of-next.result) c.loop-stripe-test.true parts c.next_of-next.ensures))))

pub returns : goal.returns
returns g c = λ events parts.
    same_test (is_named_below events c.args.ledger.now c.loop-stripe.stripe) (is_named events c.args.ledger.now) (option_copied c.args.after) (option_copied c.loop-stripe.least)
    (all_below events c.args.ledger.now c.loop-stripe.stripe c.loop-stripe-test.false) (c.loop-stripe.invariant events parts)
