use Rattle.lg_generator.specs.Made.{postings_member}
use Rattle.lg_generator.proofs.line.feed_postings.Goals as goal

pub returns : goal.returns
unfolding postings_member
returns g c = rw (c.customer-customer.ensures, c.price-price.ensures, c.fee-fee.ensures) at c.feed_all.ensures
