use Rattle.std.proofs.Common.{◌∙◌, sym}
use Rattle.lg_generator.proofs.script.write_through.Goals as goal

pub returns : goal.returns
returns g c =
    rw (c.out-1.given.1 (sym c.new-feed.ensures.same_reference ∙ sym c.feed_and_flush.ensures.same_reference))
    (rw c.new-feed.ensures.sink at c.feed_and_flush.ensures.written)
