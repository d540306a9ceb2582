use Rattle.std.proofs.Common.{◌∙◌, sym}
use Rattle.lg_replies.proofs.exports.feed_escaped_lines.Goals as goal

pub returns : goal.returns
returns g c =
    rw (c.to-1.given.1 (sym c.new-feed.ensures.same_reference ∙ sym c.feed_lines_through.ensures.same_reference))
    (rw c.new-feed.ensures.to at c.feed_lines_through.ensures.fed)
