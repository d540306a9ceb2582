use Rattle.std.proofs.Common.{codes}
use Rattle.lg_base.proofs.Feeds.{then, stop}
use Rattle.lg_containers.proofs.Each.{join_first}
use Rattle.lg_replies.proofs.shown.feed_with_commas.Goals as goal

pub returns-in_err-show-in-len1-up : goal.returns-in_err-show-in-len1-up
returns-in_err-show-in-len1-up g c =
    rw (← join_first g.T.Shown.shown c.args.items.now (codes ",") c.first-item.result c.in-len1-up.len_at_least c.first-item.is)
    (stop _ c.from_residual.ensures.0 c.in_err-show-in-len1-up.ensures)

pub returns-in_ok-show-in-len1-up : goal.returns-in_ok-show-in-len1-up
returns-in_ok-show-in-len1-up g c =
    rw (← join_first g.T.Shown.shown c.args.items.now (codes ",") c.first-item.result c.in-len1-up.len_at_least c.first-item.is)
    (then c.in_ok-show-in-len1-up.ensures c.feed_after_commas.ensures)
