use Rattle.std.proofs.Common.{◌++◌, codes, arith}
use Rattle.lg_containers.proofs.Each.{each-more, each-stop, each-end}
use Rattle.lg_replies.proofs.shown.feed_after_commas.Goals as goal

pub returns-in_err-feed_after_comma : goal.returns-in_err-feed_after_comma
returns-in_err-feed_after_comma g c =
    each-stop (λ item. codes "," ++ g.T.Shown.shown item) c.args.items.now c.loop-item.item-index _ c.loop-item.invariant (omega arith) c.item-item.is c.from_residual.ensures.0 c.in_err-feed_after_comma.ensures

pub loop-item-preserved : goal.loop-item-preserved
loop-item-preserved g c =
    each-more (λ item. codes "," ++ g.T.Shown.shown item) c.args.items.now c.loop-item.item-index _ c.loop-item.invariant (omega arith) c.item-item.is c.in_ok-feed_after_comma.ensures

pub returns : goal.returns
returns g c = each-end (λ item. codes "," ++ g.T.Shown.shown item) c.args.items.now c.loop-item.item-index c.loop-item.invariant (omega arith)
