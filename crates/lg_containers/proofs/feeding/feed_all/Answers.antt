use Rattle.std.proofs.Common.{arith}
use Rattle.lg_containers.proofs.Each.{each-more, each-stop, each-end}
use Rattle.lg_containers.proofs.feeding.feed_all.Goals as goal

pub returns-in_err-feed_to : goal.returns-in_err-feed_to
returns-in_err-feed_to g c =
    each-stop g.T.Canonical.text c.args.items.now c.loop-item.item-index _ c.loop-item.invariant (omega arith) c.item-item.is c.from_residual.ensures.0 c.in_err-feed_to.ensures

pub loop-item-preserved : goal.loop-item-preserved
loop-item-preserved g c =
    each-more g.T.Canonical.text c.args.items.now c.loop-item.item-index _ c.loop-item.invariant (omega arith) c.item-item.is c.in_ok-feed_to.ensures

pub returns : goal.returns
returns g c = each-end g.T.Canonical.text c.args.items.now c.loop-item.item-index c.loop-item.invariant (omega arith)
