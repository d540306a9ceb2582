use Rattle.std.proofs.Common.{arith}
use Rattle.lg_containers.proofs.Each.{each-more, each-stop, each-end}
use Rattle.lg_views.specs.Import.{line_text}
use Rattle.lg_replies.proofs.exports.feed_lines.Goals as goal

pub returns-in_err-feed_line : goal.returns-in_err-feed_line
returns-in_err-feed_line g c =
    each-stop line_text c.args.entries.now c.loop-entry.entry-index _ c.loop-entry.invariant (omega arith) c.entry-item.is c.from_residual.ensures.0 c.in_err-feed_line.ensures

pub loop-entry-preserved : goal.loop-entry-preserved
loop-entry-preserved g c =
    each-more line_text c.args.entries.now c.loop-entry.entry-index _ c.loop-entry.invariant (omega arith) c.entry-item.is c.in_ok-feed_line.ensures

pub returns : goal.returns
returns g c = each-end line_text c.args.entries.now c.loop-entry.entry-index c.loop-entry.invariant (omega arith)
