use Rattle.lg_base.proofs.Feeds.{then, stop}
use Rattle.lg_replies.proofs.exports.feed_line.Goals as goal

pub returns-in_err-entry_text : goal.returns-in_err-entry_text
returns-in_err-entry_text g c = stop _ c.from_residual.ensures.0 c.in_err-entry_text.ensures

pub returns : goal.returns
returns g c = then c.in_ok-entry_text.ensures c.piece.ensures
