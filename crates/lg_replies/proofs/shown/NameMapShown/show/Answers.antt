use Rattle.lg_base.proofs.Feeds.{then, stop}
use Rattle.lg_replies.proofs.shown.NameMapShown.show.Goals as goal

pub returns-in_err-piece : goal.returns-in_err-piece
returns-in_err-piece g c = stop _ c.from_residual.ensures.0 c.in_err-piece.ensures

pub returns-in_err-show_members : goal.returns-in_err-show_members
returns-in_err-show_members g c = then c.in_ok-piece.ensures (stop _ c.from_residual-in_err-show_members.ensures.0 c.in_err-show_members.ensures)

pub returns : goal.returns
returns g c = then c.in_ok-piece.ensures (then c.in_ok-show_members.ensures c.piece-2.ensures)
