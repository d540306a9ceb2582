use Rattle.std.proofs.Common.{[], ◌∷◌, ◌++◌}
use Rattle.lg_base.proofs.Feeds.{then, stop, same_text}
use Rattle.lg_views.specs.Tokens.{field_name, value_text, one_member}
use Rattle.lg_tokens.proofs.Texts.{opened}
use Rattle.lg_tokens.proofs.comparisons.feed_comparison.Goals as goal

pub returns-in_err-feed_opening : goal.returns-in_err-feed_opening
returns-in_err-feed_opening g c =
    same_text (opened c.args.operator.now (one_member (field_name c.args.field.now) (value_text c.args.value.now)))
    (stop (one_member (field_name c.args.field.now) (value_text c.args.value.now) ++ (125 ∷ [])) c.from_residual.ensures.0 c.in_err-feed_opening.ensures)

pub returns-in_err-feed_compared : goal.returns-in_err-feed_compared
returns-in_err-feed_compared g c =
    same_text (opened c.args.operator.now (one_member (field_name c.args.field.now) (value_text c.args.value.now)))
    (then c.in_ok-feed_opening.ensures (stop (125 ∷ []) c.from_residual-in_err-feed_compared.ensures.0 c.in_err-feed_compared.ensures))

pub returns : goal.returns
returns g c =
    same_text (opened c.args.operator.now (one_member (field_name c.args.field.now) (value_text c.args.value.now)))
    (then c.in_ok-feed_opening.ensures (then c.in_ok-feed_compared.ensures c.piece.ensures))
