use Rattle.std.proofs.Common.{ℕ, List, [], ◌∷◌, ◌++◌, codes}
use Rattle.lg_base.specs.Texts.{quoted}
use Rattle.lg_base.proofs.Feeds.{then, stop, same_text}
use Rattle.lg_tokens.specs.TextParts.{opening}
use Rattle.lg_tokens.proofs.Texts.{opened_twice}
use Rattle.lg_tokens.proofs.comparisons.feed_existence.Goals as goal

abbrev after : List ℕ → List ℕ
after name = quoted name ++ (125 ∷ 125 ∷ [])

abbrev inner : List ℕ → List ℕ
inner name = opening (codes "metadata") ++ after name

pub returns-in_err-feed_opening : goal.returns-in_err-feed_opening
returns-in_err-feed_opening g c =
    same_text (opened_twice (codes "$exists") (codes "metadata") (quoted c.args.name.now))
    (stop (inner c.args.name.now) c.from_residual.ensures.0 c.in_err-feed_opening.ensures)

pub returns-in_err-feed_opening-2 : goal.returns-in_err-feed_opening-2
returns-in_err-feed_opening-2 g c =
    same_text (opened_twice (codes "$exists") (codes "metadata") (quoted c.args.name.now))
    (then c.in_ok-feed_opening.ensures (stop (after c.args.name.now) c.from_residual-in_err-feed_opening-2.ensures.0 c.in_err-feed_opening-2.ensures))

pub returns-in_err-feed_json_text : goal.returns-in_err-feed_json_text
returns-in_err-feed_json_text g c =
    same_text (opened_twice (codes "$exists") (codes "metadata") (quoted c.args.name.now))
    (then c.in_ok-feed_opening.ensures (then c.in_ok-feed_opening-2.ensures (stop (125 ∷ 125 ∷ []) c.from_residual-in_err-feed_json_text.ensures.0 c.in_err-feed_json_text.ensures)))

pub returns : goal.returns
returns g c =
    same_text (opened_twice (codes "$exists") (codes "metadata") (quoted c.args.name.now))
    (then c.in_ok-feed_opening.ensures (then c.in_ok-feed_opening-2.ensures (then c.in_ok-feed_json_text.ensures c.piece.ensures)))
