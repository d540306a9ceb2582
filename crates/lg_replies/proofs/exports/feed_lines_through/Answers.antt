use Rattle.std.proofs.Common.{◌++◌, sym, subst, ◌∙◌}
use Rattle.std.specs.Prelude.{Bool}
use Rattle.lg_base.proofs.Feeds.{stop_here}
use Rattle.lg_views.specs.Import.{export}
use Rattle.lg_replies.specs.Escaping.{StandsFor}
use Rattle.lg_replies.proofs.Escaping.{through, through_in_part, through_a_stop}
use Rattle.lg_replies.proofs.exports.feed_lines_through.Goals as goal

pub returns-in_err-feed_lines-clause-fed : goal.returns-in_err-feed_lines-clause-fed
returns-in_err-feed_lines-clause-fed g c =
    let F = g.F.Feed in
    let old = c.args.feed.now.to.now in
    let now = c.feed_lines.new.to.to.now in
    stop_here c.from_residual.ensures.0
    (through_in_part F.fed F.stops F.lent old now c.feed_lines.new.to.stopped (export c.args.entries.now) _ c.in_err-feed_lines.ensures.cause
    (λ m s. c.in_err-feed_lines.ensures.stopped m (subst (λ (b : Bool). StandsFor F.fed F.stops F.lent old b m) (sym c.requires) s)))

pub returns-then-has_stopped-clause-fed : goal.returns-then-has_stopped-clause-fed
returns-then-has_stopped-clause-fed g c =
    let F = g.F.Feed in
    let old = c.args.feed.now.to.now in
    let now = c.feed_lines.new.to.to.now in
    through_a_stop F.fed F.stops F.lent old now (export c.args.entries.now) _ c.in_ok-feed_lines.ensures.cause.later
    (λ m s. subst (λ (b : Bool). StandsFor F.fed F.stops F.lent now b (m ++ export c.args.entries.now)) (sym c.has_stopped.ensures ∙ c.if-has_stopped.true)
    (c.in_ok-feed_lines.ensures.ok m (subst (λ (b : Bool). StandsFor F.fed F.stops F.lent old b m) (sym c.requires) s)))

pub returns-clause-fed : goal.returns-clause-fed
returns-clause-fed g c =
    let F = g.F.Feed in
    let old = c.args.feed.now.to.now in
    let now = c.feed_lines.new.to.to.now in
    through F.fed F.stops F.lent old now (export c.args.entries.now) c.in_ok-feed_lines.ensures.cause.later
    (λ m s. subst (λ (b : Bool). StandsFor F.fed F.stops F.lent now b (m ++ export c.args.entries.now)) (sym c.has_stopped.ensures ∙ c.if-has_stopped.false)
    (c.in_ok-feed_lines.ensures.ok m (subst (λ (b : Bool). StandsFor F.fed F.stops F.lent old b m) (sym c.requires) s)))
