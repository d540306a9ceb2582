use Rattle.std.proofs.Common.{[], ◌++◌, sym, subst, refl, arith}
use Rattle.std.specs.Prelude.{Bool}
use Rattle.std.proofs.lemmas.List.{append-nil}
use Rattle.lg_replies.specs.Escaping.{StandsFor}
use Rattle.lg_replies.proofs.Escaping.{passed, cut, lost}
use Rattle.lg_replies.proofs.escaped_feed.EscapedFeedFeed.piece.Goals as goal

pub returns-then-self : goal.returns-then-self
returns-then-self g c =
    let F = g.F.Feed in
    let to = c.args.self.now.to.now in
    record {
      ok = λ m given. subst (λ (s : Bool). StandsFor F.fed F.stops F.lent to s (m ++ c.args.bytes.now)) (sym c.if-self.true)
          (lost F.fed F.stops F.lent to c.args.bytes.now m (subst (λ (s : Bool). StandsFor F.fed F.stops F.lent to s m) c.if-self.true given));
      stopped = tt;
      cause = record { later = omega arith; failed = tt };
      same = refl;
    }

pub returns-in-Ok : goal.returns-in-Ok
returns-in-Ok g c =
    let F = g.F.Feed in
    record {
      ok = λ m given. subst (λ (s : Bool). StandsFor F.fed F.stops F.lent c.feed_escaped.new.to s (m ++ c.args.bytes.now)) (sym c.if-self.false)
          (passed F.fed F.stops F.lent c.args.self.now.to.now c.feed_escaped.new.to c.args.bytes.now m _ c.in-Ok.ensures (subst (λ (s : Bool). StandsFor F.fed F.stops F.lent c.args.self.now.to.now s m) c.if-self.false given));
      stopped = tt;
      cause = record { later = c.in-Ok.ensures.cause.later; failed = tt };
      same = refl;
    }

pub returns-in-Err : goal.returns-in-Err
returns-in-Err g c =
    let F = g.F.Feed in
    record {
      ok = tt;
      stopped = λ m given. (
        c.args.bytes.now,
        [],
        sym (append-nil c.args.bytes.now),
        cut F.fed F.stops F.lent c.args.self.now.to.now c.feed_escaped.new.to c.args.bytes.now m _ c.in-Err.ensures (subst (λ (s : Bool). StandsFor F.fed F.stops F.lent c.args.self.now.to.now s m) c.if-self.false given),
      );
      cause = record { later = c.in-Err.ensures.cause.later; failed = c.in-Err.ensures.cause.failed };
      same = refl;
    }
