use Rattle.std.proofs.Common.{ℕ, ◌+◌, ◌≤◌, List, length, sym, subst, arith}
use Rattle.std.specs.List.{flat_map}
use Rattle.lg_base.specs.Growth.{Completes}
use Rattle.lg_base.specs.Texts.{escaped}
use Rattle.lg_base.specs.declared.feed.Stop.{Stop}
use Rattle.lg_base.proofs.Feeds.{Completes-more, Completes-stop}
use Rattle.lg_base.proofs.Escapes.{run_ends, run_goes_on, run_empty, run_last}
use Rattle.lg_base.proofs.texts.feed_escaped.Goals as goal
use Rattle.lg_base.proofs.texts.feed_escaped.Goals.{then-not-is_plain+in_ok-feed_run, else-not-is_plain}

pub returns-in_err-feed_run : goal.returns-in_err-feed_run
returns-in_err-feed_run g c =
    let left : List ℕ → Type 0 = λ l. Completes Stop g.F.Feed.fed g.F.Feed.stops g.F.Feed.lent c.args.to.now c.bytes.to (flat_map escaped c.args.text.now) l in
    Completes-stop _ c.from_residual.ensures.0
    (subst left (run_ends c.args.text.now c.bytes.start c.bytes.place c.bytes.invariant.within c.bytes-test.true c.bytes.invariant.plain (sym c.if-not-is_plain.ensures)) c.bytes.invariant.rest)
    c.in_err-feed_run.ensures

pub bytes-preserved : goal.bytes-preserved
bytes-preserved g c =
    let left : List ℕ → Type 0 = λ l. Completes Stop g.F.Feed.fed g.F.Feed.stops g.F.Feed.lent c.args.to.now c.bytes.to (flat_map escaped c.args.text.now) l in
    elim c.if-not-is_plain.branch [
      | then-not-is_plain+in_ok-feed_run w ↦ rw (w.start-is, w.to-is) (record {
        within = omega arith;
        plain = run_empty c.args.text.now (c.bytes.place + 1);
        rest = Completes-more
            (subst left (run_ends c.args.text.now c.bytes.start c.bytes.place c.bytes.invariant.within c.bytes-test.true c.bytes.invariant.plain (sym w.if-not-is_plain.ensures)) c.bytes.invariant.rest)
            w.in_ok-feed_run.ensures;
      })
      | else-not-is_plain w ↦ rw (w.start-is, w.to-is) (record {
        within = let a = c.bytes.invariant.within in omega arith;
        plain = run_goes_on c.args.text.now c.bytes.start c.bytes.place c.bytes.invariant.within c.bytes-test.true c.bytes.invariant.plain (sym w.if-not-is_plain.ensures);
        rest = c.bytes.invariant.rest;
      })
    ]

pub returns : goal.returns
returns g c =
    let left : List ℕ → Type 0 = λ l. Completes Stop g.F.Feed.fed g.F.Feed.stops g.F.Feed.lent c.args.to.now c.bytes.to (flat_map escaped c.args.text.now) l in
    let all : length c.args.text.now ≤ c.bytes.place = omega arith in
    let rest = subst left (run_last c.args.text.now c.bytes.start c.bytes.place c.bytes.invariant.within all c.bytes.invariant.plain) c.bytes.invariant.rest in
    rest.on _ _ c.piece.ensures
