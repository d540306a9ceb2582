use Rattle.std.proofs.Common.{ℕ, ◌≤◌, List, length, subst, arith}
use Rattle.lg_base.specs.Growth.{Completes}
use Rattle.lg_base.specs.Told.{Told}
use Rattle.lg_base.specs.declared.feed.Stop.{Stop}
use Rattle.lg_base.proofs.Feeds.{Completes-more, Completes-end}
use Rattle.lg_base.proofs.Slices.{left_splits}
use Rattle.std.proofs.lemmas.List.{drop_all}
use Rattle.lg_base.proofs.Writing.{wrote, not_written}
use Rattle.lg_base.proofs.sink_feed.write_whole.Goals as goal

pub writing-preserved : goal.writing-preserved
writing-preserved g c = record {
  within = omega (arith, c.in-Ok.ensures.bound);
  rest = let family : List ℕ → Type 0 = λ left. Completes Stop (λ k m. Told (g.K.Sink.written k) m) g.K.Sink.faults (λ _. 0) c.args.sink.now c.writing.sink c.args.bytes.now left in
      Completes-more {u = c.in-Ok.count} (subst family (left_splits c.args.bytes.now c.writing.start c.in-Ok.count) c.writing.invariant.rest)
      (wrote g.K.Sink.written g.K.Sink.faults _ _ _ _ c.in-Ok.ensures.bytes c.in-Ok.ensures.cause.later);
}

pub returns-in-Err : goal.returns-in-Err
returns-in-Err g c = c.writing.invariant.rest.on _ _ (not_written g.K.Sink.written g.K.Sink.faults _ _ _ _ c.in-Err.ensures.failed c.in-Err.ensures.cause.later c.in-Err.ensures.cause.failed)

pub returns : goal.returns
returns g c =
    let family : List ℕ → Type 0 = λ left. Completes Stop (λ k m. Told (g.K.Sink.written k) m) g.K.Sink.faults (λ _. 0) c.args.sink.now c.writing.sink c.args.bytes.now left in
    let all : length c.args.bytes.now ≤ c.writing.start = omega arith in
    Completes-end (subst family (drop_all c.writing.start c.args.bytes.now all) c.writing.invariant.rest)
