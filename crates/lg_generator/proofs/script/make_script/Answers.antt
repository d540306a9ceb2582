use Rattle.std.proofs.Common.{refl, arith}
use Rattle.std.specs.List.{range_with_len}
use Rattle.std.proofs.lemmas.List.FromFn.{length-range_with_len}
use Rattle.lg_base.proofs.Feeds.{same_text, Completes-start}
use Rattle.lg_base.specs.declared.feed.Stop.{Stop}
use Rattle.lg_containers.proofs.Each.{each-more, each-stop, each-end}
use Rattle.lg_generator.specs.Made.{made_line}
use Rattle.lg_generator.proofs.Lines.{fed_as, place_is, next_is}
use Rattle.lg_generator.proofs.script.make_script.Goals as goal

pub returns-in_err-feed_line : goal.returns-in_err-feed_line
returns-in_err-feed_line g c =
    each-stop (made_line c.args.seed) (range_with_len 0 c.args.lines) c.loop-place.place c.loop-place.place c.loop-place.invariant.left
    (rw (length-range_with_len 0 c.args.lines) c.loop-place-test.true) (place_is c.args.lines c.loop-place.place c.loop-place-test.true) c.from_residual.ensures.0
    (same_text (fed_as c.args.seed c.loop-place.place c.loop-place.number c.next-number.result c.upper_half.result c.loop-place.invariant.number c.next-number.ensures c.upper_half.ensures) c.in_err-feed_line.ensures)

pub loop-place-preserved : goal.loop-place-preserved
loop-place-preserved g c = record {
  number = next_is c.args.seed c.loop-place.place c.loop-place.number c.next-number.result c.loop-place.invariant.number c.next-number.ensures;
  left =
      each-more (made_line c.args.seed) (range_with_len 0 c.args.lines) c.loop-place.place c.loop-place.place c.loop-place.invariant.left
      (rw (length-range_with_len 0 c.args.lines) c.loop-place-test.true) (place_is c.args.lines c.loop-place.place c.loop-place-test.true)
      (same_text (fed_as c.args.seed c.loop-place.place c.loop-place.number c.next-number.result c.upper_half.result c.loop-place.invariant.number c.next-number.ensures c.upper_half.ensures) c.in_ok-feed_line.ensures);
}

pub loop-place-init : goal.loop-place-init
loop-place-init g c = record { number = refl; left = Completes-start Stop g.F.Feed.fed g.F.Feed.stops g.F.Feed.lent _ _ }

pub returns : goal.returns
returns g c =
    each-end (made_line c.args.seed) (range_with_len 0 c.args.lines) c.loop-place.place c.loop-place.invariant.left (rw (length-range_with_len 0 c.args.lines) (omega (arith, c.loop-place-test.false)))
