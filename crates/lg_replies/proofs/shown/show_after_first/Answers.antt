use Rattle.std.proofs.Common.{◌++◌, codes, arith}
use Rattle.lg_base.proofs.Feeds.{Completes-start}
use Rattle.lg_containers.specs.CanonicalTexts.{member_text}
use Rattle.lg_containers.specs.NameTable.{pairs_of, len-pairs}
use Rattle.lg_replies.proofs.Members.{place-more, place-stop, place-end}
use Rattle.lg_replies.proofs.shown.show_after_first.Goals as goal

pub returns-in_err-show_after_comma : goal.returns-in_err-show_after_comma
returns-in_err-show_after_comma g c =
    place-stop (λ member. codes "," ++ member_text g.V.Shown.shown member) (pairs_of c.args.members.now) c.loop-place.place c.loop-place.invariant c.from_residual.ensures.0 c.in_err-show_after_comma.ensures

pub loop-place-preserved : goal.loop-place-preserved
loop-place-preserved g c =
    place-more (λ member. codes "," ++ member_text g.V.Shown.shown member) (pairs_of c.args.members.now) c.loop-place.place c.loop-place.invariant c.in_ok-show_after_comma.ensures

pub returns : goal.returns
returns g c =
    let past = c.loop-place-test.false in let count = c.len-place-end.ensures in let all = len-pairs c.args.members.now in
    place-end (λ member. codes "," ++ member_text g.V.Shown.shown member) (pairs_of c.args.members.now) c.loop-place.place c.loop-place.invariant (omega (arith, past, count, all))
