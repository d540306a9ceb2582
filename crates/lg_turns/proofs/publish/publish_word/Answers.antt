use Rattle.std.proofs.Common.{ap, arith}
use Rattle.lg_types.proofs.MarkedLists.{marks_length}
use Rattle.lg_turns.proofs.publish.publish_word.Goals as goal

pub returns-clause-made : goal.returns-clause-made
returns-clause-made g c =
    let off = ap (λ v. v.made) c.pen_off-off.ensures.view in
    let look = ap (λ v. v.made) c.look-front.ensures.view in
    let raise = ap (λ v. v.made) c.raise_word.ensures.view in
    let join = ap (λ v. v.made) c.join.ensures.view in
    let whole = ap (λ v. v.made) c.whole-whole.ensures.whole in
    let count = marks_length (g.C.Change.mark c.args.change.now) (g.C.Change.added c.args.change.now) in
    omega (arith, off, look, raise, join, whole, count, c.requires.pen.2)
