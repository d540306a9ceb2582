use Rattle.std.proofs.Common.{◌≡◌, ◌<◌, true, false, arith}
use Rattle.lg_moves.proofs.TransactionLemmas.{greatest_before, none_before}
use Rattle.lg_moves.proofs.line.Line.transaction_before.Goals as goal

pub returns-then-count-eq0-clause-value : goal.returns-then-count-eq0-clause-value
returns-then-count-eq0-clause-value g c =
    rw (← c.self.view_is) (record {
      some = tt;
      none = λ _. none_before c.args.id c.self.inside.entries.items c.count_before-count.result c.count_before-count.ensures.count c.if-count-eq0.true;
    })

pub returns-else-count-eq0-clause-value : goal.returns-else-count-eq0-clause-value
returns-else-count-eq0-clause-value g c =
    let some : 0 < c.count_before-count.result = omega (arith, c.if-count-eq0.false) in
    rw (← c.self.view_is) (record {
      some = greatest_before c.args.id c.self.inside.entries.items c.count_before-count.result c.read_at.result c.count_before-count.ensures.count some c.self.invariant.marked.ordered c.read_at.ensures.value;
      none = λ h. absurd (let f : true ≡ false = h in cc);
    })
