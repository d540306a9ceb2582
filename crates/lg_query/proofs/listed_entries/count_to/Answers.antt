use Rattle.std.proofs.Common.{◌+◌, ◌-◌, ◌<◌, ◌/◌, sym, ◌∙◌, arith}
use Rattle.std.proofs.Math.Nat.{mul-div-le}
use Rattle.lg_types.specs.Log.{log}
use Rattle.lg_book.proofs.Lists.{there_within}
use Rattle.lg_query.proofs.Dates.{log_follows, raised, lowered}
use Rattle.lg_query.proofs.Numbered.{found_at}
use Rattle.lg_query.proofs.listed_entries.count_to.Goals as goal

pub halving-preserved-then-is_dated : goal.halving-preserved-then-is_dated
halving-preserved-then-is_dated c =
    let events = c.args.book.now.events in
    let ledger = c.args.ledger.now in
    let half = mul-div-le (c.halving.high - c.halving.low) 2 in
    let less = c.halving-test.true in
    let within = c.halving.invariant.within in
    let middle = c.halving.low + (c.halving.high - c.halving.low) / 2 in
    let near : middle < c.halving.high = omega (arith, half, less) in
    let at = there_within middle (log events ledger) (omega (arith, near, within)) in
    raised (log events ledger) _ (log_follows events ledger c.len-grown.ensures.grown) c.halving.low middle c.halving.high at.0 c.halving.invariant at.1 near
    (sym (c.is_dated.ensures at.0 (found_at events ledger c.len-grown.ensures.grown middle at.0 at.1)) ∙ c.if-is_dated.true)

pub halving-preserved : goal.halving-preserved
halving-preserved c =
    let events = c.args.book.now.events in
    let ledger = c.args.ledger.now in
    let half = mul-div-le (c.halving.high - c.halving.low) 2 in
    let less = c.halving-test.true in
    let within = c.halving.invariant.within in
    let middle = c.halving.low + (c.halving.high - c.halving.low) / 2 in
    let near : middle < c.halving.high = omega (arith, half, less) in
    let at = there_within middle (log events ledger) (omega (arith, near, within)) in
    lowered (log events ledger) _ (log_follows events ledger c.len-grown.ensures.grown) c.halving.low middle c.halving.high at.0 c.halving.invariant at.1 (omega arith) near
    (sym (c.is_dated.ensures at.0 (found_at events ledger c.len-grown.ensures.grown middle at.0 at.1)) ∙ c.if-is_dated.false)
