use Rattle.std.proofs.Common.{sym, ◌∙◌, arith}
use Rattle.lg_batch.proofs.Numbered.{goes_on, goes_done}
use Rattle.lg_batch.proofs.script.read_lines.Goals as goal

pub returns : goal.returns
returns g c =
    goes_done c.args.bytes.now c.lines.rest.now c.lines.lines.items c.lines.number c.lines.phase (sym c.is_empty.ensures ∙ c.lines-test.false) c.lines.invariant

pub lines-preserved : goal.lines-preserved
lines-preserved g c =
    let before = c.lines.invariant.count in
    goes_on c.args.bytes.now c.lines.rest.now c.cut_line.result.0.now c.cut_line.result.1.now c.lines.lines.items c.append_line.new.lines.items c.lines.number c.lines.phase c.in_ok-phase.phase
    c.lines.invariant c.cut_line.ensures.lines (omega (arith, before, c.cut_line.ensures.shorter)) c.in_ok-phase.ensures
