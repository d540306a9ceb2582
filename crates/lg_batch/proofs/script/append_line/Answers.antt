use Rattle.std.proofs.Common.{sym, ◌∙◌}
use Rattle.lg_batch.proofs.Numbered.{appends_none, appends_one}
use Rattle.lg_batch.proofs.script.append_line.Goals as goal

pub returns-then-is_empty : goal.returns-then-is_empty
returns-then-is_empty g c = appends_none c.args.phase c.args.number c.args.bytes.now c.args.lines.now.items (sym c.is_empty.ensures ∙ c.if-is_empty.true)

pub returns : goal.returns
returns g c =
    appends_one c.args.phase c.args.number c.args.bytes.now c.args.lines.now.items c.push.new.self.items c.in_ok-line.line
    (sym c.is_empty.ensures ∙ c.if-is_empty.false) c.in_ok-line.ensures c.in_ok-push.ensures.items
