use Rattle.std.proofs.Common.{sym, ◌∙◌}
use Rattle.lg_batch.proofs.Cuts.{cut_here, cut_none}
use Rattle.lg_batch.proofs.text_lines.cut_line.Goals as goal

pub returns-in-Some-clause-lines : goal.returns-in-Some-clause-lines
returns-in-Some-clause-lines c =
    cut_here c.args.bytes.now c.in-Some.end c.before_newline.result.now (sym c.newline_place.ensures ∙ c.in-Some.is) c.before_newline.ensures

pub returns-in-None-clause-lines : goal.returns-in-None-clause-lines
returns-in-None-clause-lines c = cut_none c.args.bytes.now c.requires (sym c.newline_place.ensures ∙ c.in-None.is)
