use Rattle.lg_json.specs.Tree.{tree}
use Rattle.lg_entry_lines.proofs.Refusals.{lines_refuse_members}
use Rattle.lg_entry_lines.proofs.lines.entry_of_value.Goals as goal

pub cause_of-requires : goal.cause_of-requires
cause_of-requires c =
    let h = rw c.in-Err-Refused.field-0-is at c.in-Err-Refused.ensures in
    lines_refuse_members c.args.recompute (tree c.args.line.now) c.in-Err-Refused.refusal h.answers
