use Rattle.std.proofs.Common.{List, ◌++◌, length, sym, ap, ◌∙◌}
use Rattle.lg_types.specs.declared.marks.Marked.{Marked}
use Rattle.lg_types.specs.Marked.{open_end}
use Rattle.lg_types.proofs.MarkedLists.{marks_length, open_end-marks}
use Rattle.lg_turns.proofs.publish.raise_word.Goals as goal

pub raise-requires-clause-count : goal.raise-requires-clause-count
raise-requires-clause-count g c = c.requires.count ∙ sym (marks_length (g.C.Change.mark c.args.change.now) (g.C.Change.added c.args.change.now)) ∙ sym (ap (length {A = Marked}) c.requires.marked)

pub raise-requires-clause-ends : goal.raise-requires-clause-ends
raise-requires-clause-ends g c = ap (λ (ms : List Marked). open_end (c.args.seat.now.me.0.seen ++ ms)) c.requires.marked ∙ open_end-marks c.args.seat.now.me.0.seen (g.C.Change.mark c.args.change.now) (g.C.Change.added c.args.change.now) c.requires.ends
