use Rattle.std.proofs.Common.{length, ap, ◌∙◌}
use Rattle.std.proofs.lemmas.List.{length-map}
use Rattle.lg_types.specs.declared.marks.Marked.{Marked}
use Rattle.lg_types.specs.Marked.{open_end, opening_mark}
use Rattle.lg_types.proofs.MarkedLists.{opening-end}
use Rattle.lg_turns.proofs.start.open_word.Goals as goal

pub open-requires-clause-count : goal.open-requires-clause-count
open-requires-clause-count g c = ap (length {A = Marked}) c.requires.marked ∙ (length-map (g.J.Journal.events c.args.journal.now) opening_mark ∙ c.requires.count)

pub open-requires-clause-ends : goal.open-requires-clause-ends
open-requires-clause-ends g c = ap open_end c.requires.marked ∙ opening-end (g.J.Journal.events c.args.journal.now)
