use Rattle.lg_types.specs.Marked.{marks}
use Rattle.lg_turns.proofs.publish.publish_word.Given as goal

-- the events of the change, with its mark
abbrev pub ghosts-raise_word : goal.ghosts-raise_word
ghosts-raise_word g a = record { marked = marks (g.C.Change.mark a.change.now) (g.C.Change.added a.change.now) }
