use Rattle.lg_types.specs.Marked.{opening}
use Rattle.lg_turns.proofs.turns.Turns.new.Given as goal

-- the first event
abbrev pub ghosts-open_word : goal.ghosts-open_word
ghosts-open_word g a = record { marked = opening (g.J.Journal.events a.journal.now) }
