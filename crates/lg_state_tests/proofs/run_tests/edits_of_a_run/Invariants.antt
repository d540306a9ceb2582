use Rattle.lg_state_tests.proofs.run_tests.edits_of_a_run.Given as goal

abbrev pub ghosts-edits : goal.ghosts-edits
ghosts-edits g a = record { name = a.blank.name; parts = a.blank.parts }
