use Rattle.lg_state_tests.proofs.move_tests.readings_of_worked_moves.Given as goal

abbrev pub ghosts-reads_worked : goal.ghosts-reads_worked
ghosts-reads_worked g a = record { name = a.blank.name; parts = a.blank.parts }
