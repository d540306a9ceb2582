use Rattle.lg_state_tests.proofs.late_tests.readings_at_dates_without_order.Given as goal

abbrev pub ghosts-reads_mixed : goal.ghosts-reads_mixed
ghosts-reads_mixed g a = record { name = a.blank.name; parts = a.blank.parts }
