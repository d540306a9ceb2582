use Rattle.lg_state_tests.proofs.late_tests.ten_thousand_moves_each_before_all_earlier_ones.Given as goal

abbrev pub ghosts-reads_back : goal.ghosts-reads_back
ghosts-reads_back g a = record { name = a.blank.name; parts = a.blank.parts }
