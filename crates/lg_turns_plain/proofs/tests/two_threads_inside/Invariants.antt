use Rattle.lg_turns_plain.proofs.tests.two_threads_inside.Given as goal

abbrev pub ghosts-both_inside : goal.ghosts-both_inside
ghosts-both_inside g a = record { table = a.blank.table.shared.table_id }
