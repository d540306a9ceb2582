use Rattle.lg_turns_plain.proofs.tests.two_threads_publish.Given as goal

abbrev pub ghosts-paid_by_two : goal.ghosts-paid_by_two
ghosts-paid_by_two g a = record { table = a.blank.table.shared.table_id }
