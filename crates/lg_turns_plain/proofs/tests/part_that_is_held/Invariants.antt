use Rattle.lg_turns_plain.proofs.tests.part_that_is_held.Given as goal

abbrev pub ghosts-parts_of_one : goal.ghosts-parts_of_one
ghosts-parts_of_one g a = record { table = a.blank.table.shared.table_id }
