use Rattle.lg_commit_volumes.proofs.before.shard_before.Given as goal

abbrev pub ghosts-index_before : goal.ghosts-index_before
ghosts-index_before a = record { name = a.blank.name; parts = a.blank.parts }
