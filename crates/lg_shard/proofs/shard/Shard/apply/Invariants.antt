use Rattle.lg_shard.proofs.shard.Shard.apply.Given as goal

abbrev pub ghosts-apply_next : goal.ghosts-apply_next
ghosts-apply_next a = record { name = a.blank.name; parts = a.blank.parts }
