use Rattle.std.proofs.Common.{◌≡◌, take}
use Rattle.lg_containers.specs.NameTable.{pairs_of}
use Rattle.lg_shard.specs.Named.{is_named, names_where}
use Rattle.lg_shard.proofs.readers.named_accounts.Given as goal

abbrev pub invariant-loop-place : goal.invariant-loop-place
invariant-loop-place l = l.names ≡ names_where is_named (take l.place (pairs_of l.accounts))
