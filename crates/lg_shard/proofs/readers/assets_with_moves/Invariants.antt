use Rattle.std.proofs.Common.{◌≡◌, take}
use Rattle.lg_containers.specs.NameTable.{pairs_of}
use Rattle.lg_shard.specs.Named.{has_items, names_where}
use Rattle.lg_shard.proofs.readers.assets_with_moves.Given as goal

abbrev pub invariant-loop-place : goal.invariant-loop-place
invariant-loop-place l = l.names ≡ names_where has_items (take l.place (pairs_of l.assets))
