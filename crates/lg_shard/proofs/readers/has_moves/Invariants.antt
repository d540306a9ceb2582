use Rattle.std.proofs.Common.{◌≡◌, drop}
use Rattle.std.specs.List.{list_any}
use Rattle.lg_containers.specs.NameTable.{pairs_of}
use Rattle.lg_shard.specs.Named.{has_items}
use Rattle.lg_shard.proofs.readers.has_moves.Given as goal

abbrev pub invariant-loop-place : goal.invariant-loop-place
invariant-loop-place l = list_any (λ p. has_items p.1) (pairs_of l.assets) ≡ list_any (λ p. has_items p.1) (drop l.place (pairs_of l.assets))
