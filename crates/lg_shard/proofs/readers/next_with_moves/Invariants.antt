use Rattle.std.proofs.Common.{◌≡◌, length}
use Rattle.std.specs.List.{find}
use Rattle.std.specs.Option.{option_copied}
use Rattle.lg_containers.specs.NameTable.{pairs_of}
use Rattle.lg_shard.specs.Named.{has_items, names_where}
use Rattle.lg_shard.specs.Next.{is_behind}
use Rattle.lg_shard.proofs.NextLemmas.{pairs_behind}
use Rattle.lg_shard.proofs.readers.next_with_moves.Given as goal

abbrev pub invariant-walking : goal.invariant-walking
invariant-walking l = find (is_behind (option_copied l.given)) (names_where has_items (pairs_of l.assets)) ≡ find (is_behind (option_copied l.from)) (names_where has_items (pairs_of l.assets))

abbrev pub decreases-walking : goal.decreases-walking
decreases-walking l = length (pairs_behind (option_copied l.from) (pairs_of l.assets))
