-- The bytes of a name.
use Rattle.std.specs.Prelude.{ℕ, List, take}
use Rattle.lg_containers.specs.declared.name.Bytes.{Bytes}
use Rattle.lg_containers.specs.declared.name.Bytes.TheVariants.{Short, Long}

abbrev pub bytes_seen : Bytes → List ℕ
bytes_seen (Short bytes) = take bytes.len bytes.bytes
bytes_seen (Long bytes) = bytes.items
