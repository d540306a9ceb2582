use Rattle.std.proofs.Common.{◌≡◌, take, fold}
use Rattle.lg_types.specs.Stripes.{fnv_step}
use Rattle.lg_shard.proofs.stripes.hash_bytes.Given as goal

abbrev pub invariant-loop-byte : goal.invariant-loop-byte
invariant-loop-byte l = l.all ≡ fold fnv_step l.hash (take l.byte-index l.bytes)
