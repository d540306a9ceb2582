-- The number of the bytes so far, and the bytes that are left.
use Rattle.std.proofs.Common.{◌≡◌, drop}
use Rattle.lg_json.specs.Places.{number_from}
use Rattle.lg_json.proofs.index.name_number.Given as goal

abbrev pub invariant-loop-byte : goal.invariant-loop-byte
invariant-loop-byte l = number_from l.number (drop l.byte-index l.name) ≡ number_from 0 l.name
