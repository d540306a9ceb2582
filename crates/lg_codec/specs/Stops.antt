-- Why a value isn't read.
use Rattle.std.specs.Prelude.{◌≡◌}
use Rattle.lg_types.specs.declared.refusals.Refusal.{Refusal}
use Rattle.lg_codec.specs.declared.stop.CodecStop.{CodecStop}
use Rattle.lg_codec.specs.declared.stop.CodecStop.TheVariants.{Refused, NoMemory}

-- this refusal, or want of memory
abbrev pub StopsWith : Refusal → CodecStop → Type 0
StopsWith refusal (Refused r) = r ≡ refusal
StopsWith refusal NoMemory = Unit {0}
