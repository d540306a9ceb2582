-- Reading a source to its end.
use Rattle.std.specs.Prelude.{◌≡◌, ℕ, ◌≤◌, ◌<◌, List, ◌++◌, length}
use Rattle.lg_base.specs.Growth.{Rose}
use Rattle.lg_base.specs.Told.{given, IsAtEnd}
use Rattle.lg_base.specs.declared.source.Source.{Ghosts as SourceGhosts}
use Rattle.lg_base.specs.declared.read_end.ReadEnd.{ReadEnd}
use Rattle.lg_base.specs.declared.read_end.ReadEnd.TheVariants.{Fault, Limit, NoMemory}

-- these bytes were taken, and the source is at its end
pub record ReadWhole {S : Type 0} (source : SourceGhosts S) (old new : S) (limit : ℕ) (bytes : List ℕ) : Type 0 where
  pub bytes_are : source.left old ≡ given bytes (source.left new)
  pub ended : IsAtEnd (source.left new)
  pub within : length bytes ≤ limit

-- more bytes than the limit were taken
pub record ReadPast {S : Type 0} (source : SourceGhosts S) (old new : S) (limit : ℕ) : Type 0 where
  pub bytes : List ℕ
  pub bytes_are : source.left old ≡ given bytes (source.left new)
  pub past : limit < length bytes

-- why a reading ended early
abbrev pub EndedBy : {S : Type 0} → SourceGhosts S → S → S → ℕ → ReadEnd → Type 0
EndedBy source old new limit Fault = Rose (source.faults old) (source.faults new)
EndedBy source old new limit Limit = ReadPast source old new limit
EndedBy source old new limit NoMemory = Unit {0}

-- one read took a piece of so many bytes and put it behind the bytes; a piece of none is the end
pub record TakesMore {S : Type 0} (source : SourceGhosts S) (old new : S) (before after : List ℕ) (count : ℕ) : Type 0 where
  pub piece : List ℕ
  pub length_is : length piece ≡ count
  pub bytes_are : source.left old ≡ given piece (source.left new)
  pub after_is : after ≡ before ++ piece
  pub ended : count ≡ 0 → IsAtEnd (source.left new)

-- why one read gave nothing
abbrev pub StopsReading : {S : Type 0} → SourceGhosts S → S → S → ReadEnd → Type 0
StopsReading source old new Fault = Rose (source.faults old) (source.faults new)
StopsReading source old new Limit = ⊥
StopsReading source old new NoMemory = Unit {0}
