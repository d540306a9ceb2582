-- Bytes taken from a source into an inbox.
use Rattle.std.specs.Prelude.{◌≡◌, ℕ, ◌+◌, ◌≤◌, ◌⊎◌, List, [], ◌++◌, length}
use Rattle.lg_base.specs.Growth.{Rose}
use Rattle.lg_base.specs.Told.{given, IsAtEnd}
use Rattle.lg_base.specs.declared.source.Source.{Ghosts as SourceGhosts}
use Rattle.lg_inlet.specs.declared.inbox.Inbox.{Inbox}
use Rattle.lg_inlet.specs.declared.stopped.Stopped.{Stopped}
use Rattle.lg_inlet.specs.declared.stopped.Stopped.TheVariants.{Fault, Spent, NoMemory, Full}
use Rattle.lg_inlet.specs.Reading.{GaveSome}
use Rattle.lg_inlet.specs.Unread.{unread, allowance_of}

-- these bytes were taken from the source and stand behind those that were unread
pub record Takes {S : Type 0} (source : SourceGhosts S) (old new : S) (inbox after : Inbox) (came : List ℕ) : Type 0 where
  pub given_are : source.left old ≡ given came (source.left new)
  pub unread_are : unread after ≡ unread inbox ++ came
  pub allowed : allowance_of inbox ≡ length came + allowance_of after

-- the bytes came because more were wanted: before the last of them came, by one read, what was there wanted more
abbrev pub IsWanted : (List ℕ → Type 0) → List ℕ → List ℕ → Type 0
IsWanted wants before came =
    (came ≡ [])
    ⊎ ((front : List ℕ) × (last : List ℕ) × (came ≡ front ++ last) × wants (before ++ front) × (length last ≤ 65536))

-- some bytes were taken, as they were wanted
pub record TakesWanted {S : Type 0} (wants : List ℕ → Type 0) (source : SourceGhosts S) (old new : S) (inbox after : Inbox) : Type 0 where
  pub came : List ℕ
  pub takes : Takes source old new inbox after came
  pub wanted : IsWanted wants (unread inbox) came

-- one read took so many bytes; none of them is the end
pub record TakesOnce {S : Type 0} (source : SourceGhosts S) (old new : S) (inbox after : Inbox) (count : ℕ) : Type 0 where
  pub came : List ℕ
  pub takes : Takes source old new inbox after came
  pub count_is : length came ≡ count
  pub short : count ≤ 65536
  pub ended : count ≡ 0 → IsAtEnd (source.left new)

-- why one read gave nothing: it failed, or it may not be made
abbrev pub StopsReading : {S : Type 0} → SourceGhosts S → S → S → Inbox → Inbox → Stopped → Type 0
StopsReading source old new inbox after Fault = Takes source old new inbox after [] × Rose (source.faults old) (source.faults new)
StopsReading source old new inbox after Spent = Takes source old new inbox after [] × (allowance_of after ≡ 0)
StopsReading source old new inbox after NoMemory = GaveSome source old new × (unread after ≡ unread inbox)
StopsReading source old new inbox after Full = ⊥

-- bytes were taken, and still more are wanted
pub record TakesTooFew {S : Type 0} (wants : List ℕ → Type 0) (source : SourceGhosts S) (old new : S) (inbox after : Inbox) : Type 0 where
  pub came : List ℕ
  pub takes : Takes source old new inbox after came
  pub wanted : wants (unread after)

-- bytes were taken, and the next ones came from the source and are lost
pub record LosesSome {S : Type 0} (source : SourceGhosts S) (old new : S) (inbox after : Inbox) : Type 0 where
  pub came : List ℕ
  pub lost : List ℕ
  pub given_are : source.left old ≡ given (came ++ lost) (source.left new)
  pub unread_are : unread after ≡ unread inbox ++ came

-- why a call stopped before it had what it wanted
abbrev pub StopsTaking : {S : Type 0} → (List ℕ → Type 0) → SourceGhosts S → S → S → Inbox → Inbox → Stopped → Type 0
StopsTaking wants source old new inbox after Fault = TakesTooFew wants source old new inbox after × Rose (source.faults old) (source.faults new)
StopsTaking wants source old new inbox after Spent = TakesTooFew wants source old new inbox after × (allowance_of after ≡ 0)
StopsTaking wants source old new inbox after NoMemory = LosesSome source old new inbox after
StopsTaking wants source old new inbox after Full = ⊥
