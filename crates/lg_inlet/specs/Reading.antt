-- One read, which names no inbox.
use Rattle.std.specs.Prelude.{◌≡◌, ℕ, List}
use Rattle.lg_base.specs.Growth.{Rose}
use Rattle.lg_base.specs.Told.{given}
use Rattle.lg_base.specs.declared.source.Source.{Ghosts as SourceGhosts}
use Rattle.lg_inlet.specs.declared.stopped.Stopped.{Stopped}
use Rattle.lg_inlet.specs.declared.stopped.Stopped.TheVariants.{Fault, Spent, NoMemory, Full}

-- the source gave some bytes, which may be lost
pub record GaveSome {S : Type 0} (source : SourceGhosts S) (old new : S) : Type 0 where
  pub came : List ℕ
  pub given_are : source.left old ≡ given came (source.left new)

-- a read failed and changed no bytes
pub record Fails {S : Type 0} (source : SourceGhosts S) (old new : S) (before after : List ℕ) : Type 0 where
  pub left_is : source.left new ≡ source.left old
  pub after_is : after ≡ before
  pub rose : Rose (source.faults old) (source.faults new)

-- why one read put nothing behind the bytes
abbrev pub StopsAppending : {S : Type 0} → SourceGhosts S → S → S → List ℕ → List ℕ → Stopped → Type 0
StopsAppending source old new before after Fault = Fails source old new before after
StopsAppending source old new before after Spent = ⊥
StopsAppending source old new before after NoMemory = GaveSome source old new
StopsAppending source old new before after Full = ⊥
