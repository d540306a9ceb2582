-- The laws of what is read: the lines of a script stand in order, and bytes that an import takes come to a faultless log.
use Rattle.std.specs.Prelude.{ℕ, ◌<◌, ◌≤◌, Bool, List}
use Rattle.lg_types.specs.declared.calls.Batch.TheVariants.{Ready}
use Rattle.lg_types.specs.declared.records.Entry.{Entry}
use Rattle.lg_types.specs.Lists.{Each, Pairs}
use Rattle.lg_views.specs.declared.lines.ScriptLine.{ScriptLine}
use Rattle.lg_readings.specs.Checked.{IsChecked}
use Rattle.lg_views.specs.Import.{IsFaultless}
use Rattle.lg_views.specs.Laws.{IsFaultlessLine}
use Rattle.lg_readings.specs.Script.{IsScript}

-- at most 64 callers and a million phases
pub record IsWithinCounts (l : ScriptLine) : Type 0 where
  pub caller : l.caller < 64
  pub phase : l.phase < 1000000

-- a later line has a greater number, and no earlier phase
pub record IsLaterLine (l m : ScriptLine) : Type 0 where
  pub number : l.line < m.line
  pub phase : l.phase ≤ m.phase

abbrev pub ScriptsInOrder : Type 0
ScriptsInOrder = (bytes : List ℕ) (ls : List ScriptLine) → IsScript bytes ls → Each IsWithinCounts ls × Pairs IsLaterLine ls

abbrev pub CheckedIsFaultless : Type 0
CheckedIsFaultless = (recompute : Bool) (bytes : List ℕ) (g : List Entry) → IsChecked recompute bytes (Ready g) → IsFaultless g

-- an import of a script brings entries that are a faultless log
abbrev pub ScriptsImportFaultless : Type 0
ScriptsImportFaultless = (bytes : List ℕ) (ls : List ScriptLine) → IsScript bytes ls → Each IsFaultlessLine ls
