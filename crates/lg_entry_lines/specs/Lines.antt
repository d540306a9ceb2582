-- The answer of a call that reads the bytes of a line.
use Rattle.std.specs.Prelude.{◌≡◌, ℕ, Bool, List, Result, Ok, Err}
use Rattle.lg_json.specs.Tree.{Tree}
use Rattle.lg_json.specs.declared.json.JsonFault.{JsonFault}
use Rattle.lg_json.specs.declared.json.JsonFault.TheVariants.{NoMemory as NoRoom}
use Rattle.lg_types.specs.declared.refusals.ImportCause.TheVariants.{Json}
use Rattle.lg_types.specs.declared.refusals.Refusal.{Refusal}
use Rattle.lg_readings.specs.declared.readings.ReadEntry.{ReadEntry}
use Rattle.lg_readings.specs.Checked.{IsLine, IsCause}
use Rattle.lg_readings.specs.EntryLines.{LineOf}
use Rattle.lg_views.specs.Import.{Read, Unread}
use Rattle.lg_entry_lines.specs.declared.lines.LineFault.{LineFault}
use Rattle.lg_entry_lines.specs.declared.lines.LineFault.TheVariants.{Bad, NoMemory}

-- what the bytes of a line are read as; nothing is said where memory is wanting
abbrev pub IsReadLine : Bool → List ℕ → Result ReadEntry LineFault → Type 0
IsReadLine recompute bytes (Ok found) = IsLine recompute bytes (Read found.form found.entry)
IsReadLine recompute bytes (Err (Bad cause)) = IsLine recompute bytes (Unread cause)
IsReadLine recompute bytes (Err NoMemory) = Unit {0}

-- the same of a line's value
abbrev pub IsReadValue : Bool → Tree → Result ReadEntry LineFault → Type 0
IsReadValue recompute line (Ok found) = LineOf recompute line (Ok found)
IsReadValue recompute line (Err (Bad cause)) = (refusal : Refusal) × LineOf recompute line (Err refusal) × IsCause refusal (Unread cause)
IsReadValue recompute line (Err NoMemory) = Unit {0}

-- a fault of the bytes makes them no JSON text; want of memory stays that
abbrev pub IsFaultOf : JsonFault → LineFault → Type 0
IsFaultOf NoRoom fault = fault ≡ NoMemory
IsFaultOf _ fault = fault ≡ Bad Json

-- this entry, or want of memory
abbrev pub Found : ReadEntry → Result ReadEntry LineFault → Type 0
Found entry (Ok found) = found ≡ entry
Found entry (Err (Bad cause)) = ⊥
Found entry (Err NoMemory) = Unit {0}
