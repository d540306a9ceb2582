-- What the bytes of an import come to: its lines, cut at newlines, each read as an entry, and then checked one after the other.
use Rattle.std.specs.Prelude.{◌≡◌, ◌⊎◌, ℕ, ◌==◌, Bool, false, List, Ok, Err}
use Rattle.std.specs.List.{filter, enumerate_from, slice_split, AllZip}
use Rattle.form_urlencoded.specs.Form.{is_nonempty}
use Rattle.lg_json.specs.Tree.{Tree}
use Rattle.lg_json.specs.Grammar.{IsJson, Fits}
use Rattle.lg_types.specs.declared.calls.Batch.{Batch}
use Rattle.lg_types.specs.declared.calls.Batch.TheVariants.{Ready}
use Rattle.lg_types.specs.declared.records.Entry.{Entry}
use Rattle.lg_types.specs.declared.refusals.ImportCause.TheVariants as cause
use Rattle.lg_types.specs.declared.refusals.Refusal.{Refusal}
use Rattle.lg_types.specs.declared.refusals.Refusal.TheVariants.{Member}
use Rattle.lg_readings.specs.declared.readings.ReadEntry.{ReadEntry}
use Rattle.lg_readings.specs.Answers.{Answer}
use Rattle.lg_readings.specs.EntryLines.{LineOf}
use Rattle.lg_views.specs.Import.{ReadLine, Read, Unread, NumberedLine, checked_lines, export}

abbrev pub is_newline : ℕ → Bool
is_newline b = b == 10

abbrev pub has_bytes : ℕ × List ℕ → Bool
has_bytes line = is_nonempty line.1

-- the lines that aren't empty, with their numbers from 1 on; an empty line is counted
abbrev pub numbered_lines : List ℕ → List (ℕ × List ℕ)
numbered_lines bytes = filter has_bytes (enumerate_from 1 (slice_split is_newline bytes))

-- the bytes are a JSON text within the limits of depth, numbers and names
abbrev pub Shows : List ℕ → Tree → Type 0
Shows bytes t = IsJson t bytes × Fits 64 t

-- a refusal of a member, as a cause
abbrev pub IsCause : Refusal → ReadLine → Type 0
IsCause (Member path reason) line = line ≡ Unread (cause.Member path)
IsCause refusal line = ⊥

abbrev pub IsReadAs : Answer ReadEntry → ReadLine → Type 0
IsReadAs (Ok found) line = line ≡ Read found.form found.entry
IsReadAs (Err refusal) line = IsCause refusal line

-- what one line is read as: no JSON text, no line of an entry, or an entry with its log form
abbrev pub IsLine : Bool → List ℕ → ReadLine → Type 0
IsLine recompute bytes line =
    ((t : Tree) × (r : Answer ReadEntry) × Shows bytes t × LineOf recompute t r × IsReadAs r line)
    ⊎ (((t : Tree) → ¬ (Shows bytes t)) × (line ≡ Unread cause.Json))

pub record IsNumberedLine (recompute : Bool) (line : ℕ × List ℕ) (read : NumberedLine) : Type 0 where
  pub number : read.number ≡ line.0
  pub is : IsLine recompute line.1 read.line

-- what the bytes come to: the entries, or the first bad line with its first cause
pub record IsChecked (recompute : Bool) (bytes : List ℕ) (batch : Batch) : Type 0 where
  pub lines : List NumberedLine
  pub read : AllZip (IsNumberedLine recompute) (numbered_lines bytes) lines
  pub checked : batch ≡ checked_lines recompute lines

-- the log's export, read and checked as bytes, comes to the log
pub record IsImportable (g : List Entry) : Type 0 where
  pub comes : IsChecked false (export g) (Ready g)
