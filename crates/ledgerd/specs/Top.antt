-- What a run of the program leaves, by its status.
use Rattle.std.specs.Prelude.{◌≡◌, ◌⊎◌, ℕ, ◌≤◌, ◌<◌, List, Result}
use Rattle.lg_base.specs.Feeding.{Writes}
use Rattle.lg_base.specs.Growth.{Rose}
use Rattle.lg_base.specs.Reading.{ReadWhole, ReadPast}
use Rattle.lg_base.specs.declared.feed.Stop.{Stop}
use Rattle.lg_base.specs.declared.sink.Sink.{Ghosts as SinkGhosts}
use Rattle.lg_base.specs.declared.source.Source.{Ghosts as SourceGhosts}
use Rattle.lg_base.specs.declared.status.Status.{Status}
use Rattle.lg_base.specs.declared.status.Status.TheVariants.{Done, Words, ReadFault, WriteFault, Memory, InputLimit, BadLines}
use Rattle.lg_batch.specs.Buffered.{HoldsWhole, HoldsFront}
use Rattle.lg_batch.specs.Lines.{AreLines}
use Rattle.lg_batch.specs.Runs.{IsOutputOf}
use Rattle.lg_views.specs.declared.lines.ScriptLine.{ScriptLine}
use Rattle.ledgerd.specs.Errors.{error_text}
use Rattle.ledgerd.specs.Limits.{line_count}
use Rattle.ledgerd.specs.Words.{Asks}
use Rattle.ledgerd.specs.declared.words.Command.{Command}
use Rattle.ledgerd.specs.declared.words.Command.TheVariants.{Run, Make, Script, Usage}
use Rattle.lg_generator.specs.Made.{made_script}
use Rattle.lg_generator.specs.Summaries.{IsSummary}

-- the input was read to its end, and has no more bytes and lines than the program takes
pub record ReadInput {S : Type 0} (source : SourceGhosts S) (old new : S) (input : List ℕ) : Type 0 where
  pub whole : ReadWhole source old new 67108864 input
  pub few : line_count input ≤ 200000

-- more bytes were taken than the program takes, or they have more lines
pub record HasManyLines {S : Type 0} (source : SourceGhosts S) (old new : S) : Type 0 where
  pub input : List ℕ
  pub whole : ReadWhole source old new 67108864 input
  pub many : 200000 < line_count input

abbrev pub PassesLimit : {S : Type 0} → SourceGhosts S → S → S → Type 0
PassesLimit source old new = ReadPast source old new 67108864 ⊎ HasManyLines source old new

-- the output of a script that is read from these bytes
pub record IsOutputFor (input output : List ℕ) : Type 0 where
  pub lines : List ScriptLine
  pub are_lines : AreLines input lines
  pub is_output : IsOutputOf lines output

-- all of the output of the input was written, or a front of it
abbrev pub WroteWhole : {K : Type 0} → SinkGhosts K → List ℕ → K → K → Type 0
WroteWhole sink input old new = (output : List ℕ) × IsOutputFor input output × HoldsWhole sink old new output

abbrev pub WroteFront : {K : Type 0} → SinkGhosts K → List ℕ → K → K → Type 0
WroteFront sink input old new = (output : List ℕ) × IsOutputFor input output × HoldsFront sink old new output

-- how the run of a script that is read from these bytes ends
abbrev pub RunsOn : {K : Type 0} → SinkGhosts K → List ℕ → K → K → Status → Type 0
RunsOn sink input old new Done = WroteWhole sink input old new
RunsOn sink input old new WriteFault = Rose (sink.faults old) (sink.faults new) × WroteFront sink input old new
RunsOn sink input old new Memory = new ≡ old
RunsOn sink input old new status = ⊥

-- how a run over a source and a sink ends
abbrev pub Runs : {S K : Type 0} → SourceGhosts S → SinkGhosts K → S → S → K → K → Status → Type 0
Runs s k source source' sink sink' Done = (input : List ℕ) × ReadInput s source source' input × WroteWhole k input sink sink'
Runs s k source source' sink sink' Words = ⊥
Runs s k source source' sink sink' ReadFault = Rose (s.faults source) (s.faults source') × (sink' ≡ sink)
Runs s k source source' sink sink' WriteFault = Rose (k.faults sink) (k.faults sink') × ((input : List ℕ) × ReadInput s source source' input × WroteFront k input sink sink')
Runs s k source source' sink sink' Memory = sink' ≡ sink
Runs s k source source' sink sink' InputLimit = PassesLimit s source source' × (sink' ≡ sink)
Runs s k source source' sink sink' BadLines = ⊥

-- how the writing of a text ends: all of it was written, or a front of it where the sink failed, or nothing where memory is wanting
abbrev pub Prints : {K : Type 0} → SinkGhosts K → List ℕ → K → K → Status → Type 0
Prints k text sink sink' Done = HoldsWhole k sink sink' text
Prints k text sink sink' WriteFault = Rose (k.faults sink) (k.faults sink') × HoldsFront k sink sink' text
Prints k text sink sink' Memory = sink' ≡ sink
Prints k text sink sink' status = ⊥

-- how the run of a made script ends: the summary was written, or a front of it, or nothing
abbrev pub Makes : {K : Type 0} → SinkGhosts K → ℕ → ℕ → K → K → Status → Type 0
Makes k seed lines sink sink' Done = (text : List ℕ) × IsSummary seed lines text × HoldsWhole k sink sink' text
Makes k seed lines sink sink' WriteFault = Rose (k.faults sink) (k.faults sink') × ((text : List ℕ) × IsSummary seed lines text × HoldsFront k sink sink' text)
Makes k seed lines sink sink' Memory = sink' ≡ sink
Makes k seed lines sink sink' status = ⊥

-- how a command ends; only `run` reads the source
abbrev pub Does : {S K : Type 0} → SourceGhosts S → SinkGhosts K → Command → S → S → K → K → Status → Type 0
Does s k Run source source' sink sink' status = Runs s k source source' sink sink' status
Does s k (Make seed lines) source source' sink sink' status = (source' ≡ source) × Makes k seed lines sink sink' status
Does s k (Script seed lines) source source' sink sink' status = (source' ≡ source) × Prints k (made_script seed lines) sink sink' status
Does s k Usage source source' sink sink' status = (source' ≡ source) × Prints k (error_text Words) sink sink' status

-- the words ask for no command; nothing is read and nothing written
pub record RefusesWords {S K : Type 0} (words : List (List ℕ)) (source source' : S) (sink sink' : K) : Type 0 where
  pub asks_nothing : (c : Command) → ¬ (Asks words c)
  pub unread : source' ≡ source
  pub unwritten : sink' ≡ sink

-- the whole program, by its status: the words are judged before anything is read
abbrev pub Ran : {S K : Type 0} → SourceGhosts S → SinkGhosts K → List (List ℕ) → S → S → K → K → Status → Type 0
Ran s k words source source' sink sink' Words = RefusesWords words source source' sink sink'
Ran s k words source source' sink sink' status = (c : Command) × Asks words c × Does s k c source source' sink sink' status

-- the line of the status stands on standard error, as far as that took it
abbrev pub Reports : {E : Type 0} → SinkGhosts E → E → E → Status → Type 0
Reports sink old new status = (result : Result (Unit {0}) Stop) × Writes sink old new (error_text status) result
