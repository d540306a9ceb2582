-- How a run of the program ends, by its status.
use Rattle.std.proofs.Common.{List, ℕ}
use Rattle.lg_base.specs.declared.sink.Sink.{Ghosts as SinkGhosts}
use Rattle.lg_base.specs.declared.source.Source.{Ghosts as SourceGhosts}
use Rattle.lg_base.specs.declared.status.Status.{Status}
use Rattle.lg_base.specs.declared.status.Status.TheVariants.{Done, Words, ReadFault, WriteFault, Memory, InputLimit, BadLines}
use Rattle.ledgerd.specs.Top.{ReadInput, RunsOn, Runs, Does, Ran}
use Rattle.ledgerd.specs.Words.{Asks, IsInLimits}
use Rattle.ledgerd.specs.declared.words.Command.{Command}
use Rattle.ledgerd.specs.declared.words.Command.TheVariants.{Run, Make, Script, Usage}

module _ {S K : Type 0} (s : SourceGhosts S) (k : SinkGhosts K) (source source' : S) (sink sink' : K) where
  -- the script of an input that was read
  pub runs_of : (input : List ℕ) (status : Status) → ReadInput s source source' input → RunsOn k input sink sink' status
      → Runs s k source source' sink sink' status
  runs_of input Done r h = (input, r, h)
  runs_of input Words r h = absurd h
  runs_of input ReadFault r h = absurd h
  runs_of input WriteFault r h = (h.0, (input, r, h.1))
  runs_of input Memory r h = h
  runs_of input InputLimit r h = absurd h
  runs_of input BadLines r h = absurd h

  -- no command ends with the status of words that ask for nothing
  asks_something : (c : Command) → ¬ (Does s k c source source' sink sink' Words)
  asks_something Run h = h
  asks_something (Make seed lines) h = h.1
  asks_something (Script seed lines) h = h.1
  asks_something Usage h = h.1

  -- words that ask for a command
  pub ran_of : (words : List (List ℕ)) (c : Command) (status : Status) → Asks words c → Does s k c source source' sink sink' status
      → Ran s k words source source' sink sink' status
  ran_of words c Done w h = (c, w, h)
  ran_of words c Words w h = absurd (asks_something c h)
  ran_of words c ReadFault w h = (c, w, h)
  ran_of words c WriteFault w h = (c, w, h)
  ran_of words c Memory w h = (c, w, h)
  ran_of words c InputLimit w h = (c, w, h)
  ran_of words c BadLines w h = (c, w, h)

-- words that ask for a command ask for one within the limits
pub in_limits : (words : List (List ℕ)) (c : Command) → Asks words c → IsInLimits c
in_limits words Run w = tt
in_limits words (Make seed lines) w = w.few
in_limits words (Script seed lines) w = w.few
in_limits words Usage w = tt
