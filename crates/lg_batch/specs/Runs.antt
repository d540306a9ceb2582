-- A run of a script on one thread, and what it writes.
use Rattle.std.specs.Prelude.{◌≡◌, ℕ, List, [], map, Option, Some, None, Result}
use Rattle.std.specs.List.{flat_map, zip}
use Rattle.lg_base.specs.Feeding.{Feeds}
use Rattle.lg_base.specs.Growth.{Rose}
use Rattle.lg_base.specs.declared.feed.Feed.{Ghosts as FeedGhosts}
use Rattle.lg_base.specs.declared.sink.Sink.{Ghosts as SinkGhosts}
use Rattle.lg_store.specs.Built.{as_built}
use Rattle.lg_types.specs.declared.records.Event.{Event}
use Rattle.lg_views.specs.History.{Alone}
use Rattle.lg_views.specs.Output.{answer_line, event_line, script_output}
use Rattle.lg_views.specs.declared.answers.Answer.{Answer}
use Rattle.lg_views.specs.declared.lines.ScriptLine.{ScriptLine}
use Rattle.lg_batch.specs.Buffered.{HoldsWhole, HoldsFront, WritesThrough}
use Rattle.lg_batch.specs.declared.run_end.RunEnd.{RunEnd}
use Rattle.lg_batch.specs.declared.run_end.RunEnd.TheVariants.{Done, WriteFault, NoMemory}

-- a line with its call as it is answered
abbrev pub built_line : ScriptLine → ScriptLine
built_line l = record l { call = as_built l.call }

-- the lines were answered one after the other by a ledger that began with the first events
abbrev pub AreAnswered : List Event → List ScriptLine → List Answer → Type 0
AreAnswered events lines answers = Alone events (map built_line lines) answers

-- the output of the lines, for some history of one thread
pub record IsOutputOf (lines : List ScriptLine) (output : List ℕ) : Type 0 where
  pub events : List Event
  pub answers : List Answer
  pub alone : AreAnswered events lines answers
  pub output_is : output ≡ script_output events lines answers

-- a call answered the lines, one after the other, and fed the line of each answer; where the feed stopped, a front of what answers to
-- all lines say
abbrev pub FeedsAnswers : {F T E : Type 0} → FeedGhosts F → List Event → List ScriptLine → F → F → Result T E → Type 0
FeedsAnswers feed events lines old new result = (answers : List Answer) × AreAnswered events lines answers × Feeds feed old new (flat_map answer_line (zip lines answers)) result

-- a call fed the output of the lines, or where the feed stopped a front of it
abbrev pub FeedsOutput : {F T E : Type 0} → FeedGhosts F → List ScriptLine → F → F → Result T E → Type 0
FeedsOutput feed lines old new result = (output : List ℕ) × IsOutputOf lines output × Feeds feed old new output result

-- a call wrote it
abbrev pub WritesOutput : {K T E : Type 0} → SinkGhosts K → List ScriptLine → K → K → Result T E → Type 0
WritesOutput sink lines old new result = (output : List ℕ) × IsOutputOf lines output × WritesThrough sink old new output result

-- how a run of the lines ends: with all of the output written; with a front of it where the sink failed; with nothing
abbrev pub EndsRun : {K : Type 0} → SinkGhosts K → List ScriptLine → K → K → RunEnd → Type 0
EndsRun sink lines old new Done = (output : List ℕ) × IsOutputOf lines output × HoldsWhole sink old new output
EndsRun sink lines old new WriteFault = Rose (sink.faults old) (sink.faults new) × ((output : List ℕ) × IsOutputOf lines output × HoldsFront sink old new output)
EndsRun sink lines old new NoMemory = new ≡ old

-- the line of the event at a place, where there is one
abbrev pub line_at : ℕ → Option Event → List ℕ
line_at place None = []
line_at place (Some event) = event_line (place, event)
