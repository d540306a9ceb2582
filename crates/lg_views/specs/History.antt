-- Legal histories: an event list and the answers to the lines of a script that explain each other.
use Rattle.std.specs.Prelude.{◌≡◌, ◌⊎◌, ℕ, ◌+◌, ◌<◌, ◌≤◌, ℤ, if◌then◌else◌, nat_le, nat_lt, List, [], ◌∷◌, length, take, drop}
use Rattle.std.specs.List.{AllZip}
use Rattle.lg_types.specs.declared.calls.Call.{Call}
use Rattle.lg_types.specs.declared.records.Event.{Event}
use Rattle.lg_types.specs.declared.refusals.Refusal.TheVariants.{OutOfMemory}
use Rattle.lg_types.specs.Lists.{IsPrefix, Each, ZipPairs}
use Rattle.lg_types.specs.Log.{first_events}
use Rattle.lg_views.specs.declared.answers.Answer.{Answer}
use Rattle.lg_views.specs.declared.lines.ScriptLine.{ScriptLine}
use Rattle.lg_views.specs.declared.replies.Reply.{Reply}
use Rattle.lg_views.specs.Replies.{refused}
use Rattle.lg_views.specs.Outcome.{outcome}

-- where an answer's events end
abbrev pub end_of : Answer → ℕ
end_of a = a.front + a.events

-- the events that an answer owns
abbrev pub owned : List Event → Answer → List Event
owned events a = take a.events (drop a.front events)

-- a reply with events is the outcome of the call after a prefix, or memory is wanting and there are no events
abbrev pub IsAnswerTo : List Event → Call → ℤ → Reply → List Event → Type 0
IsAnswerTo before call now reply own = ((reply, own) ≡ outcome before call now) ⊎ ((reply ≡ refused OutOfMemory) × (own ≡ []))

-- an answer of a line, in the whole list of events
pub record Answered (events : List Event) (l : ScriptLine) (a : Answer) : Type 0 where
  pub behind : 1 ≤ a.front
  pub within : end_of a ≤ length events
  pub reply : IsAnswerTo (take a.front events) l.call l.moment a.reply (owned events a)

-- a later line of the same caller begins no earlier than this one ends
abbrev pub InTurn : ScriptLine → Answer → ScriptLine → Answer → Type 0
InTurn l a m b = l.caller ≡ m.caller → end_of a ≤ b.front

-- a line of a later phase begins no earlier than this one ends
abbrev pub AfterPhase : ScriptLine → Answer → ScriptLine → Answer → Type 0
AfterPhase l a m b = l.phase < m.phase → end_of a ≤ b.front

-- 1 where a place lies in the range of `m` places from `f` on, and else 0
abbrev pub has_place : ℕ → ℕ → ℕ → ℕ
has_place f m place = if nat_le f place then (if nat_lt place (f + m) then 1 else 0) else 0

-- how many answers own a place
abbrev pub owners : ℕ → List Answer → ℕ
owners place [] = 0
owners place (a ∷ answers) = has_place a.front a.events place + owners place answers

-- no answer begins strictly inside another's range
abbrev pub Apart : Answer → Answer → Type 0
Apart a b = a.front < b.front → end_of a ≤ b.front

-- what each caller is answered, whatever phases there are: the list begins as every one does, each answer is one of its line, and
-- those of a caller come in turn
pub record AnswersInTurn (events : List Event) (lines : List ScriptLine) (answers : List Answer) : Type 0 where
  pub first : IsPrefix first_events events
  pub each : AllZip (Answered events) lines answers
  pub callers : ZipPairs InTurn lines answers

-- how the answers of all share the list: phase after phase, each place from 1 on owned exactly once, and none begun inside another
pub record SharesEvents (events : List Event) (lines : List ScriptLine) (answers : List Answer) : Type 0 where
  pub phases : ZipPairs AfterPhase lines answers
  pub owned_once : (place : ℕ) → 1 ≤ place → place < length events → owners place answers ≡ 1
  pub apart : Each (λ a. Each (Apart a) answers) answers

-- a legal history
pub record Legal (events : List Event) (lines : List ScriptLine) (answers : List Answer) : Type 0 where
  pub answered : AnswersInTurn events lines answers
  pub shared : SharesEvents events lines answers

-- lines answered one after the other, from a number of events on, up to the end of the list
abbrev pub AloneFrom : List Event → ℕ → List ScriptLine → List Answer → Type 0
AloneFrom events n [] [] = n ≡ length events
AloneFrom events n [] (a ∷ answers) = ⊥
AloneFrom events n (l ∷ lines) [] = ⊥
AloneFrom events n (l ∷ lines) (a ∷ answers) = (a.front ≡ n) × (end_of a ≤ length events) × IsAnswerTo (take a.front events) l.call l.moment a.reply (owned events a) × AloneFrom events (end_of a) lines answers

-- a history of one thread
pub record Alone (events : List Event) (lines : List ScriptLine) (answers : List Answer) : Type 0 where
  pub first : IsPrefix first_events events
  pub from : AloneFrom events 1 lines answers
