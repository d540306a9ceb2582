-- What a script's run writes: a line for each line of the script, then a line for each event.
use Rattle.std.specs.Prelude.{ℕ, List, [], ◌∷◌, ◌++◌, codes, decimal}
use Rattle.std.specs.List.{concat, flat_map, zip, enumerate_from}
use Rattle.lg_types.specs.CallTexts.{truth_text}
use Rattle.lg_types.specs.EntryTexts.{event_text}
use Rattle.lg_types.specs.declared.records.Event.{Event}
use Rattle.lg_views.specs.declared.answers.Answer.{Answer}
use Rattle.lg_views.specs.declared.lines.ScriptLine.{ScriptLine}
use Rattle.lg_views.specs.declared.replies.Reply.{Reply}
use Rattle.lg_views.specs.ReplyTexts.{status_of, body_text}

-- a reply with the number of its line, its front and the number of its events
abbrev pub reply_line : ℕ → ℕ → ℕ → Reply → List ℕ
reply_line line front events reply =
    concat (codes "{\"line\":" ∷ decimal line ∷ codes ",\"front\":" ∷ decimal front ∷ codes ",\"events\":" ∷ decimal events ∷ codes ",\"hit\":" ∷ truth_text reply.hit ∷ codes ",\"status\":" ∷ decimal (status_of reply.content) ∷ codes ",\"body\":" ∷ body_text reply.content ∷ codes "}\n" ∷ [])

-- the line of an answer
abbrev pub answer_line : ScriptLine × Answer → List ℕ
answer_line p = reply_line p.0.line p.1.front p.1.events p.1.reply

-- the line of an event at its place
abbrev pub event_line : ℕ × Event → List ℕ
event_line p = event_text p.0 p.1 ++ codes "\n"

abbrev pub event_lines : List Event → List ℕ
event_lines events = flat_map event_line (enumerate_from 0 events)

-- the output of a script: the answers in the script's order, then all events in their order
abbrev pub script_output : List Event → List ScriptLine → List Answer → List ℕ
script_output events lines answers = flat_map answer_line (zip lines answers) ++ event_lines events
