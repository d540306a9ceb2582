-- Marked lists: an event list with, beside each event, the call that appended it and how many events of the call follow.
use Rattle.std.specs.Prelude.{ℕ, List, [], ◌∷◌, map, length, Some, None}
use Rattle.lg_types.specs.declared.records.Event.{Event}
use Rattle.lg_types.specs.declared.marks.Mark.{Mark}
use Rattle.lg_types.specs.declared.marks.Marked.{Marked}

abbrev pub event_of : Marked → Event
event_of m = m.event

-- the events of a marked list
abbrev pub events_of : List Marked → List Event
events_of ms = map event_of ms

-- the events of one call, with its mark
abbrev pub marks : Mark → List Event → List Marked
marks mark [] = []
marks mark (event ∷ events) = record { event = event; mark = Some mark; following = length events } ∷ marks mark events

-- the event that a list begins with has no mark
abbrev pub opening_mark : Event → Marked
opening_mark event = record { event = event; mark = None; following = 0 }

abbrev pub opening : List Event → List Marked
opening events = map opening_mark events

-- the number beside the last event: how many events of its call are still to come
abbrev pub end_from : ℕ → List Marked → ℕ
end_from n [] = n
end_from n (m ∷ ms) = end_from m.following ms

abbrev pub open_end : List Marked → ℕ
open_end ms = end_from 0 ms
