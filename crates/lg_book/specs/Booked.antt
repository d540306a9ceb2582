-- What a book shows.
--     events     all events, in their order
--     prepared   the events that are prepared and not yet added, in the order in which they were prepared
use Rattle.std.specs.Prelude.{Bool, true, false, List, [], ◌∷◌}
use Rattle.lg_types.specs.declared.records.Event.{Event}

pub record Booked : Type 0 where
  pub events : List Event
  pub prepared : List Event

-- whether nothing is prepared
abbrev pub is_clean : List Event → Bool
is_clean [] = true
is_clean (event ∷ events) = false
