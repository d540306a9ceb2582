-- How an index divides its moves: a line of all of them, and those again that came late in the order of ranks.
use Rattle.std.specs.Prelude.{◌≡◌, ◌≤◌, ℕ, ◌+◌, Bool, false, Option, None, Some, ℤ, int_lt}
use Rattle.std.specs.List.{sum_by}
use Rattle.lg_runs.specs.Runs.{Kept}
use Rattle.lg_types.specs.declared.moves.Move.{Move}
use Rattle.lg_moves.specs.declared.entries.Entry.{Entry}
use Rattle.lg_moves.specs.Sums.{IsBounded}
use Rattle.lg_moves.specs.Entries.{every_part, timely_part}

pub record IsDivided (line : Kept Entry) (late : Kept Move) : Type 0 where
  -- any part of the moves adds up alike over all entries and over the timely ones and the late moves
  pub sums : (part : Move → ℕ) → sum_by (every_part part) line.items ≡ sum_by (timely_part part) line.items + sum_by part late.items
  -- each move that can still be applied may come late
  pub spare : line.spare ≤ late.spare
  pub bounded : IsBounded (λ part. sum_by (every_part part) line.items)

-- a date is before the first end; a missing end has none before it
abbrev pub is_before : Option ℤ → ℤ → Bool
is_before None date = false
is_before (Some first) date = int_lt date first
