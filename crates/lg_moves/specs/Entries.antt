-- Moves as the line keeps them: with a mark of those that came in the order of ranks.
use Rattle.std.specs.Prelude.{ℕ, Bool, true, ◌&&◌, if◌then◌else◌}
use Rattle.lg_types.specs.declared.moves.Move.{Move}
use Rattle.lg_moves.specs.declared.entries.Entry.{Entry}
use Rattle.lg_moves.specs.declared.bounds.Bound.{Bound}
use Rattle.lg_moves.specs.Bounds.{passes, is_by_rank}

abbrev pub move_of : Entry → Move
move_of e = record { transaction = e.transaction; inserted = e.inserted; effective = e.effective; incoming = e.incoming; amount = e.amount }

abbrev pub entry_of : Move → Bool → Entry
entry_of m timely = record { transaction = m.transaction; inserted = m.inserted; effective = m.effective; incoming = m.incoming; timely = timely; amount = m.amount }

-- whether an entry stands in the order that a bound cuts: by rank the timely ones alone do
abbrev pub counts : Bound → Entry → Bool
counts b e = if is_by_rank b then e.timely else true

-- whether it does, and passes
abbrev pub hits : Bound → Entry → Bool
hits b e = counts b e && passes b (move_of e)

-- a part of each entry, of those that stand in the bound's order, and of those of them that pass
abbrev pub every_part : (Move → ℕ) → Entry → ℕ
every_part part e = part (move_of e)

abbrev pub timely_part : (Move → ℕ) → Entry → ℕ
timely_part part e = if e.timely then part (move_of e) else 0

abbrev pub counted_part : Bound → (Move → ℕ) → Entry → ℕ
counted_part b part e = if counts b e then part (move_of e) else 0

abbrev pub hit_part : Bound → (Move → ℕ) → Entry → ℕ
hit_part b part e = if hits b e then part (move_of e) else 0
