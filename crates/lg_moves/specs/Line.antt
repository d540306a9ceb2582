-- What holds of a line: entries in the order of insertion, with marks that carry the sums so far.
use Rattle.std.specs.Prelude.{◌≡◌, ◌≤ℤ◌, ℕ, ◌+◌, ◌-◌, ◌*◌, ◌^◌, ◌<◌, ◌≤◌, Bool, true, false, if◌then◌else◌, List, [], length, take, drop, slice_index_or}
use Rattle.std.specs.List.{sum_by, All}
use Rattle.lg_moves.specs.declared.bounds.Bound.{Bound}
use Rattle.lg_moves.specs.declared.bounds.Bound.TheVariants.{RankBefore}
use Rattle.lg_moves.specs.declared.bounds.Key.{Key}
use Rattle.lg_types.specs.declared.moves.Move.{Move}
use Rattle.lg_moves.specs.declared.entries.Entry.{Entry}
use Rattle.lg_moves.specs.declared.marks.Mark.{Mark}
use Rattle.lg_moves.specs.declared.sums.Sums.{Sums}
use Rattle.lg_runs.specs.Runs.{Kept}
use Rattle.lg_moves.specs.Bounds.{is_near, is_by_rank, key_of, passes}
use Rattle.lg_moves.specs.Sums.{AreSums, IsBounded, sums_with}
use Rattle.lg_moves.specs.Entries.{move_of, counts, hits, every_part, timely_part}

-- the sums of the entries that stand in the order of a bound
abbrev pub sums_in : Bound → Mark → Sums
sums_in b m = if is_by_rank b then m.timely else m.all

-- a key on whose near side stand all entries that stand in a bound's order
pub record Covers (key : Key) (entries : List Entry) : Type 0 where
  pub on : (b : Bound) → is_near b key ≡ true → All (λ e. counts b e ≡ true → passes b (move_of e) ≡ true) entries

-- a key beyond which no entry passes
pub record Precedes (key : Key) (entries : List Entry) : Type 0 where
  pub on : (b : Bound) → is_near b key ≡ false → All (λ e. hits b e ≡ false) entries

-- the second key is no lower than the first, in either order
pub record IsUpTo (low high : Key) : Type 0 where
  pub on : (b : Bound) → is_near b high ≡ true → is_near b low ≡ true

-- a mark between the entries before it and those after it, no higher than a key
pub record IsMark (m : Mark) (before after : List Entry) (top : Key) : Type 0 where
  pub all : AreSums m.all (λ part. sum_by (every_part part) before)
  pub timely : AreSums m.timely (λ part. sum_by (timely_part part) before)
  pub covers : Covers m.key before
  pub precedes : Precedes m.key after
  pub low : IsUpTo m.key top

-- the transactions of the entries never fall
pub record IsOrdered (entries : List Entry) : Type 0 where
  pub on : (i j : ℕ) (d : Entry) → i ≤ j → j < length entries → (slice_index_or entries i d).transaction ≤ (slice_index_or entries j d).transaction

-- the entries before a place are of transactions before the id, and those from it on aren't
pub record IsCutBefore (id : ℕ) (entries : List Entry) (place : ℕ) : Type 0 where
  pub within : place ≤ length entries
  pub before : (k : ℕ) (d : Entry) → k < place → (slice_index_or entries k d).transaction < id
  pub after : (k : ℕ) (d : Entry) → place ≤ k → k < length entries → id ≤ (slice_index_or entries k d).transaction

-- the marks of a line at each 16th place, and one at its end
pub record IsMarked (entries : List Entry) (marks : List Mark) (end : Mark) : Type 0 where
  pub whole : IsMark end entries [] end.key
  pub each : (k : ℕ) (d : Mark) → k < length marks → IsMark (slice_index_or marks k d) (take ((k + 1) * 16) entries) (drop ((k + 1) * 16) entries) end.key
  pub rising : (i j : ℕ) (d : Mark) → i ≤ j → j < length marks → IsUpTo (slice_index_or marks i d).key (slice_index_or marks j d).key
  pub few : length marks * 16 ≤ length entries
  pub enough : length entries < length marks * 16 + 16
  pub last : (d : Entry) → 0 < length entries → ((slice_index_or entries (length entries - 1) d).transaction ≡ end.key.transaction) × ((slice_index_or entries (length entries - 1) d).inserted ≡ end.key.inserted)
  -- the greatest rank is that of an entry
  pub reached : (d : Entry) → 0 < length entries → (k : ℕ) × (k < length entries) × ((slice_index_or entries k d).effective ≡ end.key.date) × ((slice_index_or entries k d).transaction ≡ end.key.id)
  pub ordered : IsOrdered entries
  pub bounded : IsBounded (λ part. sum_by (every_part part) entries)

-- a line with its spare room: as many marks as all places need
pub record IsLine (entries : Kept Entry) (marks : Kept Mark) (end : Mark) : Type 0 where
  pub marked : IsMarked entries.items marks.items end
  pub room : length entries.items + entries.spare < (length marks.items + marks.spare) * 16 + 16

-- the mark at the end after one more entry
abbrev pub mark_after : Mark → Move → Bool → Mark
mark_after m item timely = record {
  all = sums_with m.all item;
  timely = if timely then sums_with m.timely item else m.timely;
  key = if timely then key_of item else record { inserted = item.inserted; transaction = item.transaction; date = m.key.date; id = m.key.id };
}

-- a move that may come after the entries, as the mark at their end tells it
pub record Follows (entries : List Entry) (end : Mark) (item : Move) (timely : Bool) : Type 0 where
  pub inserted : 0 < length entries → end.key.inserted ≤ℤ item.inserted
  pub transaction : 0 < length entries → end.key.transaction ≤ item.transaction
  pub ranked : 0 < length entries → timely ≡ true → is_near (RankBefore end.key.date end.key.id) (key_of item) ≡ false
  pub first : length entries ≡ 0 → timely ≡ true

-- the marks before a place are on a bound's near side, and those from it on aren't
pub record IsCutAt (b : Bound) (marks : List Mark) (place : ℕ) : Type 0 where
  pub within : place ≤ length marks
  pub before : (k : ℕ) (d : Mark) → k < place → is_near b (slice_index_or marks k d).key ≡ true
  pub after : (k : ℕ) (d : Mark) → place ≤ k → k < length marks → is_near b (slice_index_or marks k d).key ≡ false

-- after so many steps of a search among `length` places, so many are left
pub record IsSearched (steps size length : ℕ) : Type 0 where
  pub area : 2 ^ steps * size ≤ length
  pub cost : 2 ^ steps ≤ 2 * length + 1

-- a search for the first mark beyond a bound: `size` marks from `low` on are left
pub record IsSearching (b : Bound) (marks : List Mark) (low size before now : ℕ) : Type 0 where
  pub within : low + size ≤ length marks
  pub near : (k : ℕ) (d : Mark) → k < low → is_near b (slice_index_or marks k d).key ≡ true
  pub far : (k : ℕ) (d : Mark) → low + size ≤ k → k < length marks → is_near b (slice_index_or marks k d).key ≡ false
  pub later : before ≤ now
  pub cost : IsSearched (now - before) size (length marks)

-- a search for the first entry that isn't of a transaction before the id: `size` entries from `low` on are left
pub record IsSearchingBefore (id : ℕ) (entries : List Entry) (low size before now : ℕ) : Type 0 where
  pub within : low + size ≤ length entries
  pub near : (k : ℕ) (d : Entry) → k < low → (slice_index_or entries k d).transaction < id
  pub far : (k : ℕ) (d : Entry) → low + size ≤ k → k < length entries → id ≤ (slice_index_or entries k d).transaction
  pub later : before ≤ now
  pub cost : IsSearched (now - before) size (length entries)
