-- The rule of the counting word: the word is the length of one list of events, and each seat knows a prefix of that list.
use Rattle.std.specs.Prelude.{◌≡◌, ℕ, ◌+◌, ◌-◌, ◌^◌, ◌≤◌, true, false, ◌||◌, if◌then◌else◌, nat_le, List, [], ◌∷◌, ◌++◌, length}
use mathlib.Core.Option.{some}
use lib.ListN.{get_elem?}
use Rattle.atomic_table.specs.Table.{State, Step, Me}
use Rattle.atomic_table.specs.Seated.{TableId}
use Rattle.lg_types.specs.declared.marks.Marked.{Marked}
use Rattle.lg_types.specs.Lists.{IsPrefix}
use Rattle.lg_types.specs.Marked.{open_end}
use Rattle.lg_turns.specs.declared.rule.View.{View}

-- no table
abbrev pub no_table : TableId
no_table = record { words = 0; slots = 0; views_name = 0; atom = 0; block = 0; offset = 0; slot_names = [] }

-- the sum of a number of each item
abbrev pub total : {A : Type 0} → (A → ℕ) → List A → ℕ
total f [] = 0
total f (x ∷ xs) = f x + total f xs

abbrev pub weight_of : View → ℕ
weight_of v = v.weight

abbrev pub made_of : View → ℕ
made_of v = v.made

abbrev pub pens_of : View → ℕ
pens_of v = if v.pen then 1 else 0

-- What a seat knows is so of the list: it has seen a prefix, and the two lists that it was joined from are prefixes of that.
-- The seat that adds events has seen all. No list ends inside the events of one call.
pub record Fits (log : List Marked) (v : View) : Type 0 where
  pub seen : IsPrefix v.seen log
  pub one : IsPrefix v.one v.seen
  pub other : IsPrefix v.other v.seen
  pub all : v.pen ≡ true → v.seen ≡ log
  pub ends : open_end v.seen ≡ 0
  pub one_ends : open_end v.one ≡ 0
  pub other_ends : open_end v.other ≡ 0
  pub idle : v.weight ≡ 0 → v.made ≡ 0

-- There is a list of which the word is the length. One seat adds events, the weights of all seats are together 2^32,
-- and the events that the seats added are all of the list but the first.
pub record Kept {S : Type 0} (s : State S View) : Type 0 where
  pub log : List Marked
  pub word : s.words ≡ length log ∷ []
  pub fits : (seat : ℕ) (v : View) → get_elem? s.views seat ≡ some v → Fits log v
  pub pens : total pens_of s.views ≡ 1
  pub weights : total weight_of s.views ≡ 2 ^ 32
  pub made : total made_of s.views ≡ length log - 1

-- the first seat, before the first event
abbrev pub opener : View
opener = record { seen = []; one = []; other = []; weight = 2 ^ 32; made = 0; pen = true }

-- a seat that knows nothing
abbrev pub nobody : View
nobody = record { seen = []; one = []; other = []; weight = 0; made = 0; pen = false }

-- the seat after the weight 1 was taken, and the new seat with that weight
abbrev pub lighter : View → View
lighter v = record { seen = v.seen; one = v.one; other = v.other; weight = v.weight - 1; made = v.made; pen = v.pen }

abbrev pub sharer : View → View
sharer v = record { seen = v.seen; one = []; other = []; weight = 1; made = 0; pen = false }

-- the seat without the right to add events, and the new seat with that right
abbrev pub penless : View → View
penless v = record { seen = v.seen; one = v.one; other = v.other; weight = v.weight; made = v.made; pen = false }

abbrev pub pen_of : View → View
pen_of v = record { seen = v.seen; one = []; other = []; weight = 0; made = 0; pen = v.pen }

-- the longer of two lists
abbrev pub longer : List Marked → List Marked → List Marked
longer xs ys = if nat_le (length xs) (length ys) then ys else xs

-- two seats as one: it has seen what the seat that adds events has seen, and else the longer list
abbrev pub joined : View → View → View
joined v w = record {
  seen = if w.pen then w.seen else (if v.pen then v.seen else longer v.seen w.seen);
  one = v.seen;
  other = w.seen;
  weight = v.weight + w.weight;
  made = v.made + w.made;
  pen = v.pen || w.pen;
}

-- what a load tells
pub record Shown (v : View) (word : ℕ) : Type 0 where
  pub one : IsPrefix v.one v.seen
  pub other : IsPrefix v.other v.seen
  pub ends : open_end v.seen ≡ 0
  pub within : length v.seen ≤ word
  pub all : v.pen ≡ true → length v.seen ≡ word
  pub light : v.weight ≤ 2 ^ 32
  pub gathered : v.weight ≡ 2 ^ 32 → v.made ≡ word - 1

abbrev pub LooksOf : {S : Type 0} → Me S View → ℕ → Me S View → Type 0
LooksOf v found w = (w.0 ≡ v.0) × (w.1 ≡ v.1) × Shown v.0 found

abbrev pub Looked : {S : Type 0} → Step S → Me S View → ℕ → Me S View → Type 0
Looked s v found w = LooksOf v found w

-- the seat after it added events
abbrev pub grown : List Marked → View → View
grown more v = record { seen = v.seen ++ more; one = v.one; other = v.other; weight = v.weight; made = v.made + length more; pen = v.pen }

abbrev pub RaisesTo : {S : Type 0} → List Marked → Me S View → Me S View → Type 0
RaisesTo more v w = (w.0 ≡ grown more v.0) × (w.1 ≡ v.1)

abbrev pub Raised : {S : Type 0} → List Marked → Step S → Me S View → ℕ → Me S View → Type 0
Raised more s v found w = RaisesTo more v w

-- the seat after it added the first event, which no call made
abbrev pub begun : List Marked → View → View
begun more v = record { seen = more; one = v.one; other = v.other; weight = v.weight; made = v.made; pen = v.pen }

abbrev pub OpensTo : {S : Type 0} → List Marked → Me S View → Me S View → Type 0
OpensTo more v w = (w.0 ≡ begun more v.0) × (w.1 ≡ v.1)

abbrev pub Opened : {S : Type 0} → List Marked → Step S → Me S View → ℕ → Me S View → Type 0
Opened more s v found w = OpensTo more v w

-- the seat that adds events, while no call adds any; and a seat of what lies under a lock
abbrev pub IsPen : View → Type 0
IsPen v = (v.pen ≡ true) × (v.weight ≡ 0) × (v.made ≡ 0)

abbrev pub IsIdle : View → Type 0
IsIdle v = (v.pen ≡ false) × (v.weight ≡ 0) × (v.made ≡ 0)

-- a seat has seen all that the seat that adds events has seen, and is as before in the rest
pub record CaughtUp (v w : View) (all : List Marked) : Type 0 where
  pub had : IsPrefix v.seen all
  pub seen : w.seen ≡ all
  pub weight : w.weight ≡ v.weight
  pub made : w.made ≡ v.made
  pub pen : w.pen ≡ false
