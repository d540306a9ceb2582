-- Lists that are shown from their newest item on.
use Rattle.std.specs.Prelude.{◌≡◌, ℕ, ◌+◌, ◌≤◌, List, length, reverse, take, Some, slice_get}
use Rattle.lg_types.specs.declared.records.Entry.{Entry}

-- the first items of a list, the last of them first
abbrev pub newest_first : {A : Type 0} → ℕ → List A → List A
newest_first count xs = reverse (take count xs)

-- numbers count from 1 without gaps
abbrev pub AreNumbered : {A : Type 0} → (A → ℕ) → List A → Type 0
AreNumbered {A} number xs = (k : ℕ) (x : A) → slice_get xs k ≡ Some x → number x ≡ k + 1

abbrev pub entry_id : Entry → ℕ
entry_id e = e.id

-- a log, and how many of its entries are shown
pub record ShownLog : Type 0 where
  pub log : List Entry
  pub count : ℕ

pub record IsShown (log : List Entry) (count : ℕ) : Type 0 where
  pub within : count ≤ length log
  pub numbered : AreNumbered entry_id log
