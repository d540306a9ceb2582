use Rattle.std.specs.Prelude.{slice_get, slice_index}
use Rattle.std.specs.Sync.Mutex.{mutex_guard_value}
use Rattle.std.proofs.Common.{◌≡◌, ℕ, ◌<◌, ◌≤◌, length, Some}
use Rattle.lg_turns.proofs.rows.is_current.Given as goal

abbrev pub invariant-loop-place : goal.invariant-loop-place
invariant-loop-place g l = (length l.row ≡ 16) × ((k : ℕ) → k < l.place → (a : _) → slice_get l.row k ≡ Some (Some a) → slice_index l.stamps k ≤ (mutex_guard_value a).known)
