use Rattle.std.specs.Prelude.{slice_index, nat_lt}
use Rattle.std.proofs.Common.{◌≡◌, ℕ, ◌<◌, ◌&&◌, cond, length}
use Rattle.lg_turns.specs.Stripes.{has}
use Rattle.lg_turns.proofs.publish.stamp_all.Given as goal

abbrev pub invariant-loop-place : goal.invariant-loop-place
invariant-loop-place l = (length l.stamps ≡ 16) × ((k : ℕ) → k < 16 → slice_index l.stamps k ≡ cond (nat_lt k l.place && has l.set k) l.front (slice_index l.fn.stamps k))
