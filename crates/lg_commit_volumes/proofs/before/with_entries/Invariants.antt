use Rattle.std.proofs.Common.{◌≡◌, drop}
use Rattle.lg_types.specs.Moves.{moves}
use Rattle.lg_commit_volumes.specs.Before.{with_moves}
use Rattle.lg_commit_volumes.proofs.before.with_entries.Given as goal

abbrev pub invariant-loop-entry : goal.invariant-loop-entry
invariant-loop-entry l = with_moves l.transaction l.known (moves (drop l.entry-index l.entries)) l.account l.asset ≡ with_moves l.transaction l.fn.before (moves l.entries) l.account l.asset
