use Rattle.std.proofs.Common.{◌≡◌, take}
use Rattle.lg_types.specs.Log.{log}
use Rattle.lg_query.proofs.answering.entries.Given as goal

abbrev pub invariant-loop-place : goal.invariant-loop-place
invariant-loop-place l = l.entries ≡ take l.place (log l.book.events l.ledger)
