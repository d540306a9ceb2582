use Rattle.std.proofs.Common.{◌≡◌, drop}
use Rattle.lg_types.specs.Log.{log}
use Rattle.lg_views.specs.Bulk.{batched, bulk_answer}
use Rattle.lg_bulk.specs.Gathering.{IsGathered, answer_after}
use Rattle.lg_bulk.proofs.lists.gather.Given as goal

abbrev pub invariant-loop-place : goal.invariant-loop-place
invariant-loop-place g l = record {
  gathered : IsGathered (log l.book.events l.ledger) l.gathered;
  same : bulk_answer l.atomic (batched (log l.book.events l.ledger) 0 l.go_on l.now l.elements) ≡ answer_after (log l.book.events l.ledger) l.atomic l.go_on l.now l.gathered l.place (drop l.place l.elements);
}
