-- The hash of what is asked is the hash that is kept, whatever it is.
use Rattle.std.proofs.Common.{refl, ap}
use Rattle.lg_views.specs.Outcome.{on_ledger}
use Rattle.lg_views.specs.Writes.{write_answer}
use Rattle.lg_views.proofs.Kept.{repeats}
use Rattle.lg_examples.specs.Rows.{computed}
use Rattle.lg_examples.specs.Scenes.{day, default}
use Rattle.lg_examples.specs.KeyRows.{first_write, key_one, before_again}
use Rattle.lg_examples.proofs.keys.repeated_key.Goals as goal

pub returns-clause-reply : goal.returns-clause-reply
unfolding computed
returns-clause-reply c = ap (λ w. (on_ledger default (write_answer before_again w)).0) (repeats before_again key_one first_write (day 3) _ _ refl refl refl)

pub returns-clause-events : goal.returns-clause-events
unfolding computed
returns-clause-events c = ap (λ w. (on_ledger default (write_answer before_again w)).1) (repeats before_again key_one first_write (day 3) _ _ refl refl refl)
