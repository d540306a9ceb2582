-- The postings of a write, and their trial.
use Rattle.std.specs.Prelude.{ℕ, List, [], ◌++◌, Option, Some, None, Result, Ok, Err}
use Rattle.std.specs.List.{flat_map}
use Rattle.lg_base.specs.declared.amounts.Volumes.{Volumes}
use Rattle.lg_sheet.specs.Working.{Working, SameVolumes}
use Rattle.lg_sheet.specs.Trials.{Accepted, StaysWithin}
use Rattle.lg_types.specs.declared.calls.Write.{Write}
use Rattle.lg_types.specs.declared.calls.Write.TheVariants.{Create, Revert, SetMeta, DropMeta}
use Rattle.lg_types.specs.declared.records.Entry.{Entry}
use Rattle.lg_types.specs.declared.records.Posting.{Posting}
use Rattle.lg_types.specs.declared.records.Transaction.{Transaction}
use Rattle.lg_types.specs.declared.refusals.Refusal.{Refusal}
use Rattle.lg_types.specs.Moves.{Placed, moves}
use Rattle.lg_types.specs.Trial.{trial_from, revert_trial_from, reverting, tried_moves}

-- the postings that a write names: of a revert those of the transaction that it reverts
abbrev pub named_postings : Write → Option Transaction → List Posting
named_postings (Create postings reference timestamp metadata accounts force) known = postings
named_postings (Revert id force at_effective_date) None = []
named_postings (Revert id force at_effective_date) (Some t) = t.postings
named_postings (SetMeta target metadata) known = []
named_postings (DropMeta target name) known = []

-- the postings that a write makes
abbrev pub made_postings : Write → Option Transaction → List Posting
made_postings (Create postings reference timestamp metadata accounts force) known = postings
made_postings (Revert id force at_effective_date) None = []
made_postings (Revert id force at_effective_date) (Some t) = reverting t.postings
made_postings (SetMeta target metadata) known = []
made_postings (DropMeta target name) known = []

-- after these moves, the refusal of the postings of a creation, and of a revert whose transaction is known
abbrev pub write_trial_from : List Placed → Write → Option Transaction → Option Refusal
write_trial_from ms (Create postings reference timestamp metadata accounts force) known = trial_from ms 0 postings force
write_trial_from ms (Revert id force at_effective_date) None = None
write_trial_from ms (Revert id force at_effective_date) (Some t) = revert_trial_from ms (reverting t.postings) force
write_trial_from ms (SetMeta target metadata) known = None
write_trial_from ms (DropMeta target name) known = None

-- the same after the moves of a log
abbrev pub write_trial : List Entry → Write → Option Transaction → Option Refusal
write_trial g write known = write_trial_from (moves g) write known

-- the sheet accepted the postings beside what it accepted before, and what is within the limit stays within it
pub record Accepts (totals : List ℕ → List ℕ → Volumes) (old new : Working) (postings : List Posting) : Type 0 where
  pub accepted : (accepted : List Placed) → Accepted old accepted → Accepted new (accepted ++ flat_map tried_moves postings)
  pub within : StaysWithin totals old new

-- postings that aren't refused are accepted; after a refusal or want of memory the sheet is as before
abbrev pub Leaves : {E : Type 0} → (List ℕ → List ℕ → Volumes) → Working → Working → List Posting → Result (Option Refusal) E → Type 0
Leaves totals old new postings (Ok None) = Accepts totals old new postings
Leaves totals old new postings (Ok (Some refusal)) = SameVolumes old new
Leaves totals old new postings (Err stop) = SameVolumes old new
