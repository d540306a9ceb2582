-- The volumes that the first reply of an entry shows: those of its transaction over the log up to and with the entry.
use Rattle.std.specs.Prelude.{ℤ, List, [], ◌∷◌, ◌++◌, Option, Some, None}
use Rattle.lg_containers.specs.NameTable as table
use Rattle.lg_types.specs.declared.records.Entry.{Entry}
use Rattle.lg_types.specs.declared.records.Event.{Event}
use Rattle.lg_types.specs.declared.records.Event.TheVariants.{Made, Logged}
use Rattle.lg_types.specs.declared.records.Transaction.{Transaction}
use Rattle.lg_types.specs.Log.{log}
use Rattle.lg_types.specs.Moves.{Placed, moves, body_transaction}
use Rattle.lg_views.specs.Views.{pre_commit, post_commit, pre_commit_effective, post_commit_effective}
use Rattle.lg_book.specs.declared.volumes.FirstVolumes.{FirstVolumes}

-- the volumes of what has no transaction
abbrev pub no_volumes : FirstVolumes
no_volumes = record {
  pre_commit_volumes = table.empty;
  post_commit_volumes = table.empty;
  pre_commit_effective_volumes = table.empty;
  post_commit_effective_volumes = table.empty;
}

-- the volumes of a transaction of an entry of the date, over moves
abbrev pub transaction_volumes : List Placed → ℤ → Option Transaction → FirstVolumes
transaction_volumes ms date None = no_volumes
transaction_volumes ms date (Some t) = record {
  pre_commit_volumes = pre_commit ms date t;
  post_commit_volumes = post_commit ms date t;
  pre_commit_effective_volumes = pre_commit_effective ms date t;
  post_commit_effective_volumes = post_commit_effective ms date t;
}

-- the volumes of an entry's transaction over a log
abbrev pub entry_volumes : List Entry → Entry → FirstVolumes
entry_volumes g e = transaction_volumes (moves g) e.date (body_transaction e.body)

-- the volumes of an event's transaction after the event
abbrev pub volumes_after : List Event → Event → FirstVolumes
volumes_after events (Made info) = no_volumes
volumes_after events (Logged ledger e) = entry_volumes (log events ledger ++ e ∷ []) e
