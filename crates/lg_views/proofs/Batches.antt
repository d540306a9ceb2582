-- What a list of writes appends may follow the log.
use Rattle.std.proofs.Common.{ℕ, ◌+◌, ℤ, Bool, true, false, List, [], ◌∷◌, ◌++◌, Option, Some, None}
use Rattle.std.specs.Prelude.{if◌then◌else◌}
use Rattle.lg_types.specs.declared.calls.Element.{Element}
use Rattle.lg_types.specs.declared.calls.ElementWrite.{ElementWrite}
use Rattle.lg_types.specs.declared.calls.ElementWrite.TheVariants.{Good, Bad}
use Rattle.lg_types.specs.declared.records.Entry.{Entry}
use Rattle.lg_views.specs.declared.decided.Written.{Written}
use Rattle.lg_views.specs.declared.decided.Written.TheVariants.{Refuses, Finds, Appends}
use Rattle.lg_views.specs.declared.replies.BulkItem.{BulkItem}
use Rattle.lg_views.specs.Import.{FollowsFrom}
use Rattle.lg_views.specs.Bulk.{Batched, batched, batch_step, nothing_left, element_written, try_write, atomic_answer, bulk_answer}
use Rattle.lg_views.proofs.Granted.{Fits, written-fits}

tried-fits : (g : List Entry) (key : Option (List ℕ)) (w : ElementWrite) (now : ℤ) → Fits g (try_write g key w now)
tried-fits g key (Good write) now = written-fits g key write now
tried-fits g key (Bad refusal) now = tt

step-fits : (g : List Entry) (k : ℕ) (go_on : Bool) (x : Element) (rest : List Entry → Batched) (w : Written) → Fits g w
    → ((h : List Entry) → FollowsFrom h (rest h).entries) → FollowsFrom g (batch_step g k go_on x rest w).entries
step-fits g k go_on x rest (Refuses refusal) fit h = by_test go_on
  where
    by_test : (b : Bool) → FollowsFrom g (if b then rest g else nothing_left).entries
    by_test true = h g
    by_test false = tt
step-fits g k go_on x rest (Finds e) fit h = h g
step-fits g k go_on x rest (Appends e) fit h = (fit, h (g ++ e ∷ []))

pub batched-fits : (g : List Entry) (k : ℕ) (go_on : Bool) (now : ℤ) (xs : List Element) → FollowsFrom g (batched g k go_on now xs).entries
batched-fits g k go_on now [] = tt
batched-fits g k go_on now (x ∷ xs) = step-fits g k go_on x (λ h. batched h (k + 1) go_on now xs) (element_written g x now) (tried-fits g x.key x.write now) (λ h. batched-fits h (k + 1) go_on now xs)

atomic-fits : (g : List Entry) (b : Batched) (o : Option BulkItem) → FollowsFrom g b.entries → FollowsFrom g (atomic_answer b o).1
atomic-fits g b None h = h
atomic-fits g b (Some failure) h = tt

pub bulk-fits : (g : List Entry) (atomic : Bool) (b : Batched) → FollowsFrom g b.entries → FollowsFrom g (bulk_answer atomic b).1
bulk-fits g true b h = atomic-fits g b b.failure h
bulk-fits g false b h = h
