-- The trial of postings: which of them lacks funds or passes the limit, over the totals of the moves before it.
use Rattle.std.specs.Prelude.{ℕ, ◌+◌, ◌^◌, ℤ, pos, Bool, not, ◌&&◌, ◌||◌, if◌then◌else◌, nat_le, nat_lt, int_lt, List, [], ◌∷◌, ◌++◌, map, reverse, Option, Some, None, codes}
use Rattle.std.specs.List.{flat_map}
use Rattle.std.specs.Str.{bytes_eq}
use Rattle.lg_base.specs.Volumes.{balance_of}
use Rattle.lg_types.specs.declared.records.Posting.{Posting}
use Rattle.lg_types.specs.declared.records.Entry.{Entry}
use Rattle.lg_types.specs.declared.refusals.Refusal.{Refusal}
use Rattle.lg_types.specs.declared.refusals.Refusal.TheVariants.{Lack, Below, Limit}
use Rattle.lg_types.specs.Lists.{or_else}
use Rattle.lg_types.specs.Moves.{Placed, posting_moves, moves, total}

abbrev pub is_world : List ℕ → Bool
is_world account = bytes_eq account (codes "world")

-- an input or output past 2 ^ 127 - 1
abbrev pub passes_limit : ℕ → Bool
passes_limit n = nat_le (2 ^ 127) n

-- the moves of a posting that is tried; no total looks at their dates and their transaction
abbrev pub tried_moves : Posting → List Placed
tried_moves p = posting_moves 0 (pos 0) (pos 0) p

abbrev pub source_balance : List Placed → Posting → ℤ
source_balance ms p = balance_of (total ms p.source p.asset)

-- the source has less than the amount: never the account `world`, nor for an amount of 0, nor where accounts may go below zero
abbrev pub lacks : List Placed → Bool → Posting → Bool
lacks ms force p = not force && (not (is_world p.source) && (nat_lt 0 p.amount && int_lt (source_balance ms p) (pos p.amount)))

abbrev pub lack_of : List Placed → ℕ → Posting → Refusal
lack_of ms k p = Lack k p.source p.asset (source_balance ms p) p.amount

-- with the posting the source's output or the destination's input passes the limit
abbrev pub is_over : List Placed → Posting → Bool
is_over ms p = passes_limit ((total ms p.source p.asset).output + p.amount) || passes_limit ((total ms p.destination p.asset).input + p.amount)

-- the trial of postings from the k-th on, after these moves
abbrev pub trial_from : List Placed → ℕ → List Posting → Bool → Option Refusal
trial_from ms k [] force = None
trial_from ms k (p ∷ ps) force = if lacks ms force p then Some (lack_of ms k p) else (if is_over ms p then Some (Limit k) else trial_from (ms ++ tried_moves p) (k + 1) ps force)

-- the first posting that lacks funds or passes the limit
abbrev pub trial : List Entry → List Posting → Bool → Option Refusal
trial g postings force = trial_from (moves g) 0 postings force

-- the postings of a revert: the original's in reverse order, with source and destination exchanged
abbrev pub exchanged : Posting → Posting
exchanged p = record { source = p.destination; destination = p.source; asset = p.asset; amount = p.amount }

abbrev pub reverting : List Posting → List Posting
reverting postings = map exchanged (reverse postings)

-- the first posting that passes the limit, from the k-th on
abbrev pub limit_from : List Placed → ℕ → List Posting → Option Refusal
limit_from ms k [] = None
limit_from ms k (p ∷ ps) = if is_over ms p then Some (Limit k) else limit_from (ms ++ tried_moves p) (k + 1) ps

-- the first source other than `world` whose balance is below zero
abbrev pub is_below : List Placed → Posting → Bool
is_below ms p = not (is_world p.source) && int_lt (source_balance ms p) (pos 0)

abbrev pub below_in : List Placed → List Posting → Option Refusal
below_in ms [] = None
below_in ms (p ∷ ps) = if is_below ms p then Some (Below p.source p.asset (source_balance ms p)) else below_in ms ps

abbrev pub balances_from : List Placed → List Posting → Bool → Option Refusal
balances_from ms ps force = if force then None else below_in (ms ++ flat_map tried_moves ps) ps

-- the trial of a revert: the limit over all postings first, then the balances after all of them
abbrev pub revert_trial_from : List Placed → List Posting → Bool → Option Refusal
revert_trial_from ms ps force = or_else (limit_from ms 0 ps) (balances_from ms ps force)

abbrev pub revert_trial : List Entry → List Posting → Bool → Option Refusal
revert_trial g postings force = revert_trial_from (moves g) postings force
