-- When shares may follow other shares: in each ledger, each move, change, key and reference meets what its index, its history or its table asks of the next one.
use Rattle.std.specs.Prelude.{ℕ, List, [], ◌∷◌, ◌++◌}
use Rattle.lg_types.specs.Parts.{Share}
use Rattle.lg_shard.specs.Holdings.{HoldingFollows, ledger_holding}
use Rattle.lg_shard.specs.State.{PlacedEvent, placed_shares}

-- the new shares may follow the shares
abbrev pub Follows : List Share → List Share → Type 0
Follows shares new = (ledger : List ℕ) → HoldingFollows (ledger_holding ledger shares) (ledger_holding ledger new)

-- the shares of the placed events may follow, one event after the other
abbrev pub AllFollow : ℕ → List Share → List PlacedEvent → Type 0
AllFollow s shares [] = Unit {0}
AllFollow s shares (p ∷ ps) = Follows shares (placed_shares s p) × AllFollow s (shares ++ placed_shares s p) ps
