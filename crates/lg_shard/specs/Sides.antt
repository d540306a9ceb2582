-- What a posting does to the accounts of a stripe: to each of its two sides that is of the stripe.
--     side_count, side_moves           1 and the move where the side is of the stripe, the account and the asset; else 0 and none
--     posting_count, posting_items     the same of both sides: the output of the source, then the input of the destination
use Rattle.std.specs.Prelude.{ℕ, ◌+◌, ℤ, Bool, true, false, ◌&&◌, List, ◌++◌}
use Rattle.lg_types.specs.declared.moves.Move.{Move}
use Rattle.lg_types.specs.declared.records.Posting.{Posting}
use Rattle.lg_types.specs.Parts.{has_account}
use Rattle.lg_shard.specs.Accounts.{is_pair, one_if, only_if}

-- whether an account of the stripe and an asset are the pair
abbrev pub is_side : ℕ → List ℕ → List ℕ → List ℕ → List ℕ → List ℕ → Bool
is_side s ledger account asset a b = has_account s ledger account && is_pair account asset a b

abbrev pub side_count : ℕ → List ℕ → List ℕ → List ℕ → List ℕ → List ℕ → ℕ
side_count s ledger account asset a b = one_if (is_side s ledger account asset a b)

abbrev pub side_moves : ℕ → List ℕ → List ℕ → List ℕ → Move → List ℕ → List ℕ → List Move
side_moves s ledger account asset item a b = only_if (is_side s ledger account asset a b) item

abbrev pub posting_count : ℕ → List ℕ → List ℕ → List ℕ → Posting → ℕ
posting_count s ledger a b p = side_count s ledger p.source p.asset a b + side_count s ledger p.destination p.asset a b

abbrev pub out_item : ℕ → ℤ → ℤ → Posting → Move
out_item id inserted effective p = record { transaction = id; inserted = inserted; effective = effective; incoming = false; amount = p.amount }

abbrev pub in_item : ℕ → ℤ → ℤ → Posting → Move
in_item id inserted effective p = record { transaction = id; inserted = inserted; effective = effective; incoming = true; amount = p.amount }

abbrev pub posting_items : ℕ → List ℕ → ℕ → ℤ → ℤ → List ℕ → List ℕ → Posting → List Move
posting_items s ledger id inserted effective a b p =
    side_moves s ledger p.source p.asset (out_item id inserted effective p) a b ++ side_moves s ledger p.destination p.asset (in_item id inserted effective p) a b
