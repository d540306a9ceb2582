-- How the ties between indexes and shares go from state to state.
use Rattle.std.proofs.Common.{◌≡◌, ℕ, ◌+◌, ◌-◌, ◌≤◌, List, [], ◌++◌, length, sum_by, Some, None, sym, ap, subst, ◌∙◌, arith, length-append}
use Rattle.std.specs.List.{flat_map, filter}
use Rattle.lg_containers.specs.NameTable.{NameTable}
use Rattle.lg_types.specs.declared.records.Entry.{Entry}
use Rattle.lg_types.specs.declared.records.Transaction.{Transaction}
use Rattle.lg_types.specs.Moves.{Placed, pair_moves, body_transaction, transaction_moves}
use Rattle.lg_types.specs.Parts.{has_move}
use Rattle.lg_types.proofs.MoveSums.{pair_moves-append}
use Rattle.lg_shard.specs.declared.accounts.AccountPart.{AccountPart}
use Rattle.lg_shard.specs.Accounts.{items_of, waiting_of, items_at, waiting_at, SameHoldings, SameRoom, SameSlots}
use Rattle.lg_shard.specs.Sides.{posting_count, posting_items}
use Rattle.lg_shard.specs.Holdings.{own_moves}
use Rattle.lg_shard.specs.Ties.{MovesTied}
use Rattle.lg_shard.proofs.MoveLists.{own-items, length-items}

module _ (s : ℕ) (ledger : List ℕ) (e : Entry) (t : Transaction) (there : body_transaction e.body ≡ Some t) where
  -- the moves of the transaction on an account and an asset
  pub own-moves : (a b : List ℕ) → pair_moves (own_moves s ledger e) a b ≡ flat_map (posting_items s ledger t.id e.date t.timestamp a b) t.postings
  own-moves a b = ap (λ o. pair_moves (filter (has_move s ledger) (transaction_moves e.date o)) a b) there ∙ own-items s ledger t.id e.date t.timestamp a b t.postings

  pub count-moves : (a b : List ℕ) → length (pair_moves (own_moves s ledger e) a b) ≡ sum_by (posting_count s ledger a b) t.postings
  count-moves a b =
      ap length (own-moves a b) ∙ length-items s ledger t.id e.date t.timestamp a b t.postings

-- an entry without a transaction has no moves
pub no-moves : (s : ℕ) (ledger : List ℕ) (e : Entry) → body_transaction e.body ≡ None → own_moves s ledger e ≡ []
no-moves s ledger e none = ap (λ o. filter (has_move s ledger) (transaction_moves e.date o)) none

pub count-append : (ms ns : List Placed) (a b : List ℕ) → length (pair_moves (ms ++ ns) a b) ≡ length (pair_moves ms a b) + length (pair_moves ns a b)
count-append ms ns a b = ap length (pair_moves-append ms ns a b) ∙ length-append (pair_moves ms a b) (pair_moves ns a b)

module _ (old new : NameTable AccountPart) where
  -- the same moves and room
  pub moves-kept : SameHoldings old new → SameRoom old new → (done ahead : List Placed) → MovesTied old done ahead → MovesTied new done ahead
  moves-kept same room done ahead tied = record {
    items = λ a b. same.items a b ∙ tied.items a b;
    room = λ a b. let h = tied.room a b in let e = room a b in omega arith;
  }

  -- more room, for moves that are prepared
  pub moves-reserved : (own : List Placed) → SameHoldings old new → ((a b : List ℕ) → waiting_at new a b ≡ waiting_at old a b + length (pair_moves own a b)) → (done ahead : List Placed) → MovesTied old done ahead → MovesTied new done (ahead ++ own)
  moves-reserved own same room done ahead tied = record {
    items = λ a b. same.items a b ∙ tied.items a b;
    room = λ a b. let h = tied.room a b in let e = room a b in let n = count-append ahead own a b in omega arith;
  }

  -- the room of the moves that were prepared last is given back
  pub moves-released : (own : List Placed) → SameHoldings old new → ((a b : List ℕ) → waiting_at new a b ≡ waiting_at old a b - length (pair_moves own a b)) → (done ahead : List Placed) → MovesTied old done (ahead ++ own) → MovesTied new done ahead
  moves-released own same room done ahead tied = record {
    items = λ a b. same.items a b ∙ tied.items a b;
    room = λ a b. let h = tied.room a b in let e = room a b in let n = count-append ahead own a b in omega arith;
  }

  -- the same slots
  pub moves-slots : SameSlots old new → (done ahead : List Placed) → MovesTied old done ahead → MovesTied new done ahead
  moves-slots same done ahead tied = record {
    items = λ a b. ap items_of (same a b) ∙ tied.items a b;
    room = λ a b. subst (λ n. length (pair_moves ahead a b) ≤ n) (sym (ap waiting_of (same a b))) (tied.room a b);
  }

  -- prepared moves that are applied
  pub moves-applied : (own : List Placed) → ((a b : List ℕ) → items_at new a b ≡ items_at old a b ++ pair_moves own a b) → ((a b : List ℕ) → waiting_at new a b + length (pair_moves own a b) ≡ waiting_at old a b)
      → (done ahead : List Placed) → MovesTied old done (own ++ ahead) → MovesTied new (done ++ own) ahead
  moves-applied own items room done ahead tied = record {
    items = λ a b.
        items a b
        ∙ ap (λ l. l ++ pair_moves own a b) (tied.items a b)
        ∙ sym (pair_moves-append done own a b);
    room = λ a b. let h = tied.room a b in let e = room a b in let n = count-append own ahead a b in omega arith;
  }
