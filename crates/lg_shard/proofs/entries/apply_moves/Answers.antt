use Rattle.std.proofs.Common.{◌≡◌, ◌+◌, ◌++◌, List, length, sum_by, ap, sym, subst, ◌∙◌, arith}
use Rattle.std.specs.List.{flat_map}
use Rattle.lg_types.specs.declared.moves.Move.{Move}
use Rattle.lg_types.specs.Moves.{pair_moves}
use Rattle.lg_shard.specs.Accounts.{items_at, waiting_at}
use Rattle.lg_shard.specs.Holdings.{MovesFollow}
use Rattle.lg_shard.specs.Sides.{posting_count, posting_items}
use Rattle.lg_shard.specs.Holdings.{own_moves}
use Rattle.lg_shard.proofs.TieLemmas.{moves-applied, count-moves, own-moves}
use Rattle.lg_shard.proofs.entries.apply_moves.Goals as goal

pub apply_postings-requires-clause-room : goal.apply_postings-requires-clause-room
apply_postings-requires-clause-room g c a b =
    let s = c.args.stripe in let l = c.args.ledger.now in let e = c.args.entry.now in
    let same : sum_by (posting_count s l a b) c.as_slice.result.now ≡ length (pair_moves (own_moves s l e) a b) =
    ap (sum_by (posting_count s l a b)) c.as_slice.ensures.value ∙ sym (count-moves s l e c.in-Some.transaction.now (sym c.in-Some.ensures) a b) in
    let room = c.requires.room a b in
    omega arith

pub apply_postings-requires-clause-follows : goal.apply_postings-requires-clause-follows
apply_postings-requires-clause-follows g c a b =
    let s = c.args.stripe in let l = c.args.ledger.now in let e = c.args.entry.now in let t = c.in-Some.transaction.now in
    subst (λ (ms : List Move). MovesFollow (items_at c.args.accounts.now a b) ms)
    (own-moves s l e t (sym c.in-Some.ensures) a b ∙ ap (flat_map (posting_items s l t.id e.date t.timestamp a b)) (sym c.as_slice.ensures.value))
    (c.requires.follows a b)

pub returns-in-Some-clause-tied : goal.returns-in-Some-clause-tied
returns-in-Some-clause-tied g c =
    let s = c.args.stripe in let l = c.args.ledger.now in let e = c.args.entry.now in let t = c.in-Some.transaction.now in
    moves-applied c.args.accounts.now c.apply_postings.new.accounts (own_moves s l e)
    (λ a b. c.apply_postings.ensures.items a b
    ∙ ap (λ ms. items_at c.args.accounts.now a b ++ ms)
    (ap (flat_map (posting_items s l t.id e.date t.timestamp a b)) c.as_slice.ensures.value ∙ sym (own-moves s l e t (sym c.in-Some.ensures) a b)))
    (λ a b. ap (λ n. waiting_at c.apply_postings.new.accounts a b + n)
    (count-moves s l e t (sym c.in-Some.ensures) a b ∙ ap (sum_by (posting_count s l a b)) (sym c.as_slice.ensures.value))
    ∙ c.apply_postings.ensures.room a b)
