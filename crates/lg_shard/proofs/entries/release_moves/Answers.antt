use Rattle.std.proofs.Common.{◌-◌, sum_by, ap, sym, ◌∙◌}
use Rattle.lg_shard.specs.Accounts.{waiting_at}
use Rattle.lg_shard.specs.Sides.{posting_count}
use Rattle.lg_shard.specs.Holdings.{own_moves}
use Rattle.lg_shard.proofs.TieLemmas.{moves-released, count-moves}
use Rattle.lg_shard.proofs.entries.release_moves.Goals as goal

pub returns-in-Some-clause-tied : goal.returns-in-Some-clause-tied
returns-in-Some-clause-tied c =
    let s = c.args.stripe in let l = c.args.ledger.now in let e = c.args.entry.now in
    moves-released c.args.accounts.now c.release_postings.new.accounts (own_moves s l e) c.release_postings.ensures.same
    (λ a b. c.release_postings.ensures.room a b ∙ ap (λ n. waiting_at c.args.accounts.now a b - n) (ap (sum_by (posting_count s l a b)) c.as_slice.ensures.value ∙ sym (count-moves s l e c.in-Some.transaction.now (sym c.in-Some.ensures) a b)))
