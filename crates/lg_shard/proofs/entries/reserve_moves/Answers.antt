use Rattle.std.proofs.Common.{◌+◌, sum_by, ap, sym, ◌∙◌}
use Rattle.std.proofs.lemmas.Result.{on_ok_weaker}
use Rattle.lg_shard.specs.Accounts.{waiting_at}
use Rattle.lg_shard.specs.Sides.{posting_count}
use Rattle.lg_shard.specs.Holdings.{own_moves}
use Rattle.lg_shard.proofs.TieLemmas.{moves-reserved, count-moves}
use Rattle.lg_shard.proofs.entries.reserve_moves.Goals as goal

pub returns-in-Some-clause-ok : goal.returns-in-Some-clause-ok
returns-in-Some-clause-ok c =
    let s = c.args.stripe in let l = c.args.ledger.now in let e = c.args.entry.now in
    on_ok_weaker c.reserve_postings.result
    (λ h. moves-reserved c.args.accounts.now c.reserve_postings.new.accounts (own_moves s l e) c.reserve_postings.ensures.same
    (λ a b. h a b ∙ ap (λ n. waiting_at c.args.accounts.now a b + n) (ap (sum_by (posting_count s l a b)) c.as_slice.ensures.value ∙ sym (count-moves s l e c.in-Some.transaction.now (sym c.in-Some.ensures) a b))))
    c.reserve_postings.ensures.ok
