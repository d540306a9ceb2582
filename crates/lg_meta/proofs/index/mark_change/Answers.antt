use Rattle.std.proofs.Common.{filter, nat_lt, ap}
use Rattle.std.proofs.lemmas.Result.{on_err_weaker}
use Rattle.lg_meta.proofs.index.mark_change.Goals as goal

pub returns-in-Drop-clause-err : goal.returns-in-Drop-clause-err
returns-in-Drop-clause-err c = on_err_weaker c.mark.result (λ same q. ap (filter (λ p. nat_lt p c.args.place)) (same q)) c.mark.ensures.err
