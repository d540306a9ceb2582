use Rattle.std.proofs.Common.{vec_len, ◌++◌, ap, ◌∙◌}
use Rattle.lg_meta.specs.Index.{names, hits, places_in}
use Rattle.lg_meta.proofs.Marking.{same_below, same_on_err}
use Rattle.lg_meta.proofs.adding.push_change.Goals as goal

pub returns-in_err-push-clause-unmarked : goal.returns-in_err-push-clause-unmarked
returns-in_err-push-clause-unmarked c =
    same_on_err _ (vec_len c.args.changes.now) c.args.index.now c.mark_change.new.index (λ q. same_below _ q _ _ (names c.args.change)
    (c.in_ok-mark_change.ensures.ok q ∙ ap (λ k. places_in c.args.index.now q ++ hits q k (names c.args.change)) c.len.ensures))
