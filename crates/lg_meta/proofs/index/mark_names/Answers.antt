use Rattle.std.proofs.Common.{take, map, sym, ◌∙◌, arith, append-nil}
use Rattle.lg_meta.proofs.Marking.{hits_more, hits_all, same_below, same_on_err}
use Rattle.lg_meta.proofs.index.mark_names.Goals as goal

pub loop-pair-init : goal.loop-pair-init
loop-pair-init c = λ q. sym (append-nil _)

pub loop-pair-preserved : goal.loop-pair-preserved
loop-pair-preserved c =
    λ q. hits_more c.args.pairs.now c.loop-pair.pair-index c.pair-item.result q c.args.place _ _ _ (omega arith) c.pair-item.is (c.loop-pair.invariant q) (c.in_ok-mark.ensures.ok q)

pub returns-in_err-mark-clause-err : goal.returns-in_err-mark-clause-err
returns-in_err-mark-clause-err c =
    same_on_err _ c.args.place c.args.index.now c.mark.new.index (λ q. same_below c.args.place q _ _ (map (λ pair. pair.0) (take c.loop-pair.pair-index c.args.pairs.now))
    (c.in_err-mark.ensures.err q ∙ c.loop-pair.invariant q))

pub returns-clause-ok : goal.returns-clause-ok
returns-clause-ok c = λ q. hits_all c.args.pairs.now c.loop-pair.pair-index q c.args.place _ _ (omega arith) (c.loop-pair.invariant q)
