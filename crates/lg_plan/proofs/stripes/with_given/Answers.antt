use Rattle.std.proofs.Common.{◌||◌, ◌∙◌, ap, sym}
use Rattle.lg_turns.specs.Stripes.{has}
use Rattle.lg_plan.specs.Resources.{first_of}
use Rattle.lg_plan.proofs.StripeLemmas.{has_of, has_name, name_next, none_left}
use Rattle.lg_plan.proofs.stripes.with_given.Goals as goal

pub loop-pair-preserved : goal.loop-pair-preserved
loop-pair-preserved c = λ k.
    name_next k c.args.ledger.now first_of c.args.given.now c.loop-pair.pair-index c.pair-item.result (has c.loop-pair.all k) (has c.with_account-all.result k)
    c.loop-pair-test.true c.pair-item.is
    (c.with_account-all.ensures k ∙ ap (λ n. has_name k c.args.ledger.now n || has c.loop-pair.all k) c.bytes.ensures.value)
    ∙ c.loop-pair.invariant k

pub returns : goal.returns
returns c = λ k.
    ap (λ ps. has_of k c.args.ledger.now first_of ps || has c.loop-pair.all k) (sym (none_left c.args.given.now c.loop-pair.pair-index c.loop-pair-test.false))
    ∙ c.loop-pair.invariant k
