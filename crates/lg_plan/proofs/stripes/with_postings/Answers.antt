use Rattle.std.proofs.Common.{◌||◌, ◌∙◌, ap, sym}
use Rattle.lg_turns.specs.Stripes.{has}
use Rattle.lg_plan.proofs.StripeLemmas.{has_posting, has_name, posting_next, none_left}
use Rattle.lg_plan.proofs.stripes.with_postings.Goals as goal

pub loop-posting-preserved : goal.loop-posting-preserved
loop-posting-preserved c = λ k.
    posting_next k c.args.ledger.now c.args.postings.now c.loop-posting.posting-index c.posting-item.result (has c.loop-posting.all k) (has c.with_account-all.result k) (has c.with_account-all-in-loop-posting.result k)
    c.loop-posting-test.true c.posting-item.is
    (c.with_account-all.ensures k ∙ ap (λ n. has_name k c.args.ledger.now n || has c.loop-posting.all k) c.bytes.ensures.value)
    (c.with_account-all-in-loop-posting.ensures k ∙ ap (λ n. has_name k c.args.ledger.now n || has c.with_account-all.result k) c.bytes-in-loop-posting.ensures.value)
    ∙ c.loop-posting.invariant k

pub returns : goal.returns
returns c = λ k.
    ap (λ ps. has_posting k c.args.ledger.now ps || has c.loop-posting.all k) (sym (none_left c.args.postings.now c.loop-posting.posting-index c.loop-posting-test.false))
    ∙ c.loop-posting.invariant k
