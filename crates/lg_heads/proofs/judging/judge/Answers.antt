use Rattle.std.proofs.Common.{◌≡◌, ℕ, take, sym, subst, arith, rules}
use denote.Enum.Bare.{same_true}
use Rattle.httparse.specs.Grammar.{HasNoRequest, MayBecomeRequest}
use Rattle.lg_heads.specs.contracts.head_scan.Seen.{the_type}
use Rattle.lg_heads.specs.declared.head_scan.Seen.TheVariants.{Full}
use Rattle.lg_heads.specs.Lines.{IsWithinLimits}
use Rattle.lg_heads.specs.Scanning.{HasStopped}
use Rattle.lg_heads.proofs.Prefixes.{exceeds_lines}
use Rattle.lg_heads.proofs.VerdictLemmas.{head_of_prefix, bad_of_prefix, long_of_prefix}
use Rattle.lg_heads.proofs.judging.judge.Goals as goal

pub returns-in-Ok-Complete-clause-verdict : goal.returns-in-Ok-Complete-clause-verdict
returns-in-Ok-Complete-clause-verdict c =
    let complete = rw c.in-Ok-Complete.field-0-is at c.in-Ok-Complete.ensures.complete in
    (complete.0, head_of_prefix c.args.bytes.now c.at.result c.whole_head.result complete.0 (c.whole_head.ensures complete.0 complete.1))

pub returns-in-Ok-Partial-clause-verdict : goal.returns-in-Ok-Partial-clause-verdict
returns-in-Ok-Partial-clause-verdict c =
    let none = rw c.in-Ok-Partial.field-0-is at c.in-Ok-Partial.ensures.partial in
    let may = rw c.in-Ok-Partial.field-0-is at c.in-Ok-Partial.ensures.unfinished in
    let full : c.args.seen ≡ Full = same_true the_type (search rules) _ _ (sym c.if-eq.ensures) in
    let stopped = subst (HasStopped c.args.scan.now c.args.bytes.now) full c.requires.stopped in
    long_of_prefix c.args.bytes.now c.args.scan.now.at stopped.0.more c.requires.counted.within stopped.0.past
    (subst (λ (n : ℕ). HasNoRequest (take n c.args.bytes.now)) c.at.ensures none)
    (subst (λ (n : ℕ). MayBecomeRequest (take n c.args.bytes.now)) c.at.ensures may)

pub returns-in-Err-clause-verdict : goal.returns-in-Err-clause-verdict
returns-in-Err-clause-verdict c =
    let within : IsWithinLimits (take c.at.result c.args.bytes.now) =
    subst (λ (n : ℕ). IsWithinLimits (take n c.args.bytes.now)) (sym c.at.ensures) c.requires.counted.within in
    bad_of_prefix c.args.bytes.now c.at.result within
    (c.in-Err.ensures.invalid λ same. omega (arith, within.lines_fit, exceeds_lines (take c.at.result c.args.bytes.now) (c.in-Err.ensures.too_many (cc))))
