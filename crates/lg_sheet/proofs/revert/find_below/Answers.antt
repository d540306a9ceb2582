use Rattle.std.proofs.Common.{◌≡◌, ◌∙◌, ◌&&◌, not, IsTrue, Some, sym, ap, subst}
use Rattle.std.specs.Prelude.{int_lt, pos}
use Rattle.lg_base.specs.Volumes.{IsWithinLimit, balance_of}
use Rattle.lg_types.specs.declared.refusals.Refusal.TheVariants.{Below}
use Rattle.lg_types.specs.Moves.{total}
use Rattle.lg_types.specs.Trial.{is_world, reverting}
use Rattle.lg_sheet.specs.declared.lines.Order.TheVariants.{Reverting}
use Rattle.lg_sheet.specs.Lines.{posting_of}
use Rattle.lg_sheet.specs.Trials.{present, IsToldStop}
use Rattle.lg_sheet.proofs.OrderLemmas.{both_at}
use Rattle.lg_sheet.proofs.TrialLemmas.{below_here, not_below_here}
use Rattle.lg_sheet.proofs.revert.find_below.Goals as goal

pub present-source-requires-clause-lent : goal.present-source-requires-clause-lent
present-source-requires-clause-lent g c =
    (both_at (λ account asset. IsTrue (g.B.Balances.lends c.args.lent.now account)) Reverting c.args.postings.now c.loop-place.place (posting_of c.line_at-line.result) c.requires.lent c.line_at-line.ensures).source

pub present-source-requires-clause-within : goal.present-source-requires-clause-within
present-source-requires-clause-within g c =
    (both_at (λ account asset. IsWithinLimit (present (g.B.Balances.totals c.args.lent.now) c.args.working.now account asset)) Reverting c.args.postings.now c.loop-place.place (posting_of c.line_at-line.result) c.requires.within c.line_at-line.ensures).source

pub is_below_zero-requires : goal.is_below_zero-requires
is_below_zero-requires g c =
    subst IsWithinLimit (sym c.present-source.ensures)
    (both_at (λ account asset. IsWithinLimit (present (g.B.Balances.totals c.args.lent.now) c.args.working.now account asset)) Reverting c.args.postings.now c.loop-place.place (posting_of c.line_at-line.result) c.requires.within c.line_at-line.ensures).source

pub below-requires : goal.below-requires
below-requires g c =
    subst IsWithinLimit (sym c.present-source.ensures)
    (both_at (λ account asset. IsWithinLimit (present (g.B.Balances.totals c.args.lent.now) c.args.working.now account asset)) Reverting c.args.postings.now c.loop-place.place (posting_of c.line_at-line.result) c.requires.within c.line_at-line.ensures).source

pub returns-then-is_below_zero-clause-told : goal.returns-then-is_below_zero-clause-told
returns-then-is_below_zero-clause-told g c = λ ms have.
    let p = posting_of c.line_at-line.result in
    let qs = reverting c.args.postings.now in
    let both = both_at (λ account asset. total ms account asset ≡ present (g.B.Balances.totals c.args.lent.now) c.args.working.now account asset) Reverting c.args.postings.now c.loop-place.place p have.each c.line_at-line.ensures in
    let same : c.present-source.result ≡ total ms p.source p.asset = c.present-source.ensures ∙ sym both.source in
    subst (λ o. IsToldStop qs c.below.result o)
    (ap (λ v. Some (Below p.source p.asset (balance_of v))) same
    ∙ below_here ms qs c.loop-place.place p c.line_at-line.ensures
    (ap (λ v. not (is_world p.source) && int_lt (balance_of v) (pos 0)) (sym same) ∙ sym c.is_below_zero.ensures ∙ c.if-is_below_zero.true)
    (c.loop-place.invariant.rest ms have))
    (c.below.ensures.told qs)

pub loop-place-preserved : goal.loop-place-preserved
loop-place-preserved g c = record {
  rest = λ ms have.
      let p = posting_of c.line_at-line.result in
      let qs = reverting c.args.postings.now in
      let both = both_at (λ account asset. total ms account asset ≡ present (g.B.Balances.totals c.args.lent.now) c.args.working.now account asset) Reverting c.args.postings.now c.loop-place.place p have.each c.line_at-line.ensures in
      let same : c.present-source.result ≡ total ms p.source p.asset = c.present-source.ensures ∙ sym both.source in
      not_below_here ms qs c.loop-place.place p c.line_at-line.ensures
      (ap (λ v. not (is_world p.source) && int_lt (balance_of v) (pos 0)) (sym same) ∙ sym c.is_below_zero.ensures ∙ c.if-is_below_zero.false)
      (c.loop-place.invariant.rest ms have);
}
