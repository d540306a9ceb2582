use Rattle.std.proofs.Common.{◌≡◌, ℕ, ◌<◌, ◌≤◌, length, take, ap, ◌∙◌, arith}
use Rattle.lg_types.specs.Log.{log}
use Rattle.lg_query.proofs.Asked.{one_more, none_missing}
use Rattle.lg_query.proofs.answering.entries.Goals.{in-Some+in_ok-copy+in_ok-push, in_default}
use Rattle.lg_query.proofs.answering.entries.Goals as goal

within : (k count most : ℕ) → k < count → count ≤ most → k < most
within k count most less least = omega (arith, less, least)

pub loop-place-preserved : goal.loop-place-preserved
loop-place-preserved c =
    let less : c.loop-place.place < length (log c.args.book.now.events c.args.ledger.now) = within c.loop-place.place c.args.count _ c.loop-place-test.true c.requires in
    elim c.match-entry.branch [
      | in-Some+in_ok-copy+in_ok-push w ↦
          w.entries-is
          ∙ w.in_ok-push.ensures.ok
          ∙ one_more c.args.book.now.events c.args.ledger.now c.len-grown.ensures.grown c.loop-place.place less w.in-Some.entry.now w.in-Some.ensures w.in_ok-copy.field-0 w.in_ok-copy.ensures c.loop-place.entries c.loop-place.invariant
      | in_default w ↦ absurd (none_missing c.args.book.now.events c.args.ledger.now c.len-grown.ensures.grown c.loop-place.place less w.in_default.ensures)
    ]

same_count : (k count : ℕ) → k ≤ count → count ≤ k → k ≡ count
same_count k count le ge = omega (arith, le, ge)

pub returns : goal.returns
returns c = c.loop-place.invariant ∙ ap (λ (k : ℕ). take k (log c.args.book.now.events c.args.ledger.now)) (same_count c.loop-place.place c.args.count c.loop-place.auto.place-end c.loop-place-test.false)
