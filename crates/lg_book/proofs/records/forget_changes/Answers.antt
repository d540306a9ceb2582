use Rattle.std.proofs.Common.{◌≡◌, ◌-◌, ◌<◌, length, set, ap, ◌∙◌, arith}
use Rattle.lg_book.specs.Index.{with_none_prepared, changed_at}
use Rattle.lg_book.proofs.Lists.{set-changed, past-changed}
use Rattle.lg_book.proofs.records.forget_changes.Goals as goal

pub returns-then-place-len : goal.returns-then-place-len
returns-then-place-len c =
    let within : c.saturating_sub-place.result < length c.args.records.now.items = omega arith in
    ap (λ h. set c.args.records.now.items c.saturating_sub-place.result (record c.index_mut-record.result.now { history = h })) c.forget.ensures
    ∙ set-changed with_none_prepared c.saturating_sub-place.result c.args.records.now.items c.index_mut-record.result.now within c.index_mut-record.ensures.value
    ∙ ap (λ k. changed_at with_none_prepared k c.args.records.now.items) c.saturating_sub-place.ensures

pub returns-else-place-len : goal.returns-else-place-len
returns-else-place-len c = past-changed with_none_prepared (c.args.id - 1) c.args.records.now.items (omega (arith, c.saturating_sub-place.ensures))
