use Rattle.std.proofs.Common.{◌≡◌, ℤ, ◌-◌, ◌<◌, length, set, ap, ◌∙◌, arith}
use Rattle.std.proofs.lemmas.Int.{to_z-of_z}
use Rattle.lg_meta.specs.History.{first_applied}
use Rattle.lg_book.specs.Index.{with_first_applied}
use Rattle.lg_book.proofs.Lists.{set-changed}
use Rattle.lg_book.proofs.records.apply_change.Goals as goal

pub returns : goal.returns
returns c =
    let within : c.args.id - 1 < length c.args.records.now.items = omega (arith, c.requires.is_id.0, c.requires.is_id.1) in
    ap (λ h. set c.args.records.now.items (c.args.id - 1) (record c.index_mut-record.result.now { history = h }))
    (c.apply_first.ensures ∙ ap (λ (d : ℤ). first_applied d c.index_mut-record.result.now.history.changes c.index_mut-record.result.now.history.prepared) (to_z-of_z _ c.args.date c.ranges.date))
    ∙ set-changed (with_first_applied c.args.date) (c.args.id - 1) c.args.records.now.items c.index_mut-record.result.now within c.index_mut-record.ensures.value
