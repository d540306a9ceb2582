use Rattle.std.proofs.Common.{◌≡◌, ◌-◌, ◌<◌, length, set, ap, ◌∙◌, arith}
use Rattle.lg_book.specs.Index.{with_prepared}
use Rattle.lg_book.proofs.Lists.{set-changed, on_ok}
use Rattle.lg_book.proofs.records.prepare_change.Goals as goal

pub returns-clause-ok : goal.returns-clause-ok
returns-clause-ok c =
    let within : c.args.id - 1 < length c.args.records.now.items = omega (arith, c.requires.0, c.requires.1) in
    on_ok c.prepare.result (λ is.
    ap (λ h. set c.args.records.now.items (c.args.id - 1) (record c.index_mut-record.result.now { history = h })) is
    ∙ set-changed (with_prepared c.args.change.now) (c.args.id - 1) c.args.records.now.items c.index_mut-record.result.now within c.index_mut-record.ensures.value) c.prepare.ensures.ok
