use Rattle.std.proofs.Common.{Some, ap, ◌∙◌}
use Rattle.lg_containers.specs.Places.{IsAt, BelongsAt}
use Rattle.lg_containers.proofs.Placed.{found_at, taken_at, not_found, without}
use Rattle.lg_containers.proofs.map.take_entry.Goals as goal

pub returns-in-Ok-clause-value : goal.returns-in-Ok-clause-value
returns-in-Ok-clause-value g c =
    let at : IsAt c.args.name.now c.args.entries.now.items c.in-Ok.place = rw (← c.deref.ensures.value) c.in-Ok.ensures in
    ap (λ p. Some p.1) c.remove-value.ensures.value ∙ found_at c.args.name.now c.args.entries.now.items c.in-Ok.place _ at

pub returns-in-Ok-clause-rest : goal.returns-in-Ok-clause-rest
returns-in-Ok-clause-rest g c =
    let at : IsAt c.args.name.now c.args.entries.now.items c.in-Ok.place = rw (← c.deref.ensures.value) c.in-Ok.ensures in
    c.remove-value.ensures.items ∙ taken_at c.args.name.now c.args.entries.now.items c.in-Ok.place at

pub returns-in-Err-clause-value : goal.returns-in-Err-clause-value
returns-in-Err-clause-value g c =
    let at : BelongsAt c.args.name.now c.args.entries.now.items c.in-Err.field-0 = rw (← c.deref.ensures.value) c.in-Err.ensures in
    not_found c.args.name.now c.args.entries.now.items _ at

pub returns-in-Err-clause-rest : goal.returns-in-Err-clause-rest
returns-in-Err-clause-rest g c =
    let at : BelongsAt c.args.name.now c.args.entries.now.items c.in-Err.field-0 = rw (← c.deref.ensures.value) c.in-Err.ensures in
    without c.args.name.now c.args.entries.now.items _ at
