use Rattle.std.proofs.Common.{insert, ap, ◌∙◌}
use Rattle.lg_containers.specs.Places.{IsAt, BelongsAt}
use Rattle.lg_containers.proofs.Placed.{put_at, inserted_at}
use Rattle.lg_containers.proofs.map.put_entry.Goals as goal

pub returns-in-Ok-clause-ok : goal.returns-in-Ok-clause-ok
returns-in-Ok-clause-ok g c =
    let at : IsAt c.args.name c.args.entries.now.items c.in-Ok.place = rw (← c.deref.ensures.value, ← c.bytes.ensures.value) c.in-Ok.ensures in
    put_at c.args.name c.args.entries.now.items c.in-Ok.place c.args.value at

pub returns-in_ok-insert-in-Err-clause-ok : goal.returns-in_ok-insert-in-Err-clause-ok
returns-in_ok-insert-in-Err-clause-ok g c =
    let at : BelongsAt c.args.name c.args.entries.now.items c.in-Err.place = rw (← c.deref.ensures.value, ← c.bytes.ensures.value) c.in-Err.ensures in
    c.in_ok-insert-in-Err.ensures.items
    ∙ ap (λ l. insert l c.in-Err.place (c.args.name, c.args.value)) c.in_ok-reserve_first-in-Err.ensures
    ∙ inserted_at c.args.name c.args.entries.now.items c.in-Err.place c.args.value at
