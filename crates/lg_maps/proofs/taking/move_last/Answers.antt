use Rattle.std.proofs.Common.{sym, ap, subst, ◌∙◌, arith}
use Rattle.lg_containers.specs.Places.{IsAt, BelongsAt}
use Rattle.lg_containers.proofs.Placed.{in_range}
use Rattle.lg_maps.specs.Chosen.{chosen}
use Rattle.lg_maps.proofs.Chosen.{length-chosen, placed_all}
use Rattle.lg_maps.proofs.Moving.{moved_found, moved_missing}
use Rattle.lg_maps.proofs.taking.move_last.Goals as goal

pub returns-in-Ok-clause-items : goal.returns-in-Ok-clause-items
returns-in-Ok-clause-items g c =
    let at : IsAt c.index-entries-last.result.0 (chosen c.args.places.now.items c.args.entries.now) c.in-Ok.place = subst (λ ps. IsAt c.index-entries-last.result.0 (chosen ps c.args.entries.now) c.in-Ok.place) c.deref.ensures.value (subst (λ n. IsAt n (chosen c.deref.result.now c.args.entries.now) c.in-Ok.place) (c.bytes.ensures.value ∙ ap (λ p. p.0) (sym c.index-entries-last.is)) c.in-Ok.ensures) in
    c.replace_at.ensures.items
    ∙ moved_found c.args.entries.now c.args.places.now.items c.requires.order (placed_all c.args.entries.now c.args.places.now.items c.requires.order.whole c.requires.placed)
    _ c.args.at c.index-entries-last.result c.index-entries-last.is c.in-Ok.place at

pub returns-in-Err-clause-items : goal.returns-in-Err-clause-items
returns-in-Err-clause-items g c =
    let gap : BelongsAt c.index-entries-last.result.0 (chosen c.args.places.now.items c.args.entries.now) c.in-Err.field-0 = subst (λ ps. BelongsAt c.index-entries-last.result.0 (chosen ps c.args.entries.now) c.in-Err.field-0) c.deref.ensures.value (subst (λ n. BelongsAt n (chosen c.deref.result.now c.args.entries.now) c.in-Err.field-0) (c.bytes.ensures.value ∙ ap (λ p. p.0) (sym c.index-entries-last.is)) c.in-Err.ensures) in
    moved_missing c.args.entries.now c.args.places.now.items c.requires.order (placed_all c.args.entries.now c.args.places.now.items c.requires.order.whole c.requires.placed)
    _ c.args.at c.index-entries-last.result c.index-entries-last.is c.in-Err.field-0 gap

pub replace_at-requires-clause-within : goal.replace_at-requires-clause-within
replace_at-requires-clause-within g c =
    let at : IsAt c.index-entries-last.result.0 (chosen c.args.places.now.items c.args.entries.now) c.in-Ok.place = subst (λ ps. IsAt c.index-entries-last.result.0 (chosen ps c.args.entries.now) c.in-Ok.place) c.deref.ensures.value (subst (λ n. IsAt n (chosen c.deref.result.now c.args.entries.now) c.in-Ok.place) (c.bytes.ensures.value ∙ ap (λ p. p.0) (sym c.index-entries-last.is)) c.in-Ok.ensures) in
    omega (arith, in_range c.index-entries-last.result.0 _ c.in-Ok.place at, length-chosen c.args.entries.now c.args.places.now.items c.requires.order.whole, placed_all c.args.entries.now c.args.places.now.items c.requires.order.whole c.requires.placed)
