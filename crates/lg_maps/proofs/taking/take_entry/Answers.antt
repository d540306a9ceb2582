use Rattle.std.proofs.Common.{◌≡◌, ◌<◌, ◌-◌, map, remove, length, refl, sym, ap, ◌∙◌, arith}
use Rattle.std.proofs.lemmas.Bool.{eqb-false}
use Rattle.lg_maps.specs.Chosen.{held}
use Rattle.lg_maps.specs.Moved.{moved}
use Rattle.lg_maps.proofs.Taken.{taken_below, taken_rest, taken_value}
use Rattle.lg_maps.proofs.taking.take_entry.Goals as goal

pub returns-clause-value : goal.returns-clause-value
returns-clause-value g c e =
    let ne : c.args.places.now.len ≡ 0 → ⊥ = eqb-false _ _ (sym c.is_empty.ensures ∙ c.if-is_empty.false) in
    let some : 0 < length c.args.places.now.items = omega (arith, ne, c.args.places.now.ok.0) in
    let at : c.entry_place-at.result ≡ held c.args.places.now.items c.args.place = c.entry_place-at.ensures ∙ ap (λ ps. held ps c.args.place) c.deref.ensures.value in
    taken_value c.args.entries.now.items c.args.places.now.items c.requires.order some c.args.place c.requires.within c.entry_place-at.result (length c.args.entries.now.items) at refl
    c.swap_remove-value.result c.swap_remove-value.ensures.value e

pub returns-clause-rest : goal.returns-clause-rest
returns-clause-rest g c =
    let ne : c.args.places.now.len ≡ 0 → ⊥ = eqb-false _ _ (sym c.is_empty.ensures ∙ c.if-is_empty.false) in
    let some : 0 < length c.args.places.now.items = omega (arith, ne, c.args.places.now.ok.0) in
    let at : c.entry_place-at.result ≡ held c.args.places.now.items c.args.place = c.entry_place-at.ensures ∙ ap (λ ps. held ps c.args.place) c.deref.ensures.value in
    let by_index = c.swap_remove-value.ensures.by_index in
    taken_rest c.args.entries.now.items c.args.places.now.items c.requires.order some c.args.place c.requires.within c.entry_place-at.result c.args.entries.now.len at c.args.entries.now.ok.0
    c.swap_remove-value.new.self.items (omega (arith, c.swap_remove-value.ensures.len, c.args.entries.now.ok.0, c.swap_remove-value.new.self.ok.0)) by_index.0 by_index.1
    c.remove-2.new.self.items (c.remove-2.ensures.items ∙ ap (λ ps. remove ps c.args.place) (c.move_last.ensures.items ∙ ap (λ es. map (moved (length es - 1) c.entry_place-at.result) c.args.places.now.items) c.deref-2.ensures.value))

pub returns-clause-below : goal.returns-clause-below
returns-clause-below g c =
    let ne : c.args.places.now.len ≡ 0 → ⊥ = eqb-false _ _ (sym c.is_empty.ensures ∙ c.if-is_empty.false) in
    let some : 0 < length c.args.places.now.items = omega (arith, ne, c.args.places.now.ok.0) in
    let at : c.entry_place-at.result ≡ held c.args.places.now.items c.args.place = c.entry_place-at.ensures ∙ ap (λ ps. held ps c.args.place) c.deref.ensures.value in
    let by_index = c.swap_remove-value.ensures.by_index in
    taken_below c.args.entries.now.items c.args.places.now.items c.requires.order some c.args.place c.requires.within c.entry_place-at.result c.args.entries.now.len at c.args.entries.now.ok.0
    c.swap_remove-value.new.self.items (omega (arith, c.swap_remove-value.ensures.len, c.args.entries.now.ok.0, c.swap_remove-value.new.self.ok.0)) by_index.0 by_index.1
    c.remove-2.new.self.items (c.remove-2.ensures.items ∙ ap (λ ps. remove ps c.args.place) (c.move_last.ensures.items ∙ ap (λ es. map (moved (length es - 1) c.entry_place-at.result) c.args.places.now.items) c.deref-2.ensures.value))
