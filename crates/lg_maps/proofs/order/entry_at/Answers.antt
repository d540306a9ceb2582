use Rattle.std.proofs.Common.{length, slice_get, refl, ap, sym, ◌∙◌}
use Rattle.std.proofs.lemmas.Option.{slice_get_past, slice_get_read}
use Rattle.lg_maps.proofs.Chosen.{chosen_get}
use Rattle.lg_maps.proofs.order.entry_at.Goals as goal

pub returns-in-Some : goal.returns-in-Some
returns-in-Some g c =
    sym (slice_get_read c.args.entries.now (length c.args.entries.now) c.entry_place.result c.in-Some.entry.now refl c.in-Some.ensures.lookup.3.0 c.in-Some.ensures.lookup.1)
    ∙ ap (slice_get c.args.entries.now) c.entry_place.ensures
    ∙ sym (chosen_get c.args.entries.now c.args.places.now c.args.place c.requires.below c.requires.whole)

pub returns-in-None : goal.returns-in-None
returns-in-None g c =
    sym (slice_get_past c.args.entries.now c.entry_place.result c.in-None.ensures.lookup.3)
    ∙ ap (slice_get c.args.entries.now) c.entry_place.ensures
    ∙ sym (chosen_get c.args.entries.now c.args.places.now c.args.place c.requires.below c.requires.whole)
