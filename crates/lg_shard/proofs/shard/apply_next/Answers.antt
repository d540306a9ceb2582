use Rattle.lg_shard.specs.declared.kept.KeptEvent.{KeptEvent}
use Rattle.lg_shard.specs.State.{placed}
use Rattle.lg_shard.proofs.HeldLemmas.{first-ready-for, first-ready, held-first}
use Rattle.lg_shard.proofs.shard.apply_next.Goals as goal

pub apply_event-requires-clause-names : goal.apply_event-requires-clause-names
apply_event-requires-clause-names g c =
    let d : KeptEvent = record { place = 0; event = c.args.event.now; names = c.take_names-names.result } in
    first-ready c.args.stripe c.args.events.now.items c.args.applied c.args.ledgers.now (placed c.args.place c.args.event.now) c.requires.held c.requires.first d c.take_names-names.result (c.take_names-names.ensures.names d)

pub apply_event-requires-clause-ready : goal.apply_event-requires-clause-ready
apply_event-requires-clause-ready g c = first-ready-for c.args.stripe c.args.events.now.items c.args.applied c.args.ledgers.now (placed c.args.place c.args.event.now) c.requires.held c.requires.first

pub returns-clause-held : goal.returns-clause-held
returns-clause-held g c =
    let d : KeptEvent = record { place = 0; event = c.args.event.now; names = c.take_names-names.result } in
    held-first c.args.stripe c.args.events.now.items c.args.applied c.args.ledgers.now (placed c.args.place c.args.event.now) c.requires.held c.requires.first d
    c.take_names-names.new.events.items c.apply_event.new.ledgers c.take_names-names.ensures.shown c.take_names-names.ensures.rest c.apply_event.ensures.tied c.apply_event.ensures.still
