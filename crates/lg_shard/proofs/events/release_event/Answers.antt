use Rattle.std.proofs.Common.{List, ◌++◌, subst}
use Rattle.std.proofs.lemmas.List.{append-nil}
use Rattle.lg_types.specs.declared.records.Event.{Event}
use Rattle.lg_types.specs.Parts.{Share, shares_of}
use Rattle.lg_shard.specs.Ties.{LedgersTied}
use Rattle.lg_shard.proofs.events.release_event.Goals as goal

pub returns-in-Made : goal.returns-in-Made
returns-in-Made c place shares coming tied =
    subst (λ (l : List Share). LedgersTied c.args.ledgers.now shares l) (append-nil coming)
    (subst (λ (event : Event). LedgersTied c.args.ledgers.now shares (coming ++ shares_of c.args.stripe place event)) c.in-Made.is tied)

pub returns-in-Logged : goal.returns-in-Logged
returns-in-Logged c place shares coming tied =
    c.release_entry.ensures place shares coming (subst (λ (event : Event). LedgersTied c.args.ledgers.now shares (coming ++ shares_of c.args.stripe place event)) c.in-Logged.is tied)
