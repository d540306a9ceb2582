use Rattle.std.proofs.Common.{◌++◌, sym, subst}
use Rattle.lg_types.specs.declared.records.Event.{Event}
use Rattle.lg_types.specs.Parts.{shares_of}
use Rattle.lg_shard.specs.Ties.{LedgersTied}
use Rattle.lg_shard.proofs.events.apply_event.Goals as goal

pub returns-in-Logged-clause-tied : goal.returns-in-Logged-clause-tied
returns-in-Logged-clause-tied g c place shares coming tied =
    subst (λ (event : Event). LedgersTied c.apply_entry.new.ledgers (shares ++ shares_of c.args.stripe place event) coming) (sym c.in-Logged.is)
    (c.apply_entry.ensures.tied place shares coming
    (subst (λ (event : Event). LedgersTied c.args.ledgers.now shares (shares_of c.args.stripe place event ++ coming)) c.in-Logged.is tied))
