use Rattle.std.proofs.Common.{◌++◌, sym, subst}
use Rattle.std.proofs.lemmas.Result.{on_ok_weaker}
use Rattle.lg_types.specs.declared.records.Event.{Event}
use Rattle.lg_types.specs.Parts.{shares_of}
use Rattle.lg_shard.specs.Ties.{LedgersTied}
use Rattle.lg_shard.proofs.events.prepare_event.Goals as goal

pub returns-in-Logged-clause-ok : goal.returns-in-Logged-clause-ok
returns-in-Logged-clause-ok c =
    on_ok_weaker c.prepare_entry.result
    (λ h place shares coming room tied. subst (λ (event : Event). LedgersTied c.prepare_entry.new.ledgers shares (coming ++ shares_of c.args.stripe place event)) (sym c.in-Logged.is) (h place shares coming room tied))
    c.prepare_entry.ensures.ok
