use Rattle.std.proofs.Common.{refl}
use Rattle.lg_codec.proofs.Readings.{onward, halted}
use Rattle.lg_routes.proofs.lists.volumes_read.Goals as goal

pub returns-in_err-ledger : goal.returns-in_err-ledger
returns-in_err-ledger g c = halted _ c.from_residual.ensures.1 c.in_err-ledger.ensures

pub returns-in_err-query : goal.returns-in_err-query
returns-in_err-query g c = onward c.in_ok-ledger.ensures (halted _ c.from_residual-in_err-query.ensures.1 c.in_err-query.ensures)

pub returns : goal.returns
returns g c = onward c.in_ok-ledger.ensures (onward c.in_ok-query.ensures (record { answers = refl }))
