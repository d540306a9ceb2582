use Rattle.std.proofs.Common.{◌≡◌, w64, rules, refl}
use Rattle.std.proofs.lemmas.Int.{to_z-of_z}
use mir.Val.{to_z, of_z}
use Rattle.lg_batch.specs.Reads.{content_seen}
use Rattle.lg_batch.proofs.Readings.{onward, halted}
use Rattle.lg_batch.proofs.content.content_with.Goals as goal

pub returns-in_err-now : goal.returns-in_err-now
returns-in_err-now g c = halted content_seen _ c.from_residual.ensures.1 c.in_err-now.ensures

pub returns-in_err-moment : goal.returns-in_err-moment
returns-in_err-moment g c = onward c.in_ok-now.ensures (halted content_seen _ c.from_residual-in_err-moment.ensures.1 c.in_err-moment.ensures)

pub returns-in_err-caller : goal.returns-in_err-caller
returns-in_err-caller g c = onward c.in_ok-now.ensures (onward c.in_ok-moment.ensures (halted content_seen _ c.from_residual-in_err-caller.ensures.1 c.in_err-caller.ensures))

pub returns-in_err-phase : goal.returns-in_err-phase
returns-in_err-phase g c = onward c.in_ok-now.ensures (onward c.in_ok-moment.ensures (onward c.in_ok-caller.ensures (halted content_seen _ c.from_residual-in_err-phase.ensures.1 c.in_err-phase.ensures)))

pub returns-in_err-method : goal.returns-in_err-method
returns-in_err-method g c =
    onward c.in_ok-now.ensures (onward c.in_ok-moment.ensures (onward c.in_ok-caller.ensures (onward c.in_ok-phase.ensures
    (halted content_seen _ c.from_residual-in_err-method.ensures.1 c.in_err-method.ensures))))

pub returns-in_err-target : goal.returns-in_err-target
returns-in_err-target g c =
    onward c.in_ok-now.ensures (onward c.in_ok-moment.ensures (onward c.in_ok-caller.ensures (onward c.in_ok-phase.ensures
    (onward c.in_ok-method.ensures (halted content_seen _ c.from_residual-in_err-target.ensures.1 c.in_err-target.ensures)))))

pub returns-in_err-key : goal.returns-in_err-key
returns-in_err-key g c =
    onward c.in_ok-now.ensures (onward c.in_ok-moment.ensures (onward c.in_ok-caller.ensures (onward c.in_ok-phase.ensures
    (onward c.in_ok-method.ensures (onward c.in_ok-target.ensures (halted content_seen _ c.from_residual-in_err-key.ensures.1 c.in_err-key.ensures))))))

pub returns : goal.returns
returns g c =
    let e : to_z w64 (of_z w64 c.in_ok-moment.moment) ≡ c.in_ok-moment.moment = search (rules, to_z-of_z) in
    rw e
    (onward c.in_ok-now.ensures (onward c.in_ok-moment.ensures (onward c.in_ok-caller.ensures (onward c.in_ok-phase.ensures
    (onward c.in_ok-method.ensures (onward c.in_ok-target.ensures (onward c.in_ok-key.ensures
    (record { answers = (c.in_ok-call.call, c.in_ok-call.ensures, refl) }))))))))
