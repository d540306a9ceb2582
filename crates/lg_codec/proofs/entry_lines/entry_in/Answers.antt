use Rattle.std.proofs.Common.{◌≡◌, refl, w64, rules}
use Rattle.std.proofs.lemmas.Int.{ints, to_z-of_z}
use mir.Val.{to_z, of_z}
use Rattle.lg_codec.proofs.Readings.{onward, halted}
use Rattle.lg_codec.proofs.entry_lines.entry_in.Goals as goal

pub returns-in_err-body : goal.returns-in_err-body
returns-in_err-body c = halted _ c.from_residual.ensures.1 c.in_err-body.ensures

pub returns-in_err-date : goal.returns-in_err-date
returns-in_err-date c = onward c.in_ok-body.ensures (halted _ c.from_residual-in_err-date.ensures.1 (rw c.under.ensures at c.in_err-date.ensures))

pub returns-in_err-mark : goal.returns-in_err-mark
returns-in_err-mark c = onward c.in_ok-body.ensures (onward (rw c.under.ensures at c.in_ok-date.ensures) (halted _ c.from_residual-in_err-mark.ensures.1 c.in_err-mark.ensures))

pub returns-in_err-form : goal.returns-in_err-form
returns-in_err-form c = onward c.in_ok-body.ensures (onward (rw c.under.ensures at c.in_ok-date.ensures) (onward c.in_ok-mark.ensures (halted _ c.from_residual-in_err-form.ensures.1 (rw c.under-2.ensures at c.in_err-form.ensures))))

pub returns-in_err-id : goal.returns-in_err-id
returns-in_err-id c = onward c.in_ok-body.ensures (onward (rw c.under.ensures at c.in_ok-date.ensures) (onward c.in_ok-mark.ensures (onward (rw c.under-2.ensures at c.in_ok-form.ensures) (halted _ c.from_residual-in_err-id.ensures.1 (rw c.under-3.ensures at c.in_err-id.ensures)))))

pub returns-in_err-hash : goal.returns-in_err-hash
returns-in_err-hash c = onward c.in_ok-body.ensures (onward (rw c.under.ensures at c.in_ok-date.ensures) (onward c.in_ok-mark.ensures (onward (rw c.under-2.ensures at c.in_ok-form.ensures) (onward (rw c.under-3.ensures at c.in_ok-id.ensures) (halted _ c.from_residual-in_err-hash.ensures.1 (rw c.under-4.ensures at c.in_err-hash.ensures))))))

pub returns : goal.returns
returns c =
    let e : to_z w64 (of_z w64 c.in_ok-date.date) ≡ c.in_ok-date.date = search (rules, to_z-of_z) in
    rw e (onward c.in_ok-body.ensures (onward (rw c.under.ensures at c.in_ok-date.ensures) (onward c.in_ok-mark.ensures (onward (rw c.under-2.ensures at c.in_ok-form.ensures) (onward (rw c.under-3.ensures at c.in_ok-id.ensures) (onward (rw c.under-4.ensures at c.in_ok-hash.ensures) (record { answers = refl })))))))
