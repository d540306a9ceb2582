use Rattle.std.proofs.Common.{◌≡◌, refl, w64, rules}
use Rattle.std.proofs.lemmas.Int.{ints, to_z-of_z}
use mir.Val.{to_z, of_z}
use Rattle.lg_codec.proofs.Readings.{onward, halted}
use Rattle.lg_codec.proofs.entry_bodies.transaction_in.Goals as goal

pub returns-in_err-id : goal.returns-in_err-id
returns-in_err-id c = halted _ c.from_residual.ensures.1 (rw c.under.ensures at c.in_err-id.ensures)

pub returns-in_err-postings : goal.returns-in_err-postings
returns-in_err-postings c = onward (rw c.under.ensures at c.in_ok-id.ensures) (halted _ c.from_residual-in_err-postings.ensures.1 (rw c.under-2.ensures at c.in_err-postings.ensures))

pub returns-in_err-metadata : goal.returns-in_err-metadata
returns-in_err-metadata c = onward (rw c.under.ensures at c.in_ok-id.ensures) (onward (rw c.under-2.ensures at c.in_ok-postings.ensures) (halted _ c.from_residual-in_err-metadata.ensures.1 (rw c.under-3.ensures at c.in_err-metadata.ensures)))

pub returns-in_err-reference : goal.returns-in_err-reference
returns-in_err-reference c = onward (rw c.under.ensures at c.in_ok-id.ensures) (onward (rw c.under-2.ensures at c.in_ok-postings.ensures) (onward (rw c.under-3.ensures at c.in_ok-metadata.ensures) (halted _ c.from_residual-in_err-reference.ensures.1 (rw c.under-4.ensures at c.in_err-reference.ensures))))

pub returns-in_err-timestamp : goal.returns-in_err-timestamp
returns-in_err-timestamp c = onward (rw c.under.ensures at c.in_ok-id.ensures) (onward (rw c.under-2.ensures at c.in_ok-postings.ensures) (onward (rw c.under-3.ensures at c.in_ok-metadata.ensures) (onward (rw c.under-4.ensures at c.in_ok-reference.ensures) (halted _ c.from_residual-in_err-timestamp.ensures.1 (rw c.under-5.ensures at c.in_err-timestamp.ensures)))))

pub returns : goal.returns
returns c =
    let e : to_z w64 (of_z w64 c.in_ok-timestamp.timestamp) ≡ c.in_ok-timestamp.timestamp = search (rules, to_z-of_z) in
    rw e (onward (rw c.under.ensures at c.in_ok-id.ensures) (onward (rw c.under-2.ensures at c.in_ok-postings.ensures) (onward (rw c.under-3.ensures at c.in_ok-metadata.ensures) (onward (rw c.under-4.ensures at c.in_ok-reference.ensures) (onward (rw c.under-5.ensures at c.in_ok-timestamp.ensures) (record { answers = refl }))))))
