use Rattle.std.proofs.Common.{◌≡◌, refl, w64, rules}
use Rattle.std.proofs.lemmas.Int.{ints, to_z-of_z}
use mir.Val.{to_z, of_z}
use Rattle.lg_codec.proofs.Readings.{onward, halted}
use Rattle.lg_codec.proofs.values.some_moment_of.Goals as goal

pub returns-in_err-moment_of : goal.returns-in_err-moment_of
returns-in_err-moment_of c = halted _ c.from_residual.ensures.1 c.in_err-moment_of.ensures

pub returns : goal.returns
returns c =
    let e : to_z w64 (of_z w64 c.in_ok-moment_of.field-0) ≡ c.in_ok-moment_of.field-0 = search (rules, to_z-of_z) in
    rw e (onward c.in_ok-moment_of.ensures (record { answers = refl }))
