use Rattle.std.proofs.Common.{◌≡◌, arith, nat_le, slice_index, cond}
use Rattle.std.proofs.lemmas.Bool.Decides.{nat_tests}
use Rattle.lg_time.proofs.ReadLemmas.{decimal_of_places}
use Rattle.lg_time.proofs.read.round.Goals as goal

pub returns-clause-value : goal.returns-clause-value
returns-clause-value c =
    let p = decimal_of_places c.args.digits.now in
    let u = c.from-up.ensures in
    let up : c.from-up.result ≡ cond (nat_le 53 (slice_index c.args.digits.now 6)) 1 0 = grind (arith, nat_tests, u) in
    omega (arith, p, up)
