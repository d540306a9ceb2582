use Rattle.std.proofs.Common.{◌≡◌, true, false, arith}
use Rattle.ledgerd.proofs.Asking.{no_count}
use Rattle.ledgerd.proofs.words.count_of.Goals as goal

pub returns-else-is_count : goal.returns-else-is_count
returns-else-is_count c =
    no_count c.args.digits.now c.args.number c.requires (omega (arith, c.ranges.number.fits)) (λ h. let t : false ≡ true = c.if-is_count.ensures.1 h in cc)
