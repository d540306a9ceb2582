use Rattle.std.proofs.Common.{[], arith}
use Rattle.lg_http.proofs.texts.body_length.Goals as goal

pub returns-in_default : goal.returns-in_default
returns-in_default g c =
    let counted = c.in-Ok.ensures.ok [] c.new-count.ensures in
    omega (arith, c.number.ensures _ counted, c.in_default)
