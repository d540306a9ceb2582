use Rattle.lg_routes.proofs.Numerals.{decimal_is_text}
use Rattle.lg_routes.proofs.numbers.read_number.Goals as goal

pub returns-in-Err : goal.returns-in-Err
returns-in-Err c = λ n small e. let text = decimal_is_text c.args.bytes.now n small e in absurd (c.in-Err.ensures.cases.0 text)
