use Rattle.lg_routes.proofs.Numerals.{compared, unparsed}
use Rattle.lg_routes.proofs.numbers.number_of_text.Goals as goal

pub returns-in-Ok : goal.returns-in-Ok
returns-in-Ok c = compared c.args.text.now c.in-Ok.number c.parse.result c.number_if.result c.parse.ensures.value.0 c.in-Ok.is (rw c.as_bytes.ensures.value at c.number_if.ensures)

pub returns-in-Err : goal.returns-in-Err
returns-in-Err c = unparsed c.args.text.now c.parse.result c.in-Err.field-0 c.parse.ensures.value.0 c.in-Err.is
