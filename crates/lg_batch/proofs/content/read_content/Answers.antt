use Rattle.lg_json.specs.Tree.{tree}
use Rattle.lg_batch.proofs.Readings.{line_read, line_unread}
use Rattle.lg_batch.proofs.content.read_content.Goals as goal

pub returns-in-Ok : goal.returns-in-Ok
returns-in-Ok g c = line_read c.args.lowest c.args.bytes.now (tree c.in-Ok.value) c.in-Ok.ensures.found c.content_by.ensures

pub returns-in-Err : goal.returns-in-Err
returns-in-Err g c = line_unread c.args.lowest c.args.bytes.now c.in-Err.fault c.bad_line.result c.in-Err.ensures.fault c.bad_line.ensures
