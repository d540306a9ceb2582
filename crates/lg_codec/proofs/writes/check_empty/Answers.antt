use Rattle.std.proofs.Common.{sym}
use Rattle.lg_codec.specs.PathParts.{path_of}
use Rattle.lg_codec.proofs.Readings.{refused, not_zero, some_member}
use Rattle.lg_codec.proofs.writes.check_empty.Goals as goal

pub returns-else-is_empty : goal.returns-else-is_empty
returns-else-is_empty c =
    refused _ c.wrong.ensures (sym (some_member (path_of c.args.path.now) c.args.members.now (not_zero _ _ c.is_empty.ensures c.if-is_empty.false)))
