use Rattle.std.proofs.Common.{refl}
use Rattle.lg_codec.specs.PathParts.{path_of}
use Rattle.lg_codec.proofs.Readings.{onward, halted, not_zero, named}
use Rattle.lg_codec.proofs.values.some_name.Goals as goal

pub returns-in_err-read_name : goal.returns-in_err-read_name
returns-in_err-read_name g c =
    named g.G.Grammar.Names (path_of c.args.path.now) c.args.bytes.now (not_zero _ _ c.is_empty.ensures c.if-is_empty.false)
    (halted _ c.from_residual.ensures.1 c.in_err-read_name.ensures)

pub returns : goal.returns
returns g c =
    named g.G.Grammar.Names (path_of c.args.path.now) c.args.bytes.now (not_zero _ _ c.is_empty.ensures c.if-is_empty.false)
    (onward c.in_ok-read_name.ensures (record { answers = refl }))
