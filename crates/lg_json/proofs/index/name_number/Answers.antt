use Rattle.std.proofs.Common.{◌<◌, ◌∙◌, length, sym, arith}
use Rattle.lg_json.proofs.Placing.{number_more, number_done}
use Rattle.lg_json.proofs.index.name_number.Goals as goal

pub loop-byte-preserved : goal.loop-byte-preserved
loop-byte-preserved c =
    let h : c.loop-byte.byte-index < length c.args.name.now = omega arith in
    sym (number_more c.args.name.now c.loop-byte.number c.loop-byte.byte-index h) ∙ c.loop-byte.invariant

pub returns : goal.returns
returns c = sym (number_done c.args.name.now c.loop-byte.number c.loop-byte.byte-index (omega arith)) ∙ c.loop-byte.invariant
