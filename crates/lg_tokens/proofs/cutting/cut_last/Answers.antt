use Rattle.std.proofs.Common.{◌-◌, ◌∙◌, arith}
use Rattle.lg_tokens.proofs.Cuts.{last_cut}
use Rattle.lg_tokens.proofs.cutting.cut_last.Goals as goal

pub returns-then-bytes-end : goal.returns-then-bytes-end
returns-then-bytes-end c front more lacks e =
    let before = c.loop-end.invariant.before front more lacks e in
    let within = c.loop-end.invariant.within in
    let cut = last_cut c.args.mark front more c.args.bytes.now (c.loop-end.end - 1) lacks e (omega arith) (omega arith) c.if-bytes-end.true in
    (c.split_at.ensures.front ∙ cut.0, c.split_at.ensures.back ∙ cut.1)
