use Rattle.std.proofs.Common.{refl, eq-eqb}
use Rattle.lg_json.proofs.Tokens.{text_plain, text_utf8, text_ends}
use Rattle.lg_json.proofs.text.read_text.Goals as goal

pub copy_of-requires : goal.copy_of-requires
copy_of-requires c =
    text_utf8 c.args.bytes.now c.args.place c.run_end-end.result 34 _ _ (text_plain c.args.bytes.now c.args.place c.run_end-end.result (record { above = c.run_end-end.ensures.above; within = c.run_end-end.ensures.within; plain = c.run_end-end.ensures.plain })) refl

pub returns-then-bytes-end-eq34 : goal.returns-then-bytes-end-eq34
returns-then-bytes-end-eq34 c =
    rw c.in_ok-copy_of.ensures
    (text_ends c.args.bytes.now c.args.place c.run_end-end.result _ _ (text_plain c.args.bytes.now c.args.place c.run_end-end.result (record { above = c.run_end-end.ensures.above; within = c.run_end-end.ensures.within; plain = c.run_end-end.ensures.plain })) c.if-end-bytes.true (eq-eqb _ 34 c.if-bytes-end-eq34.true))
