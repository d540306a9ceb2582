use Rattle.lg_json.proofs.Tokens.{run_moved, step_moved}
use Rattle.lg_json.proofs.text.read_on.Goals as goal

pub returns-then-place-end : goal.returns-then-place-end
returns-then-place-end c =
    run_moved c.args.bytes.now c.args.place c.run_end-end.result c.args.text.now.items _ c.args.mode
    (record { above = c.run_end-end.ensures.above; within = c.run_end-end.ensures.within; plain = c.run_end-end.ensures.plain })
    c.if-place-end.true (c.begins_character.ensures.0 c.if-begins_character.true) c.in_ok-extend_from_slice.ensures.items c.requires.stands

pub returns-in-Some : goal.returns-in-Some
returns-in-Some c =
    step_moved c.args.bytes.now c.args.place c.args.text.now.items _ c.args.mode c.in-Some.next c.requires.within c.requires.goes_on (rw c.in-Some.is at c.in_ok-next.ensures) c.requires.stands
