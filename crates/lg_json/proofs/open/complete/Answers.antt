use Rattle.std.proofs.Common.{Ok, refl, ap}
use Rattle.lg_json.specs.Tree.{tree}
use Rattle.lg_json.proofs.OpenFrames.{put_in}
use Rattle.lg_json.proofs.open.complete.Goals as goal

pub returns-in_ok-put_value-in-Some : goal.returns-in_ok-put_value-in-Some
returns-in_ok-put_value-in-Some c =
    ap Ok
    (put_in c.args.frames.now.items c.args.frames.now.len c.in-Some.frame.now c.put_value.new.frame (tree c.args.value) c.args.frames.now.ok.0
    (c.in-Some.ensures.variant.0 refl) c.in-Some.ensures.value c.in_ok-put_value-in-Some.ensures)
