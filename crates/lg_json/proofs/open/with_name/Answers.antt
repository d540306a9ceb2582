use Rattle.std.proofs.Common.{refl}
use Rattle.lg_json.proofs.OpenFrames.{named_in}
use Rattle.lg_json.proofs.open.with_name.Goals as goal

pub returns-in-Some : goal.returns-in-Some
returns-in-Some c =
    named_in c.args.frames.now.items c.args.frames.now.len c.args.place c.args.quote c.in-Some.frame.now c.name_member.new.frame c.args.name c.name_member.result c.args.frames.now.ok.0
    (c.in-Some.ensures.variant.0 refl) c.in-Some.ensures.value c.name_member.ensures
