use Rattle.lg_heads.specs.Verdicts.{IsOpen, WantsMore}
use Rattle.lg_http.specs.Messages.{LacksBody}
use Rattle.lg_http.proofs.Wanting.{ok_then, err_then}
use Rattle.lg_http.proofs.messages.next_message.Goals as goal

pub returns-in-Ok-Whole-clause-took : goal.returns-in-Ok-Whole-clause-took
returns-in-Ok-Whole-clause-took g c =
    ok_then g.S.Source WantsMore (LacksBody g.L.BodyLimits.limit) c.args.source.now c.find_head.new.source c.finish_message.new.source c.args.inbox.now c.find_head.new.self c.finish_message.new.inbox c.finish_message.result
    c.in-Ok-Whole.ensures.took c.finish_message.ensures.took

pub returns-in-Ok-Whole-clause-stopped : goal.returns-in-Ok-Whole-clause-stopped
returns-in-Ok-Whole-clause-stopped g c =
    err_then g.S.Source WantsMore IsOpen (LacksBody g.L.BodyLimits.limit) c.args.source.now c.find_head.new.source c.finish_message.new.source c.args.inbox.now c.find_head.new.self c.finish_message.new.inbox c.finish_message.result
    c.in-Ok-Whole.ensures.took c.in-Ok-Whole.ensures.later c.finish_message.ensures.stopped
