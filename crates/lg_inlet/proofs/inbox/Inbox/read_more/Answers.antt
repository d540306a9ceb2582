use Rattle.std.proofs.Common.{refl, arith}
use Rattle.lg_inlet.proofs.TakingLemmas.{takes_none, took_of, stops_of}
use Rattle.lg_inlet.proofs.inbox.Inbox.read_more.Goals as goal

pub returns-then-self-eq0-clause-stopped : goal.returns-then-self-eq0-clause-stopped
returns-then-self-eq0-clause-stopped g c = (takes_none g.S.Source c.args.source.now c.args.self.now, c.if-self-eq0.true)

pub returns-in-Ok-clause-took : goal.returns-in-Ok-clause-took
returns-in-Ok-clause-took g c =
    took_of g.S.Source c.args.source.now _ c.args.self.now _ c.in-Ok.count c.in-Ok.ensures.took (omega (arith, c.in-Ok.ensures.bound)) refl c.args.self.now.within (omega (arith, c.in-Ok.ensures.bound))

pub returns-in-Err-clause-stopped : goal.returns-in-Err-clause-stopped
returns-in-Err-clause-stopped g c = stops_of g.S.Source c.args.source.now _ c.args.self.now _ c.in-Err.stopped c.in-Err.ensures.stopped c.in-Err.ensures.kept refl refl
