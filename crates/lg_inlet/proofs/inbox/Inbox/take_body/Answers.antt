use Rattle.std.proofs.Common.{◌<◌, length, ap, arith, length-append}
use Rattle.lg_inlet.specs.Bodies.{IsShort}
use Rattle.lg_inlet.specs.Unread.{unread}
use Rattle.lg_inlet.proofs.TakingLemmas.{starts_wanted, wanted_more, stops_wanting}
use Rattle.lg_inlet.proofs.inbox.Inbox.take_body.Goals as goal

pub taking-init : goal.taking-init
taking-init g c = record { taken = starts_wanted g.S.Source (IsShort c.args.needed) c.args.source.now c.args.self.now; later = omega arith }

pub taking-preserved : goal.taking-preserved
taking-preserved g c =
    let short : length (unread c.taking.self) < c.args.needed = omega (arith, c.taking-test.true, ap length c.unread.ensures) in
    record {
      taken = wanted_more g.S.Source (IsShort c.args.needed) c.args.source.now c.taking.source c.read_more.new.source c.args.self.now c.taking.self c.read_more.new.self c.in-Ok.count c.taking.invariant.taken short c.in-Ok.ensures.took;
      later = omega (arith, c.taking.invariant.later, c.in-Ok.ensures.later);
    }

pub taking-smaller : goal.taking-smaller
taking-smaller g c = omega (arith, c.in-Ok.ensures.took.takes.allowed, c.in-Ok.ensures.took.count_is)

pub returns-then-count-eq0-clause-took : goal.returns-then-count-eq0-clause-took
returns-then-count-eq0-clause-took g c =
    let short : length (unread c.taking.self) < c.args.needed = omega (arith, c.taking-test.true, ap length c.unread.ensures) in
    wanted_more g.S.Source (IsShort c.args.needed) c.args.source.now c.taking.source c.read_more.new.source c.args.self.now c.taking.self c.read_more.new.self c.in-Ok.count c.taking.invariant.taken short c.in-Ok.ensures.took

pub returns-then-count-eq0-clause-body : goal.returns-then-count-eq0-clause-body
returns-then-count-eq0-clause-body g c =
    let took = c.in-Ok.ensures.took in (
      omega (arith, c.taking-test.true, ap length c.unread.ensures, ap length took.takes.unread_are, length-append (unread c.taking.self) took.came, took.count_is, c.if-count-eq0.true),
      took.ended c.if-count-eq0.true,
    )

pub returns-in-Err-clause-stopped : goal.returns-in-Err-clause-stopped
returns-in-Err-clause-stopped g c =
    let short : length (unread c.taking.self) < c.args.needed = omega (arith, c.taking-test.true, ap length c.unread.ensures) in
    stops_wanting g.S.Source (IsShort c.args.needed) c.args.source.now c.taking.source c.read_more.new.source c.args.self.now c.taking.self c.read_more.new.self c.in-Err.stopped c.taking.invariant.taken short c.taking.invariant.later c.in-Err.ensures.stopped
