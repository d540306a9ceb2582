use Rattle.std.proofs.Common.{◌-◌, ◌<◌, sym, ◌∙◌, arith}
use Rattle.std.proofs.lemmas.Bool.{false≢true}
use Rattle.lg_inlet.proofs.PassingLemmas.{passed_none}
use Rattle.lg_inlet.proofs.PassingEnds.{turn_of, turned, turned_none, ends_full, ends_whole, read_on, ends_cut, ends_reading}
use Rattle.lg_inlet.proofs.inbox.Inbox.pass_body.Goals as goal

pub passing-init : goal.passing-init
passing-init g c = record { passed = passed_none g.S.Source g.F.Feed c.args.source.now c.args.to.now c.args.self.now c.args.size; later = omega arith }

pub returns-then-is_err-clause-passes : goal.returns-then-is_err-clause-passes
returns-then-is_err-clause-passes g c =
    let turn = turn_of g.F.Feed c.passing.to c.piece-fed.new.self c.passing.self c.consume.new.self c.passing.wanted c.min-part.result c.unread.result.now c.unread-in-passing.result.now c.piece-fed.result
    c.unread.ensures c.unread-in-passing.ensures (omega arith) c.piece-fed.ensures c.consume.ensures.unread c.consume.ensures.allowance in
    ends_full g.S.Source g.F.Feed c.args.source.now c.passing.source c.args.to.now c.passing.to c.piece-fed.new.self c.args.self.now c.passing.self c.consume.new.self c.args.size c.passing.wanted c.min-part.result c.piece-fed.result
    c.passing.invariant.passed turn (sym c.is_err.ensures.value ∙ c.if-is_err.true)

pub returns-then-wanted-eq0-clause-passes : goal.returns-then-wanted-eq0-clause-passes
returns-then-wanted-eq0-clause-passes g c =
    let turn = turn_of g.F.Feed c.passing.to c.piece-fed.new.self c.passing.self c.consume.new.self c.passing.wanted c.min-part.result c.unread.result.now c.unread-in-passing.result.now c.piece-fed.result
    c.unread.ensures c.unread-in-passing.ensures (omega arith) c.piece-fed.ensures c.consume.ensures.unread c.consume.ensures.allowance in
    let passed = turned g.S.Source g.F.Feed c.args.source.now c.passing.source c.args.to.now c.passing.to c.piece-fed.new.self c.args.self.now c.passing.self c.consume.new.self c.args.size c.passing.wanted c.min-part.result c.piece-fed.result
    c.passing.invariant.passed turn (λ failed. false≢true (sym c.if-is_err.false ∙ c.is_err.ensures.value ∙ failed)) in
    ends_whole g.S.Source g.F.Feed c.args.source.now c.passing.source c.args.to.now c.piece-fed.new.self c.args.self.now c.consume.new.self c.args.size (c.passing.wanted - c.min-part.result) passed c.if-wanted-eq0.true

pub returns-then-count-eq0-clause-passes : goal.returns-then-count-eq0-clause-passes
returns-then-count-eq0-clause-passes g c =
    let turn = turn_of g.F.Feed c.passing.to c.piece-fed.new.self c.passing.self c.consume.new.self c.passing.wanted c.min-part.result c.unread.result.now c.unread-in-passing.result.now c.piece-fed.result
    c.unread.ensures c.unread-in-passing.ensures (omega arith) c.piece-fed.ensures c.consume.ensures.unread c.consume.ensures.allowance in
    let passed = turned g.S.Source g.F.Feed c.args.source.now c.passing.source c.args.to.now c.passing.to c.piece-fed.new.self c.args.self.now c.passing.self c.consume.new.self c.args.size c.passing.wanted c.min-part.result c.piece-fed.result
    c.passing.invariant.passed turn (λ failed. false≢true (sym c.if-is_err.false ∙ c.is_err.ensures.value ∙ failed)) in
    let more : 0 < c.passing.wanted - c.min-part.result = omega arith in
    let none = turned_none g.S.Source g.F.Feed c.passing.self c.consume.new.self c.passing.wanted c.min-part.result c.piece-fed.result turn more in
    ends_cut g.S.Source g.F.Feed c.args.source.now c.passing.source c.read_more.new.source c.args.to.now c.piece-fed.new.self c.args.self.now c.consume.new.self c.read_more.new.self c.args.size (c.passing.wanted - c.min-part.result) c.in-Ok.count
    passed more none c.in-Ok.ensures.took c.if-count-eq0.true

pub passing-preserved : goal.passing-preserved
passing-preserved g c =
    let turn = turn_of g.F.Feed c.passing.to c.piece-fed.new.self c.passing.self c.consume.new.self c.passing.wanted c.min-part.result c.unread.result.now c.unread-in-passing.result.now c.piece-fed.result
    c.unread.ensures c.unread-in-passing.ensures (omega arith) c.piece-fed.ensures c.consume.ensures.unread c.consume.ensures.allowance in
    let passed = turned g.S.Source g.F.Feed c.args.source.now c.passing.source c.args.to.now c.passing.to c.piece-fed.new.self c.args.self.now c.passing.self c.consume.new.self c.args.size c.passing.wanted c.min-part.result c.piece-fed.result
    c.passing.invariant.passed turn (λ failed. false≢true (sym c.if-is_err.false ∙ c.is_err.ensures.value ∙ failed)) in
    let more : 0 < c.passing.wanted - c.min-part.result = omega arith in
    let none = turned_none g.S.Source g.F.Feed c.passing.self c.consume.new.self c.passing.wanted c.min-part.result c.piece-fed.result turn more in
    record {
      passed = read_on g.S.Source g.F.Feed c.args.source.now c.passing.source c.read_more.new.source c.args.to.now c.piece-fed.new.self c.args.self.now c.consume.new.self c.read_more.new.self c.args.size (c.passing.wanted - c.min-part.result) c.in-Ok.count
          passed more none c.in-Ok.ensures.took;
      later = omega (arith, c.passing.invariant.later, c.in-Ok.ensures.later);
    }

pub returns-in-Err-clause-passes : goal.returns-in-Err-clause-passes
returns-in-Err-clause-passes g c =
    let turn = turn_of g.F.Feed c.passing.to c.piece-fed.new.self c.passing.self c.consume.new.self c.passing.wanted c.min-part.result c.unread.result.now c.unread-in-passing.result.now c.piece-fed.result
    c.unread.ensures c.unread-in-passing.ensures (omega arith) c.piece-fed.ensures c.consume.ensures.unread c.consume.ensures.allowance in
    let passed = turned g.S.Source g.F.Feed c.args.source.now c.passing.source c.args.to.now c.passing.to c.piece-fed.new.self c.args.self.now c.passing.self c.consume.new.self c.args.size c.passing.wanted c.min-part.result c.piece-fed.result
    c.passing.invariant.passed turn (λ failed. false≢true (sym c.if-is_err.false ∙ c.is_err.ensures.value ∙ failed)) in
    let more : 0 < c.passing.wanted - c.min-part.result = omega arith in
    let none = turned_none g.S.Source g.F.Feed c.passing.self c.consume.new.self c.passing.wanted c.min-part.result c.piece-fed.result turn more in
    ends_reading g.S.Source g.F.Feed c.args.source.now c.passing.source c.read_more.new.source c.args.to.now c.piece-fed.new.self c.args.self.now c.consume.new.self c.read_more.new.self c.args.size (c.passing.wanted - c.min-part.result) c.in-Err.stopped
    passed more none c.passing.invariant.later c.in-Err.ensures.stopped
