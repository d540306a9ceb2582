use Rattle.std.proofs.Common.{ℕ, List, sym, subst, arith}
use Rattle.std.specs.Prelude.{IfOk, IfErr}
use Rattle.lg_heads.specs.Scanning.{HasCounted, HasNoHead}
use Rattle.lg_heads.specs.Verdicts.{IsOpen, WantsMore}
use Rattle.lg_inlet.specs.Finding.{IsFound}
use Rattle.lg_inlet.specs.Unread.{unread}
use Rattle.lg_inlet.proofs.TakingLemmas.{starts_wanted, wanted_more, ok_nothing, err_nothing}
use Rattle.lg_inlet.proofs.FindingLemmas.{scanned_all, wants_scanned, counted_append, no_head_append}
use Rattle.lg_inlet.proofs.inbox.Inbox.find_head.Goals as goal

pub finding-init : goal.finding-init
finding-init g c = record {
  counted = c.new-scan.ensures.counted (unread c.args.self.now);
  none = c.new-scan.ensures.none (unread c.args.self.now);
  taken = starts_wanted g.S.Source WantsMore c.args.source.now c.args.self.now;
  later = omega arith;
}

pub returns-in-Err-clause-took : goal.returns-in-Err-clause-took
returns-in-Err-clause-took g c =
    ok_nothing g.S.Source WantsMore c.args.source.now c.finding.source c.read_more.new.source c.args.self.now c.finding.self c.read_more.new.self c.in-Err.stopped c.found_or_stopped.result
    c.finding.invariant.taken c.in-Err.ensures.stopped c.found_or_stopped.ensures.memory

pub returns-in-Err-clause-stopped : goal.returns-in-Err-clause-stopped
returns-in-Err-clause-stopped g c =
    err_nothing g.S.Source WantsMore IsOpen c.args.source.now c.finding.source c.read_more.new.source c.args.self.now c.finding.self c.read_more.new.self c.in-Err.stopped c.found_or_stopped.result
    c.finding.invariant.taken c.finding.invariant.later c.in-Err.ensures.stopped c.found_or_stopped.ensures.same
    (λ other. subst (λ (l : List ℕ). IfErr c.found_or_stopped.result (λ _. IsOpen l)) c.unread-in-Err.ensures (c.found_or_stopped.ensures.open other))

pub returns-then-count-eq0-clause-took : goal.returns-then-count-eq0-clause-took
returns-then-count-eq0-clause-took g c =
    let scanned = scanned_all c.advance-seen.new.self (unread c.finding.self) c.unread-bytes.result.now c.advance-seen.result c.unread-bytes.ensures c.advance-seen.ensures.counted c.advance-seen.ensures.stopped c.in-All.is in
    wanted_more g.S.Source WantsMore c.args.source.now c.finding.source c.read_more.new.source c.args.self.now c.finding.self c.read_more.new.self c.in-Ok.count c.finding.invariant.taken
    (wants_scanned c.advance-seen.new.self (unread c.finding.self) scanned) c.in-Ok.ensures.took

pub returns-then-count-eq0-clause-found : goal.returns-then-count-eq0-clause-found
returns-then-count-eq0-clause-found g c =
    let left = g.S.Source.left c.read_more.new.source in
    subst (λ (bytes : List ℕ). IsFound left bytes c.found_at_end.result) c.unread.ensures (c.found_at_end.ensures left (c.in-Ok.ensures.took.ended c.if-count-eq0.true))

pub finding-preserved : goal.finding-preserved
finding-preserved g c =
    let scanned = scanned_all c.advance-seen.new.self (unread c.finding.self) c.unread-bytes.result.now c.advance-seen.result c.unread-bytes.ensures c.advance-seen.ensures.counted c.advance-seen.ensures.stopped c.in-All.is in
    let took = c.in-Ok.ensures.took in
    record {
      counted = subst (HasCounted c.advance-seen.new.self) (sym took.takes.unread_are) (counted_append (unread c.finding.self) took.came c.advance-seen.new.self scanned.counted);
      none = subst (HasNoHead c.advance-seen.new.self) (sym took.takes.unread_are) (no_head_append (unread c.finding.self) took.came c.advance-seen.new.self scanned.counted scanned.none);
      taken = wanted_more g.S.Source WantsMore c.args.source.now c.finding.source c.read_more.new.source c.args.self.now c.finding.self c.read_more.new.self c.in-Ok.count c.finding.invariant.taken
          (wants_scanned c.advance-seen.new.self (unread c.finding.self) scanned) took;
      later = omega (arith, c.finding.invariant.later, c.in-Ok.ensures.later);
    }

pub returns-in-Err-clause-found : goal.returns-in-Err-clause-found
returns-in-Err-clause-found g c =
    let left = g.S.Source.left c.read_more.new.source in
    subst (λ (bytes : List ℕ). IfOk c.found_or_stopped.result (IsFound left bytes)) c.unread-in-Err.ensures (c.found_or_stopped.ensures.found left)
