use Rattle.std.proofs.Common.{◌-◌, length, take, ap, ◌∙◌, arith}
use Rattle.lg_meta.specs.History.{History}
use Rattle.lg_meta.proofs.Histories.{forgotten, last_given_up}
use Rattle.lg_meta.proofs.history.MetaHistory.forget_last.Goals as goal

pub invariant_of-self : goal.invariant_of-self
invariant_of-self c =
    forgotten _ _ _ _ _ _ c.self.invariant (omega (arith, c.self.inside.changes.ok.0)) (omega (arith, c.self.inside.changes.ok.0)) c.truncate.ensures.items c.cut.ensures

pub returns-then-self-len : goal.returns-then-self-len
returns-then-self-len c =
    let last = c.len-last.result - 1 in
    last_given_up c.self.inside.changes.items _ c.self.inside.applied last (omega (arith, c.self.inside.changes.ok.0)) (omega (arith, c.self.inside.changes.ok.0)) c.truncate.ensures.items
    ∙ ap (λ (h : History). let after : History = record { changes = h.changes; prepared = take (length h.prepared - 1) h.prepared } in after) c.self.view_is
