use Rattle.std.proofs.Common.{pos}
use Rattle.lg_meta.proofs.Histories.{prepared_so}
use Rattle.lg_meta.proofs.history.MetaHistory.prepare.Goals as goal

pub invariant_of-self : goal.invariant_of-self
invariant_of-self c =
    prepared_so c.add_change.result _ _ _ _ _ _ (record { date = pos 0; change = c.in_ok-copied.copied }) c.self.invariant c.self.inside.changes.ok.0
    c.add_change.ensures.ok c.add_change.ensures.marked c.add_change.ensures.err c.add_change.ensures.unmarked
