use Rattle.std.proofs.Common.{sym}
use Rattle.lg_turns.proofs.Places.{held-more}
use Rattle.lg_turns.proofs.Stages.{staged-same}
use Rattle.lg_turns.proofs.prepare.prepare_all.Goals as goal

pub forget_row-requires-clause-row : goal.forget_row-requires-clause-row
forget_row-requires-clause-row g c = rw c.prepare_desk.ensures.desk.1 (held-more _ _ _ c.in-Ok.ensures.row (λ k a lt h. staged-same c.prepare_desk.ensures.same.2 (c.prepare_desk.ensures.others _) h))

pub returns-in-Ok-prepare_desk-clause-row : goal.returns-in-Ok-prepare_desk-clause-row
returns-in-Ok-prepare_desk-clause-row g c = held-more _ _ _ c.in-Ok.ensures.row (λ k a lt h. staged-same c.prepare_desk.ensures.same.2 (c.prepare_desk.ensures.others _) h)

pub returns-in-Err-prepare_desk-clause-row : goal.returns-in-Err-prepare_desk-clause-row
returns-in-Err-prepare_desk-clause-row g c = rw (sym c.prepare_desk.ensures.desk.1) c.forget_row.ensures.row
