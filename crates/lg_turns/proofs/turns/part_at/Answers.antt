use Rattle.std.specs.Prelude.{slice_get}
use Rattle.std.specs.Sync.Mutex.{mutex_guard_value}
use Rattle.std.proofs.Common.{◌≤◌, Some, None, length, sym, ap, ◌∙◌, arith}
use Rattle.lg_turns.proofs.Places.{mapped-get, mapped-past}
use Rattle.lg_turns.proofs.turns.part_at.Goals as goal

pub returns-then-from-len : goal.returns-then-from-len
returns-then-from-len g c =
    let past : length c.args.row.now ≤ c.args.stripe = omega arith in
    sym (mapped-past c.args.row.now (λ a. (mutex_guard_value a).part) c.args.stripe past)

pub returns-in-Some : goal.returns-in-Some
returns-in-Some g c =
    let there = ap (slice_get c.args.row.now) (sym c.from-2.ensures) ∙ (c.get.ensures.value ∙ ap Some c.in-Some.is) in
    ap (λ s. Some s.part) c.deref.ensures ∙ sym (mapped-get c.args.row.now (λ a. (mutex_guard_value a).part) c.args.stripe (Some c.in-Some.guard) there)

pub returns-in-None : goal.returns-in-None
returns-in-None g c =
    let there = ap (slice_get c.args.row.now) (sym c.from-2.ensures) ∙ (c.get.ensures.value ∙ ap Some c.in-None.is) in
    sym (mapped-get c.args.row.now (λ a. (mutex_guard_value a).part) c.args.stripe None there)
