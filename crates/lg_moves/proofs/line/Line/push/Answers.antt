use Rattle.std.proofs.Common.{inl, inr, sym, length, ◌≡◌, ◌%◌, ◌∷◌, [], ◌++◌, ap, arith, ◌<◌, ◌∙◌}
use Rattle.std.proofs.lemmas.Bool.{false≢true}
use Rattle.lg_moves.proofs.SumLemmas.{true_or_false}
use Rattle.lg_moves.specs.Entries.{entry_of}
use Rattle.lg_moves.specs.Line.{mark_after}
use Rattle.lg_moves.proofs.LineLemmas.{bounded_from, timely_fits, follows_from_next, line_push, line_push_due, last_in_rank}
use Rattle.lg_moves.proofs.line.Line.push.Goals as goal

pub after-self-inside-requires-clause-count : goal.after-self-inside-requires-clause-count
after-self-inside-requires-clause-count g c =
    let spare : 0 < c.self.inside.entries.spare = rw (← c.self.view_is) at c.requires.spare in
    let b = bounded_from c.self.inside.entries.items c.self.inside.entries.spare c.args.item.now (rw (← c.self.view_is) at c.requires.input) (rw (← c.self.view_is) at c.requires.output) c.len.ensures.bound spare in
    omega (arith, c.self.invariant.marked.whole.all.count, b.count)

pub after-self-inside-requires-clause-timely_input : goal.after-self-inside-requires-clause-timely_input
after-self-inside-requires-clause-timely_input g c =
    let spare : 0 < c.self.inside.entries.spare = rw (← c.self.view_is) at c.requires.spare in
    let b = bounded_from c.self.inside.entries.items c.self.inside.entries.spare c.args.item.now (rw (← c.self.view_is) at c.requires.input) (rw (← c.self.view_is) at c.requires.output) c.len.ensures.bound spare in
    (timely_fits c.self.inside.entries.items c.args.item.now c.self.inside.end.timely c.self.invariant.marked.whole.timely b).input

pub after-self-inside-requires-clause-timely_output : goal.after-self-inside-requires-clause-timely_output
after-self-inside-requires-clause-timely_output g c =
    let spare : 0 < c.self.inside.entries.spare = rw (← c.self.view_is) at c.requires.spare in
    let b = bounded_from c.self.inside.entries.items c.self.inside.entries.spare c.args.item.now (rw (← c.self.view_is) at c.requires.input) (rw (← c.self.view_is) at c.requires.output) c.len.ensures.bound spare in
    (timely_fits c.self.inside.entries.items c.args.item.now c.self.inside.end.timely c.self.invariant.marked.whole.timely b).output

pub after-self-inside-requires-clause-timely_count : goal.after-self-inside-requires-clause-timely_count
after-self-inside-requires-clause-timely_count g c =
    let spare : 0 < c.self.inside.entries.spare = rw (← c.self.view_is) at c.requires.spare in
    let b = bounded_from c.self.inside.entries.items c.self.inside.entries.spare c.args.item.now (rw (← c.self.view_is) at c.requires.input) (rw (← c.self.view_is) at c.requires.output) c.len.ensures.bound spare in
    (timely_fits c.self.inside.entries.items c.args.item.now c.self.inside.end.timely c.self.invariant.marked.whole.timely b).count

pub invariant_of-self : goal.invariant_of-self
invariant_of-self g c =
    let spare : 0 < c.self.inside.entries.spare = rw (← c.self.view_is) at c.requires.spare in
    let b = bounded_from c.self.inside.entries.items c.self.inside.entries.spare c.args.item.now (rw (← c.self.view_is) at c.requires.input) (rw (← c.self.view_is) at c.requires.output) c.len.ensures.bound spare in
    let next = rw (← c.self.view_is) at c.requires.next in
    let f = follows_from_next c.self.inside.entries.items c.self.inside.marks.items c.self.inside.end c.args.item.now c.is_timely-timely.result next c.self.invariant.marked
    (λ e. c.is_timely-timely.ensures.first (c.len.ensures.value ∙ e)) (λ some. c.is_timely-timely.ensures.ranked (omega arith)) in
    let is : c.push.new.self.items ≡ c.self.inside.entries.items ++ entry_of c.args.item.now c.is_timely-timely.result ∷ [] = rw c.new.ensures at c.push.ensures.items in
    let more : c.push-then-len-eq0.new.self.items ≡ c.self.inside.marks.items ++ mark_after c.self.inside.end c.args.item.now c.is_timely-timely.result ∷ [] = rw c.after-self-inside.ensures at c.push-then-len-eq0.ensures.items in
    rw c.after-self-inside.ensures (line_push_due c.self.inside.entries.items c.self.inside.entries.spare c.self.inside.marks c.push-then-len-eq0.new.self c.self.inside.end c.args.item.now c.is_timely-timely.result c.push.new.self
    c.self.invariant f b is c.push.ensures.spare (omega (arith, c.if-len-eq0.true)) more c.push-then-len-eq0.ensures.spare)

pub invariant_of-self-else-len-eq0 : goal.invariant_of-self-else-len-eq0
invariant_of-self-else-len-eq0 g c =
    let spare : 0 < c.self.inside.entries.spare = rw (← c.self.view_is) at c.requires.spare in
    let b = bounded_from c.self.inside.entries.items c.self.inside.entries.spare c.args.item.now (rw (← c.self.view_is) at c.requires.input) (rw (← c.self.view_is) at c.requires.output) c.len.ensures.bound spare in
    let next = rw (← c.self.view_is) at c.requires.next in
    let f = follows_from_next c.self.inside.entries.items c.self.inside.marks.items c.self.inside.end c.args.item.now c.is_timely-timely.result next c.self.invariant.marked
    (λ e. c.is_timely-timely.ensures.first (c.len.ensures.value ∙ e)) (λ some. c.is_timely-timely.ensures.ranked (omega arith)) in
    let is : c.push.new.self.items ≡ c.self.inside.entries.items ++ entry_of c.args.item.now c.is_timely-timely.result ∷ [] = rw c.new.ensures at c.push.ensures.items in
    rw c.after-self-inside.ensures (line_push c.self.inside.entries.items c.self.inside.entries.spare c.self.inside.marks c.self.inside.end c.args.item.now c.is_timely-timely.result c.push.new.self
    c.self.invariant f b is c.push.ensures.spare (λ e. c.if-len-eq0.false (ap (λ n. n % 16) c.len-2.ensures.value ∙ e)))

pub returns-then-len-eq0-clause-timely : goal.returns-then-len-eq0-clause-timely
returns-then-len-eq0-clause-timely g c last =
    elim (true_or_false c.is_timely-timely.result) [
      | inl t ↦ t
      | inr f ↦
          (let late = c.is_timely-timely.ensures.late f in
          let some : 0 < length c.self.inside.entries.items = omega (arith, late.0, c.len.ensures.value) in
          absurd (false≢true (sym (last_in_rank c.self.inside.entries.items c.self.inside.marks.items c.self.inside.end c.args.item.now c.self.invariant.marked some (rw (← c.self.view_is) at last)) ∙ late.1)))
    ]

pub returns-else-len-eq0-clause-timely : goal.returns-else-len-eq0-clause-timely
returns-else-len-eq0-clause-timely g c last =
    elim (true_or_false c.is_timely-timely.result) [
      | inl t ↦ t
      | inr f ↦
          (let late = c.is_timely-timely.ensures.late f in
          let some : 0 < length c.self.inside.entries.items = omega (arith, late.0, c.len.ensures.value) in
          absurd (false≢true (sym (last_in_rank c.self.inside.entries.items c.self.inside.marks.items c.self.inside.end c.args.item.now c.self.invariant.marked some (rw (← c.self.view_is) at last)) ∙ late.1)))
    ]
