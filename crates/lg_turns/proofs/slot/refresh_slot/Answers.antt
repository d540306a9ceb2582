use Rattle.std.proofs.Common.{◌≤◌, List, length, sym, ap, ◌∙◌, arith}
use Rattle.lg_types.specs.declared.marks.Marked.{Marked}
use Rattle.lg_types.specs.Marked.{events_of}
use Rattle.lg_types.specs.Parts.{part_of}
use Rattle.lg_turns.proofs.Touched.{refreshed}
use Rattle.lg_turns.proofs.slot.refresh_slot.Goals as goal

pub invariant_of-slot : goal.invariant_of-slot
invariant_of-slot g c =
    let s = c.args.slot.now in
    let e = c.catch_up.ensures in
    let k = g.P.Part.stripe_of s.part in
    let le : c.args.stamp ≤ length s.seat.me.0.seen = omega (arith, s.known_is, c.requires.current) in record {
      named = e.table.0;
      empty = e.slots.0 ∙ s.empty;
      idle = (e.seat.pen, e.seat.weight ∙ s.idle.1, e.seat.made ∙ s.idle.2);
      known_is = ap (length {A = Marked}) e.seat.seen ∙ sym e.count;
      is_part = s.is_part ∙ sym (refreshed k c.args.stamp s.seat.me.0.seen c.args.pen.now.me.0.seen e.seat.had le c.requires.quiet) ∙ sym (ap (λ (ms : List Marked). part_of k (events_of ms)) e.seat.seen);
      clean = s.clean;
    }
