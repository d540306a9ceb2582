use Rattle.std.proofs.Common.{◌≡◌, length, sym, ap, ◌∙◌, arith}
use Rattle.std.proofs.lemmas.List.{length-map}
use Rattle.lg_types.specs.declared.marks.Marked.{Marked}
use Rattle.lg_types.specs.Marked.{events_of, open_end, opening, opening_mark}
use Rattle.lg_types.proofs.MarkedLists.{opening_events, opening-end}
use Rattle.lg_turns.specs.Rules.{pen_of}
use Rattle.lg_turns.proofs.Touched.{quiet-drop}
use Rattle.lg_turns.proofs.turns.Turns.new.Goals as goal

pub invariant_of-desk : goal.invariant_of-desk
invariant_of-desk g c =
    let events = g.J.Journal.events c.args.journal in
    let view = c.pen_off-pen.ensures.pen ∙ ap pen_of c.open_word.ensures.view in
    let seen : c.pen_off-pen.result.me.0.seen ≡ opening events = ap (λ v. v.seen) view in
    let size : length c.pen_off-pen.result.me.0.seen ≡ length events = ap (length {A = Marked}) seen ∙ length-map events opening_mark in
    record {
      named = c.pen_off-pen.ensures.table.1;
      empty = c.pen_off-pen.ensures.slots.1;
      pen_is = (ap (λ v. v.pen) view ∙ ap (λ v. v.pen) c.args.blank.first, ap (λ v. v.weight) view, ap (λ v. v.made) view);
      some = omega (arith, size, c.requires.one);
      ends = ap open_end seen ∙ opening-end events;
      list = sym (ap events_of seen ∙ opening_events events);
      stamped = λ k lt. quiet-drop k _ events (c.requires.quiet k lt);
      clean = λ _. c.requires.clean;
    }
