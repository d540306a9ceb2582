use Rattle.std.specs.Prelude.{slice_index}
use Rattle.std.proofs.Common.{◌≡◌, ◌+◌, ◌≤◌, ◌++◌, true, List, length, drop, cond, sym, ap, subst, ◌∙◌, length-append, arith}
use Rattle.lg_types.specs.declared.records.Event.{Event}
use Rattle.lg_types.specs.declared.marks.Marked.{Marked}
use Rattle.lg_types.specs.Marked.{events_of, marks, open_end}
use Rattle.lg_types.specs.Parts.{untouched}
use Rattle.lg_types.proofs.MarkedLists.{events_length}
use Rattle.lg_turns.specs.Stripes.{has}
use Rattle.lg_turns.proofs.Places.{held-more}
use Rattle.lg_turns.proofs.Stages.{applying-start, applied-to}
use Rattle.lg_turns.proofs.Touched.{grown_events, stamped-by}
use Rattle.lg_turns.proofs.publish.publish_all.Goals as goal

pub apply_row-requires-clause-all : goal.apply_row-requires-clause-all
apply_row-requires-clause-all g c =
    let d = c.args.desk.now in
    ap events_of c.publish_word-front.ensures.all
    ∙ grown_events d.pen.me.0.seen (g.C.Change.mark c.args.change.now) (g.C.Change.added c.args.change.now) (g.J.Journal.events c.of-before.result.value) (ap g.J.Journal.events c.of-before.ensures ∙ d.list)

pub apply_row-requires-clause-row : goal.apply_row-requires-clause-row
apply_row-requires-clause-row g c =
    let same = ap g.J.Journal.events c.of-before.ensures ∙ c.args.desk.now.list in
    rw same (held-more _ _ _ c.requires.row (λ k a lt h. applying-start (omega (arith, lt, c.len-places.ensures.1)) h))

pub invariant_of-desk : goal.invariant_of-desk
invariant_of-desk g c =
    let d = c.args.desk.now in
    let old = d.pen.me.0.seen in
    let mark = g.C.Change.mark c.args.change.now in
    let added = g.C.Change.added c.args.change.now in
    let events = g.J.Journal.events d.journal in
    let word = c.publish_word-front.ensures in
    let seen : c.apply_row.new.pen.me.0.seen ≡ old ++ marks mark added = c.apply_row.ensures.seen ∙ word.all in
    let size : length c.apply_row.new.pen.me.0.seen ≡ length old + length (marks mark added) = ap (length {A = Marked}) seen ∙ length-append old (marks mark added) in
    let grows : events_of (old ++ marks mark added) ≡ events ++ added = grown_events old mark added events d.list in
    let front : length (events ++ added) ≤ c.publish_word-front.result =
    let a : length (events ++ added) ≡ length (old ++ marks mark added) = ap (length {A = Event}) (sym grows) ∙ events_length (old ++ marks mark added) in
    let b : c.publish_word-front.result ≡ length (old ++ marks mark added) = word.front ∙ ap (length {A = Marked}) word.all in
    omega (arith, a, b) in
    record {
      named = c.apply_row.ensures.table;
      empty = c.apply_row.ensures.slots ∙ (word.slots.1 ∙ d.empty);
      pen_is = c.apply_row.ensures.pen;
      some = omega (arith, size, d.some);
      ends = ap open_end c.apply_row.ensures.seen ∙ word.ends;
      list = c.apply_journal.ensures.events ∙ sym (ap events_of seen ∙ grows);
      stamped = λ k lt.
          let stamp = slice_index d.stamps k in
          let good : untouched k (drop (cond (has c.touches-set.result k) c.publish_word-front.result stamp) (events ++ added)) ≡ true =
          stamped-by (has c.touches-set.result k) k c.publish_word-front.result stamp events added front (d.stamped k lt) (λ none. c.touches-set.ensures.all k lt (sym (c.touches-set.ensures.is k lt) ∙ none)) in
          subst (λ n. untouched k (drop n (g.J.Journal.events c.apply_journal.new.journal)) ≡ true) (sym (c.stamp_all.ensures k lt))
          (subst (λ (es : List Event). untouched k (drop (cond (has c.touches-set.result k) c.publish_word-front.result stamp) es) ≡ true) (sym c.apply_journal.ensures.events) good);
      clean = λ _. c.apply_journal.ensures.clean;
    }

pub returns-clause-row : goal.returns-clause-row
returns-clause-row g c =
    let same = ap (λ j. g.J.Journal.events j ++ g.C.Change.added c.args.change.now) c.of-before.ensures in
    held-more _ _ _ c.apply_row.ensures.row (λ k a lt h. applied-to same h)
