use Rattle.std.proofs.Common.{◌≡◌, ◌+◌, ◌-◌, List, length, sym, ap, subst, ◌∙◌, arith}
use Rattle.lg_types.specs.declared.records.Event.{Event}
use Rattle.lg_types.specs.declared.marks.Marked.{Marked}
use Rattle.lg_types.specs.Lists.{IsPrefix}
use Rattle.lg_types.specs.Marked.{events_of}
use Rattle.lg_types.proofs.MarkedLists.{events_length, events-prefix}
use Rattle.lg_turns.specs.Rules.{Shown, joined}
use Rattle.lg_turns.proofs.Joined.{joined-pen, or-right}
use Rattle.lg_turns.proofs.passes.close_desk.Goals as goal

pub returns-clause-seen : goal.returns-clause-seen
returns-clause-seen g c =
    let d = c.args.desk in
    let mine = c.args.seat.me.0 in
    let theirs = d.pen.me.0 in
    let shown : Shown (joined mine theirs) c.look.result = subst (λ v. Shown v c.look.result) c.join.ensures.view c.look.ensures.shown in
    let pre : IsPrefix mine.seen theirs.seen = subst (λ (ms : List Marked). IsPrefix mine.seen ms) (joined-pen mine theirs d.pen_is.0) shown.one in
    subst (λ (es : List Event). IsPrefix (events_of mine.seen) es) (sym d.list) (events-prefix mine.seen theirs.seen pre)

pub returns-clause-made : goal.returns-clause-made
returns-clause-made g c =
    let d = c.args.desk in
    let mine = c.args.seat.me.0 in
    let theirs = d.pen.me.0 in
    let shown : Shown (joined mine theirs) c.look.result = subst (λ v. Shown v c.look.result) c.join.ensures.view c.look.ensures.shown in
    let made : mine.made + theirs.made ≡ c.look.result - 1 = shown.gathered (omega (arith, c.requires.weight, d.pen_is.1)) in
    let word : length theirs.seen ≡ c.look.result = sym (ap (length {A = Marked}) (joined-pen mine theirs d.pen_is.0)) ∙ shown.all (or-right mine.pen theirs.pen d.pen_is.0) in
    let size : length (g.J.Journal.events d.journal) ≡ length theirs.seen = ap (length {A = Event}) d.list ∙ events_length theirs.seen in
    omega (arith, made, word, size, d.pen_is.2, d.some)
