use Rattle.std.proofs.Common.{◌≡◌, ℕ, suc, ◌+◌, List, [], ◌∷◌, ◌++◌, take, drop, slice_get, Some, refl, sym, ap, ap₂, subst, ◌∙◌, add-one}
use Rattle.lg_types.specs.declared.records.Event.{Event}
use Rattle.lg_book.specs.Booked.{Booked}
use Rattle.lg_book.specs.Index.{IsBook}
use Rattle.lg_book.specs.Writing.{event_added}
use Rattle.lg_book.proofs.Views.{next_event, moved_view}
use Rattle.lg_book.proofs.BookSteps.{event_can_add, event_added_is}
use Rattle.lg_book.proofs.book.Book.apply.Goals as goal

pub add_event-requires : goal.add_event-requires
add_event-requires c =
    event_can_add c.self.inside.events.items c.self.inside.added c.self.inside.ledgers c.self.invariant c.args.event.now
    (next_event c.self.inside.added c.self.inside.events.items c.args.self.now.prepared c.args.event.now (ap (λ (b : Booked). b.prepared) c.self.view_is) c.requires)

pub invariant_of-self : goal.invariant_of-self
invariant_of-self c =
    let next : slice_get c.self.inside.events.items c.self.inside.added ≡ Some c.args.event.now =
    next_event c.self.inside.added c.self.inside.events.items c.args.self.now.prepared c.args.event.now (ap (λ (b : Booked). b.prepared) c.self.view_is) c.requires in
    subst (λ ls. IsBook c.self.inside.events.items (c.self.inside.added + 1) ls) (sym c.add_event.ensures)
    (subst (λ n. IsBook c.self.inside.events.items n (event_added c.args.event.now c.self.inside.ledgers)) (sym (add-one c.self.inside.added))
    (event_added_is c.self.inside.events.items c.self.inside.added c.self.inside.ledgers c.self.invariant c.args.event.now next))

pub returns : goal.returns
returns c =
    moved_view c.self.inside.added c.self.inside.events.items c.args.self.now.events c.args.self.now.prepared c.args.event.now
    (ap (λ (b : Booked). b.events) c.self.view_is) (ap (λ (b : Booked). b.prepared) c.self.view_is) c.requires
