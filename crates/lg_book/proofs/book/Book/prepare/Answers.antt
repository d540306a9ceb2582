use Rattle.std.proofs.Common.{◌≡◌, ℕ, List, [], ◌∷◌, ◌++◌, length, sym, ap, ap₂, subst, ◌∙◌}
use Rattle.lg_types.specs.declared.records.Event.{Event}
use Rattle.lg_book.specs.Booked.{Booked}
use Rattle.lg_book.specs.Following.{MayFollow}
use Rattle.lg_book.specs.FirstVolumes.{volumes_after}
use Rattle.lg_book.specs.Index.{IsBook}
use Rattle.lg_book.specs.Writing.{event_prepared}
use Rattle.lg_book.proofs.BookReads.{whole_list}
use Rattle.lg_book.proofs.BookSteps.{event_can_prepare, event_prepared_is}
use Rattle.lg_book.proofs.book.Book.prepare.Goals as goal

pub prepare_event-requires : goal.prepare_event-requires
prepare_event-requires c =
    let whole = whole_list c.self.inside.added c.self.inside.events.items c.args.self.now.events c.args.self.now.prepared (ap (λ (b : Booked). b.events) c.self.view_is) (ap (λ (b : Booked). b.prepared) c.self.view_is) in
    rw c.get.ensures (event_can_prepare c.self.inside.events.items c.self.inside.added c.self.inside.ledgers c.self.invariant c.args.event.now (subst (λ es. MayFollow es c.args.event.now) whole c.requires.follows))

pub invariant_of-self-2 : goal.invariant_of-self-2
invariant_of-self-2 c =
    let whole = whole_list c.self.inside.added c.self.inside.events.items c.args.self.now.events c.args.self.now.prepared (ap (λ (b : Booked). b.events) c.self.view_is) (ap (λ (b : Booked). b.prepared) c.self.view_is) in
    let made : IsBook (c.self.inside.events.items ++ c.args.event.now ∷ []) c.self.inside.added (event_prepared (length c.self.inside.events.items) c.args.event.now c.args.volumes.now c.self.inside.ledgers) =
    event_prepared_is c.self.inside.events.items c.self.inside.added c.self.inside.ledgers c.self.invariant c.args.event.now c.args.volumes.now
    (subst (λ es. MayFollow es c.args.event.now) whole c.requires.follows) (c.requires.volumes ∙ ap (λ (es : List Event). volumes_after es c.args.event.now) whole) in
    let place : c.len-place.result ≡ length c.self.inside.events.items = c.len-place.ensures ∙ c.in_ok-reserve.ensures.len ∙ c.self.inside.events.ok.0 in
    let items : c.push_within.new.items.items ≡ c.self.inside.events.items ++ c.args.event.now ∷ [] = c.push_within.ensures ∙ ap₂ (λ (l : List Event) (v : Event). l ++ v ∷ []) c.in_ok-reserve.ensures.items c.in_ok-shared.ensures in
    let ledgers : c.prepare_event.new.ledgers ≡ event_prepared (length c.self.inside.events.items) c.args.event.now c.args.volumes.now c.self.inside.ledgers =
    (rw c.get.ensures at c.in_ok-prepare_event.ensures.ok) ∙ ap (λ (n : ℕ). event_prepared n c.args.event.now c.args.volumes.now c.self.inside.ledgers) place in
    subst (λ es. IsBook es c.self.inside.added c.prepare_event.new.ledgers) (sym items)
    (subst (λ ls. IsBook (c.self.inside.events.items ++ c.args.event.now ∷ []) c.self.inside.added ls) (sym ledgers) made)
