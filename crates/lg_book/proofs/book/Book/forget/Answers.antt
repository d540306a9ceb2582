use Rattle.std.proofs.Common.{◌≡◌, ℕ, ◌-◌, List, length, take, drop, sym, ap, ap₂, subst, ◌∙◌}
use Rattle.lg_types.specs.declared.records.Event.{Event}
use Rattle.lg_book.specs.Index.{IsBook}
use Rattle.lg_book.specs.Writing.{events_forgotten}
use Rattle.lg_book.proofs.ForgetSteps.{forgotten_is}
use Rattle.lg_book.proofs.Views.{rest_slice}
use Rattle.lg_book.proofs.book.Book.forget.Goals as goal

pub invariant_of-self : goal.invariant_of-self
invariant_of-self c =
    let rest : take (length c.deref.result.now - c.self.inside.added) (drop c.self.inside.added c.deref.result.now) ≡ drop c.self.inside.added c.self.inside.events.items =
    ap (λ (es : List Event). take (length es - c.self.inside.added) (drop c.self.inside.added es)) c.deref.ensures.value ∙ rest_slice c.self.inside.added c.self.inside.events.items in
    subst (λ es. IsBook es c.self.inside.added c.forget_events.new.ledgers) (sym c.truncate.ensures.items)
    (subst (λ ls. IsBook (take c.self.inside.added c.self.inside.events.items) c.self.inside.added ls) (sym (c.forget_events.ensures ∙ ap (λ (es : List Event). events_forgotten es c.self.inside.ledgers) rest))
    (forgotten_is c.self.inside.events.items c.self.inside.added c.self.inside.ledgers c.self.invariant))
