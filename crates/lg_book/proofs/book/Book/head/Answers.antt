use Rattle.std.proofs.Common.{◌≡◌, ℕ, ℤ, List, [], Option, Some, None, ap, sym, subst, ◌∙◌, refl}
use Rattle.lg_types.specs.declared.records.Entry.{Entry}
use Rattle.lg_book.specs.Booked.{Booked}
use Rattle.lg_book.proofs.BookReads.{at_name, empty_log, head_is}
use Rattle.lg_types.specs.Chain.{head}
use Rattle.lg_book.proofs.book.Book.head.Goals as goal

pub returns-in-None : goal.returns-in-None
returns-in-None c = sym (ap (λ (g : List Entry). head g) (empty_log c.self.inside.events.items c.self.inside.added c.self.inside.ledgers c.self.invariant c.args.name.now c.args.self.now.events (ap (λ (b : Booked). b.events) c.self.view_is) (at_name c.args.name.now c.bytes.result.now c.self.inside.ledgers c.self.inside.ledgers None c.in-None.ensures c.bytes.ensures.value refl)))

pub returns-in-Some : goal.returns-in-Some
returns-in-Some c = c.last_hash_in.ensures ∙ head_is c.self.inside.events.items c.self.inside.added c.self.inside.ledgers c.self.invariant c.args.name.now c.args.self.now.events (ap (λ (b : Booked). b.events) c.self.view_is) c.in-Some.index.now (at_name c.args.name.now c.bytes.result.now c.self.inside.ledgers c.self.inside.ledgers (Some c.in-Some.index.now) c.in-Some.ensures c.bytes.ensures.value refl) c.deref.result.now c.deref.ensures.value
