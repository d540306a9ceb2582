use Rattle.std.proofs.Common.{◌≡◌, ℕ, ℤ, List, [], Option, Some, None, ap, sym, subst, ◌∙◌, refl}
use Rattle.lg_types.specs.declared.records.Entry.{Entry}
use Rattle.lg_book.specs.Booked.{Booked}
use Rattle.lg_book.proofs.BookReads.{at_name, no_count}
use Rattle.lg_book.proofs.book.Book.log_len.Goals as goal

pub returns-in-None : goal.returns-in-None
returns-in-None c = no_count c.self.inside.events.items c.self.inside.added c.self.inside.ledgers c.self.invariant c.args.name.now c.args.self.now.events (ap (λ (b : Booked). b.events) c.self.view_is) (at_name c.args.name.now c.bytes.result.now c.self.inside.ledgers c.self.inside.ledgers None c.in-None.ensures c.bytes.ensures.value refl) _
