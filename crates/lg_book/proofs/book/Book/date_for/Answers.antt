use Rattle.std.proofs.Common.{◌≡◌, ℕ, ℤ, List, [], Option, Some, None, ap, sym, subst, ◌∙◌, w64, take, refl}
use Rattle.std.proofs.lemmas.Int.{to_z-of_z}
use Rattle.lg_types.specs.declared.records.Entry.{Entry}
use Rattle.lg_types.specs.Known.{date, date_after}
use Rattle.lg_types.specs.Moments.{brought}
use Rattle.lg_book.specs.Booked.{Booked}
use Rattle.lg_book.specs.Index.{by_id, entry_by_record}
use Rattle.lg_book.proofs.BookReads.{at_name, empty_log, date_is}
use Rattle.lg_book.proofs.book.Book.date_for.Goals as goal

pub returns-in-None : goal.returns-in-None
returns-in-None c =
    to_z-of_z w64 c.bring.result (record { sfits = c.bring.type_inv })
    ∙ c.bring.ensures
    ∙ ap brought (to_z-of_z w64 c.args.now c.ranges.now)
    ∙ sym (ap (λ (g : List Entry). date g c.args.now) (empty_log c.self.inside.events.items c.self.inside.added c.self.inside.ledgers c.self.invariant c.args.name.now c.args.self.now.events (ap (λ (b : Booked). b.events) c.self.view_is) (at_name c.args.name.now c.bytes.result.now c.self.inside.ledgers c.self.inside.ledgers None c.in-None.ensures c.bytes.ensures.value refl)))

pub returns-in-Some : goal.returns-in-Some
returns-in-Some c =
    to_z-of_z w64 c.date_in.result (record { sfits = c.date_in.type_inv })
    ∙ c.date_in.ensures
    ∙ ap (λ (d : ℤ). date_after (entry_by_record c.deref.result.now (by_id (take c.in-Some.index.now.logged c.in-Some.index.now.entries) c.in-Some.index.now.logged)) d) (to_z-of_z w64 c.args.now c.ranges.now)
    ∙ date_is c.self.inside.events.items c.self.inside.added c.self.inside.ledgers c.self.invariant c.args.name.now c.args.self.now.events (ap (λ (b : Booked). b.events) c.self.view_is) c.in-Some.index.now (at_name c.args.name.now c.bytes.result.now c.self.inside.ledgers c.self.inside.ledgers (Some c.in-Some.index.now) c.in-Some.ensures c.bytes.ensures.value refl) c.deref.result.now c.deref.ensures.value c.args.now
