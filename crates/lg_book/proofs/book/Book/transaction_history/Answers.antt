use Rattle.std.proofs.Common.{◌≡◌, ℕ, ℤ, List, [], Option, Some, None, ap, sym, subst, ◌∙◌, refl}
use Rattle.lg_types.specs.declared.records.Entry.{Entry}
use Rattle.lg_book.specs.Booked.{Booked}
use Rattle.lg_book.proofs.BookReads.{at_name, empty_log, history_there_is, history_is}
use Rattle.std.specs.Prelude.{is_some, IfSome}
use Rattle.std.specs.Option.{option_map, option_copied}
use Rattle.lg_meta.specs.History.{History}
use Rattle.lg_meta.specs.MetaFold.{changes_about}
use Rattle.lg_types.specs.declared.records.Target.TheVariants.{Transaction as TransactionOf}
use Rattle.lg_types.specs.Known.{find_transaction}
use Rattle.lg_types.specs.Log.{log}
use Rattle.lg_book.proofs.Copies.{some_copied, if_copied}
use Rattle.lg_book.proofs.book.Book.transaction_history.Goals as goal

pub returns-in-None-clause-there : goal.returns-in-None-clause-there
returns-in-None-clause-there c = sym (ap (λ (g : List Entry). is_some (find_transaction g c.args.id)) (empty_log c.self.inside.events.items c.self.inside.added c.self.inside.ledgers c.self.invariant c.args.name.now c.args.self.now.events (ap (λ (b : Booked). b.events) c.self.view_is) (at_name c.args.name.now c.bytes.result.now c.self.inside.ledgers c.self.inside.ledgers None c.in-None.ensures c.bytes.ensures.value refl)))

pub returns-in-Some-clause-there : goal.returns-in-Some-clause-there
returns-in-Some-clause-there c = some_copied c.history_in.result ∙ ap is_some c.history_in.ensures ∙ history_there_is c.self.inside.events.items c.self.inside.added c.self.inside.ledgers c.self.invariant c.args.name.now c.args.self.now.events (ap (λ (b : Booked). b.events) c.self.view_is) c.in-Some.index.now (at_name c.args.name.now c.bytes.result.now c.self.inside.ledgers c.self.inside.ledgers (Some c.in-Some.index.now) c.in-Some.ensures c.bytes.ensures.value refl) c.args.id

pub returns-in-Some-clause-changes : goal.returns-in-Some-clause-changes
returns-in-Some-clause-changes c =
    if_copied c.history_in.result (λ history. history.changes ≡ changes_about (TransactionOf c.args.id) (log c.args.self.now.events c.args.name.now))
    (subst (λ o. IfSome o (λ history. history.changes ≡ changes_about (TransactionOf c.args.id) (log c.args.self.now.events c.args.name.now))) (sym c.history_in.ensures) (history_is c.self.inside.events.items c.self.inside.added c.self.inside.ledgers c.self.invariant c.args.name.now c.args.self.now.events (ap (λ (b : Booked). b.events) c.self.view_is) c.in-Some.index.now (at_name c.args.name.now c.bytes.result.now c.self.inside.ledgers c.self.inside.ledgers (Some c.in-Some.index.now) c.in-Some.ensures c.bytes.ensures.value refl) c.args.id))
