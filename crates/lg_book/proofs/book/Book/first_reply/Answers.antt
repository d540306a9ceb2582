use Rattle.std.proofs.Common.{◌≡◌, ℕ, Bool, true, false, List, [], Option, Some, None, IsSome, IfSome, ap, sym, subst, ◌∙◌, refl}
use Rattle.std.specs.Prelude.{is_some}
use Rattle.lg_types.specs.declared.records.Entry.{Entry}
use Rattle.lg_book.specs.Booked.{Booked}
use Rattle.lg_book.specs.Reading.{find_entry}
use Rattle.lg_book.proofs.BookReads.{at_name, empty_log, entry_is, reply_is}
use Rattle.lg_book.proofs.Copies.{if_ok}
use Rattle.lg_book.proofs.book.Book.first_reply.Goals as goal

pub unreachable-requires : goal.unreachable-requires
unreachable-requires c =
    let missing : is_some (find_entry _ c.args.entry) ≡ false = ap (λ (g : List Entry). is_some (find_entry g c.args.entry)) (empty_log c.self.inside.events.items c.self.inside.added c.self.inside.ledgers c.self.invariant c.args.name.now c.args.self.now.events (ap (λ (b : Booked). b.events) c.self.view_is) (at_name c.args.name.now c.bytes.result.now c.self.inside.ledgers c.self.inside.ledgers None c.in-None.ensures c.bytes.ensures.value refl)) in
    let f : false ≡ true = sym missing ∙ c.requires in absurd cc

pub reply_in-requires : goal.reply_in-requires
reply_in-requires c =
    subst (λ (o : Option Entry). IsSome o) (sym (entry_is c.self.inside.events.items c.self.inside.added c.self.inside.ledgers c.self.invariant c.args.name.now c.args.self.now.events (ap (λ (b : Booked). b.events) c.self.view_is) c.in-Some.index.now (at_name c.args.name.now c.bytes.result.now c.self.inside.ledgers c.self.inside.ledgers (Some c.in-Some.index.now) c.in-Some.ensures c.bytes.ensures.value refl) c.deref.result.now c.deref.ensures.value c.args.entry)) c.requires

pub returns : goal.returns
returns c =
    if_ok c.reply_in.result _ _ (λ reply. reply_is c.self.inside.events.items c.self.inside.added c.self.inside.ledgers c.self.invariant c.args.name.now c.args.self.now.events (ap (λ (b : Booked). b.events) c.self.view_is) c.in-Some.index.now (at_name c.args.name.now c.bytes.result.now c.self.inside.ledgers c.self.inside.ledgers (Some c.in-Some.index.now) c.in-Some.ensures c.bytes.ensures.value refl) c.deref.result.now c.deref.ensures.value c.args.entry reply) c.reply_in.ensures
