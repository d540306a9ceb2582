use Rattle.std.proofs.Common.{ap, sym, ◌∙◌}
use Rattle.std.specs.Option.{option_copied}
use Rattle.lg_types.specs.Log.{log}
use Rattle.lg_listed.proofs.AppendLemmas.{head_last, head_none}
use Rattle.lg_listed.proofs.last.head.Goals as goal

pub returns-in-Some : goal.returns-in-Some
returns-in-Some c = head_last (log c.args.book.now.events c.args.ledger.now) c.args.earlier.now c.in-Some.entry.now (sym c.last.ensures.value ∙ ap option_copied c.in-Some.is)

pub returns-in-None : goal.returns-in-None
returns-in-None c = c.head.ensures ∙ head_none (log c.args.book.now.events c.args.ledger.now) c.args.earlier.now (sym c.last.ensures.value ∙ ap option_copied c.in-None.is)
