use Rattle.std.proofs.Common.{◌+◌, ◌∙◌, ap, replicate}
use Rattle.lg_types.specs.declared.forms.EntryForm.TheVariants.{Chained}
use Rattle.lg_types.specs.declared.records.Entry.{Entry}
use Rattle.lg_types.specs.Chain.{line_hash}
use Rattle.lg_decide.proofs.EntryLemmas.{sealed_entry}
use Rattle.lg_decide.proofs.entries.new_entry.Goals as goal

pub returns : goal.returns
returns c = λ g len first.
    sealed_entry g (c.args.entries + 1) c.args.head c.args.date.now c.args.mark c.args.body (replicate 32 0) c.sealed.result
    (ap (λ n. n + 1) len) first
    (c.sealed.ensures ∙ ap (λ (e : Entry). record e { hash = line_hash Chained c.args.head e }) c.unsealed.ensures)
