use Rattle.std.proofs.Common.{List, ℕ, sym, subst}
use Rattle.lg_entry_lines.specs.Laws.{ReadsAs}
use Rattle.lg_entry_lines.proofs.Entries.{entry_reads_back, first_line_reads_back}
use Rattle.lg_entry_lines.proofs.LineReadings.{found_back, no_line, not_found}
use Rattle.lg_entry_lines.proofs.lines.entry_of_line.Goals as goal

pub returns-in-Ok-clause-reads_back : goal.returns-in-Ok-clause-reads_back
returns-in-Ok-clause-reads_back c = λ e h same.
    found_back c.args.recompute c.args.line.now c.in-Ok.value e 2 (subst (λ (bytes : List ℕ). ReadsAs bytes e 2) (sym same) (entry_reads_back e h)) c.in-Ok.ensures.only c.entry_of_value.result c.entry_of_value.ensures

pub returns-in-Ok-clause-first_reads_back : goal.returns-in-Ok-clause-first_reads_back
returns-in-Ok-clause-first_reads_back c = λ e h same.
    found_back c.args.recompute c.args.line.now c.in-Ok.value e 1 (subst (λ (bytes : List ℕ). ReadsAs bytes e 1) (sym same) (first_line_reads_back e h)) c.in-Ok.ensures.only c.entry_of_value.result c.entry_of_value.ensures

pub returns-in-Err : goal.returns-in-Err
returns-in-Err c = record {
  line = no_line c.args.recompute c.args.line.now c.in-Err.fault c.fault_of.result c.fault_of.ensures c.in-Err.ensures.only;
  reads_back = λ e h same. not_found c.args.line.now e 2 c.in-Err.fault c.fault_of.result c.fault_of.ensures c.in-Err.ensures.only (subst (λ (bytes : List ℕ). ReadsAs bytes e 2) (sym same) (entry_reads_back e h));
  first_reads_back = λ e h same. not_found c.args.line.now e 1 c.in-Err.fault c.fault_of.result c.fault_of.ensures c.in-Err.ensures.only (subst (λ (bytes : List ℕ). ReadsAs bytes e 1) (sym same) (first_line_reads_back e h));
}
