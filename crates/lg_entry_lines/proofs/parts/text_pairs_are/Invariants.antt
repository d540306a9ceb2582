use Rattle.std.proofs.Common.{drop}
use Rattle.lg_types.specs.Records.{IsTextPair}
use Rattle.lg_entry_lines.proofs.Walks.{GoesOn}
use Rattle.lg_entry_lines.proofs.parts.text_pairs_are.Given as goal

abbrev pub invariant-loop-pair : goal.invariant-loop-pair
invariant-loop-pair l = GoesOn IsTextPair (drop l.pair-index l.pairs) l.pairs
