use Rattle.std.proofs.Common.{◌≡◌, ℕ, List, ◌++◌, map, take}
use Rattle.lg_meta.specs.Index.{hits, places_in}
use Rattle.lg_meta.proofs.index.mark_names.Given as goal

abbrev pub invariant-loop-pair : goal.invariant-loop-pair
invariant-loop-pair l = (q : List ℕ) → places_in l.index q ≡ places_in l.fn.index q ++ hits q l.place (map (λ pair. pair.0) (take l.pair-index l.pairs))
