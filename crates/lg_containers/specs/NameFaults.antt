-- Why bytes are refused as a name.
use Rattle.std.specs.Prelude.{ℕ, List}
use Rattle.lg_containers.specs.declared.fault.NameFault.{NameFault}
use Rattle.lg_containers.specs.declared.fault.NameFault.TheVariants.{Bad, NoMemory}
use Rattle.lg_containers.specs.Grammar.{IsFaultPlace}

-- they are no name of the grammar, and the place is where they stop beginning one; want of memory may come at any time
abbrev pub IsNameFault : (List ℕ → Type 0) → List ℕ → NameFault → Type 0
IsNameFault Names bytes (Bad place) = IsFaultPlace Names bytes place
IsNameFault Names bytes NoMemory = Unit {0}
