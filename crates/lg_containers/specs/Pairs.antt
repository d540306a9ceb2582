-- What a pair of references shows.
use Rattle.std.specs.Prelude.{ℕ, List}
use denote.Ref.{Bor}

abbrev pub pair_of : {V : Type 0} → Bor (List ℕ) × Bor V → List ℕ × V
pair_of p = (p.0.now, p.1.now)
