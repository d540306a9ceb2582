-- What a run of records is seen as.
use Rattle.std.specs.Prelude.{ℕ, List}

-- the records in order, and how many more can be inserted without memory
pub record Kept (T : Type 0) : Type 0 where
  pub items : List T
  pub spare : ℕ
