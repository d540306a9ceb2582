-- What a place becomes where the last entry moves to `at`.
use Rattle.std.specs.Prelude.{ℕ, eqb, cond}

abbrev pub moved : ℕ → ℕ → ℕ → ℕ
moved last at place = cond (eqb place last) at place
