-- What a prepared map shows.
--     table     the map from names to values
--     spare     how many more names it takes without memory
--     name_at   the name at a place in the order of names, counted from 0
use Rattle.std.specs.Prelude.{ℕ, List, [], refl, slice_index_or}
use Rattle.std.specs.Coded.{Coded, code_by, coded×, coded_ℕ}
use Rattle.lg_containers.specs.NameTable.{NameTable, code, keys}

pub record Contents (V : Type 0) : Type 0 where
  pub table : NameTable V
  pub spare : ℕ

abbrev pub contents_code : {V : Type 0} → Coded V → Coded (Contents V)
contents_code {V} v =
    code_by (NameTable V × ℕ) (coded× (code v) coded_ℕ) (λ c. (c.table, c.spare)) (λ p. record { table = p.0; spare = p.1 }) (λ _. refl)

abbrev pub name_at : {V : Type 0} → NameTable V → ℕ → List ℕ
name_at t place = slice_index_or (keys t) place []
