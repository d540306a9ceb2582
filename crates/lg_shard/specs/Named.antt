-- Which accounts and assets have something that was applied.
--     has_items slot            the index has moves
--     is_named part             the account has a change of its metadata, or moves
--     is_named_at accounts a    so for the account of the name
--     names_where test pairs    the names of the values that pass the test
--     assets_at accounts a      the assets of the account that have moves
use Rattle.std.specs.Prelude.{ℕ, Bool, false, ◌||◌, nat_lt, List, [], length, map, Option, Some, None}
use Rattle.std.specs.List.{filter, list_any}
use Rattle.lg_containers.specs.NameTable.{NameTable, get, pairs_of}
use Rattle.lg_shard.specs.declared.accounts.AccountPart.{AccountPart}
use Rattle.lg_shard.specs.declared.reserved.Reserved.{Reserved}

abbrev pub has_items : Reserved → Bool
has_items slot = nat_lt 0 (length slot.index.items)

abbrev pub is_named : AccountPart → Bool
is_named part = nat_lt 0 (length part.history.changes) || list_any (λ p. has_items p.1) (pairs_of part.assets)

-- a value that isn't there passes no test
abbrev pub passes : {V : Type 0} → (V → Bool) → Option V → Bool
passes test None = false
passes test (Some v) = test v

abbrev pub is_named_at : NameTable AccountPart → List ℕ → Bool
is_named_at accounts account = passes is_named (get accounts account)

abbrev pub names_where : {V : Type 0} → (V → Bool) → List (List ℕ × V) → List (List ℕ)
names_where test pairs = map (λ p. p.0) (filter (λ p. test p.1) pairs)

abbrev pub assets_of : Option AccountPart → List (List ℕ)
assets_of None = []
assets_of (Some part) = names_where has_items (pairs_of part.assets)

abbrev pub assets_at : NameTable AccountPart → List ℕ → List (List ℕ)
assets_at accounts account = assets_of (get accounts account)
