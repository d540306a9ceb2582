-- Segments that are lent where a path has some.
use Rattle.std.proofs.Common.{◌≡◌, ℕ, List, Option, Some, sym, subst}
use Rattle.std.specs.Option.{option_map}

pub at_some : {T : Type 0} (o : Option T) (s : T) (f : T → List (List ℕ)) (P : Option (List (List ℕ)) → Type 0) (items : List (List ℕ))
    → o ≡ Some s → items ≡ f s → P (Some items) → P (option_map f o)
at_some {T = T} o s f P items is same p = subst (λ (q : Option T). P (option_map f q)) (sym is) (subst (λ (xs : List (List ℕ)). P (Some xs)) same p)
