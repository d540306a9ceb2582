-- A fact of each item, where the last is taken off.
use Rattle.std.proofs.Common.{List, [], ◌∷◌, ◌++◌}
use Rattle.lg_types.specs.Lists.{Each}

pub each-front : {A : Type 0} (P : A → Type 0) (xs : List A) (x : A) → Each P (xs ++ x ∷ []) → Each P xs × P x
each-front P [] x h = (tt, h.0)
each-front P (y ∷ xs) x h = let rest = each-front P xs x h.1 in ((h.0, rest.0), rest.1)
