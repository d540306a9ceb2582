-- What the laws of each grammar are made of.
use Rattle.std.specs.Prelude.{◌≡◌, ℕ, Bool, true, false, ◌&&◌, List, [], ◌∷◌, IsTrue, ◌↔◌}
use Rattle.std.proofs.Common.{Option, Some, None, option_and_then, refl, sym, subst, ◌∙◌}
use Rattle.lg_containers.specs.Grammar.{runs, Lives}

pub same_test : (a b : Bool) → a ≡ b → IsTrue b ↔ IsTrue a
same_test a b e = (λ h. e ∙ h, λ h. sym e ∙ h)

pub and_assoc : (a b c : Bool) → (a && (b && c)) ≡ ((a && b) && c)
and_assoc true b c = refl
and_assoc false b c = refl

pub and_true : (a : Bool) → (a && true) ≡ a
and_true true = refl
and_true false = refl

pub and_false : (a : Bool) → (a && false) ≡ false
and_false true = refl
and_false false = refl

-- where each state that a step reaches lives, so does each state that a run reaches
pub lives_along : {S : Type 0} (step : S → ℕ → Option S) (ends : S → Bool)
    → ((s : S) (b : ℕ) (t : S) → step s b ≡ Some t → Lives step ends t)
    → (bytes : List ℕ) (r s : S) → Lives step ends r → runs step r bytes ≡ Some s → Lives step ends s
lives_along step ends each [] r s live e = let same : r ≡ s = cc in subst (Lives step ends) same live
lives_along {S = S} step ends each (b ∷ bs) r s live e =
    elim (step r b) as (λ o. step r b ≡ o → option_and_then (λ t. runs step t bs) o ≡ Some s → Lives step ends s) [
      | None ↦ λ p q. absurd cc
      | Some t ↦ λ p q. lives_along step ends each bs t s (each r b t p) q
    ] refl e
