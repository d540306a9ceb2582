-- A reading that goes on as another before every rest, or stops with one fault before every rest.
use Rattle.std.proofs.Common.{◌≡◌, ℕ, List, ◌++◌, Result, Err, ◌∙◌}
use Rattle.lg_json.specs.Tree.{Tree}
use Rattle.lg_json.specs.declared.json.JsonFault.{JsonFault}
use Rattle.lg_json.specs.declared.json.JsonFault.TheVariants.{Syntax, NoMemory}

-- a fault of what a reader may refuse
abbrev pub IsOther : JsonFault → Type 0
IsOther (Syntax p) = ⊥
IsOther NoMemory = ⊥
IsOther _ = Unit {0}

abbrev pub Outcome : Type 0
Outcome = List ℕ → Result Tree JsonFault

-- x goes on as y before each rest that G holds of; or a fault comes, the same before each, which P rules out
pub data Meets (P : Type 0) (G : List ℕ → Type 0) (x y : Outcome) : Type 0 where
  goes : ((rest : List ℕ) → G rest → x rest ≡ y rest) → Meets P G x y
  stops : (f : JsonFault) → IsOther f → (P → ⊥) → ((rest : List ℕ) → G rest → x rest ≡ Err f) → Meets P G x y

abbrev pub Any : List ℕ → Type 0
Any rest = Unit {0}

-- one after the other
pub then_on : {P Q : Type 0} {G : List ℕ → Type 0} {x y z : Outcome} → Meets P G x y → Meets Q G y z → Meets (P × Q) G x z
then_on (goes f) (goes g) = goes (λ rest h. f rest h ∙ g rest h)
then_on (goes f) (stops fault other bars g) = stops fault other (λ p. bars p.1) (λ rest h. f rest h ∙ g rest h)
then_on (stops fault other bars f) m = stops fault other (λ p. bars p.0) f

-- by equations before and after
pub meets_from : {P : Type 0} {G : List ℕ → Type 0} {x x' y y' : Outcome} → ((rest : List ℕ) → G rest → x' rest ≡ x rest) → ((rest : List ℕ) → G rest → y rest ≡ y' rest) → Meets P G x y → Meets P G x' y'
meets_from e f (goes g) = goes (λ rest h. e rest h ∙ g rest h ∙ f rest h)
meets_from e f (stops fault other bars g) = stops fault other bars (λ rest h. e rest h ∙ g rest h)

-- where more is asked for
pub meets_under : {P Q : Type 0} {G : List ℕ → Type 0} {x y : Outcome} → (Q → P) → Meets P G x y → Meets Q G x y
meets_under f (goes g) = goes g
meets_under f (stops fault other bars g) = stops fault other (λ q. bars (f q)) g

-- before rests that begin alike
pub meets_before : {P : Type 0} {G H : List ℕ → Type 0} {x y : Outcome} (a : List ℕ) → ((rest : List ℕ) → H rest → G (a ++ rest)) → Meets P G x y → Meets P H (λ rest. x (a ++ rest)) (λ rest. y (a ++ rest))
meets_before a f (goes g) = goes (λ rest h. g (a ++ rest) (f rest h))
meets_before a f (stops fault other bars g) = stops fault other bars (λ rest h. g (a ++ rest) (f rest h))
