-- What a JSON value is read as: a value, or the first refusal. A reading tells which answers there are.
use Rattle.std.specs.Prelude.{◌≡◌, ◌⊎◌, List, ℕ, Result, Ok, Err}
use Rattle.lg_types.specs.declared.refusals.Reason.{Reason}
use Rattle.lg_types.specs.declared.refusals.Reason.TheVariants.{Form}
use Rattle.lg_types.specs.declared.refusals.Refusal.{Refusal}
use Rattle.lg_types.specs.declared.refusals.Refusal.TheVariants.{Member}
use Rattle.lg_readings.specs.Paths.{Path, path_text}

abbrev pub Answer : Type 0 → Type 0
Answer A = Result A Refusal

-- the refusal of what stands at a path
abbrev pub wrong : {A : Type 0} → Path → Reason → Answer A
wrong path reason = Err (Member (path_text path) reason)

-- the one answer
abbrev pub known : {A : Type 0} → Answer A → Answer A → Type 0
known answer r = r ≡ answer

abbrev pub gives : {A : Type 0} → A → Answer A → Type 0
gives a r = r ≡ Ok a

abbrev pub GoesOn : {A B : Type 0} → Answer A → (A → Answer B → Type 0) → Answer B → Type 0
GoesOn (Ok a) next r = next a r
GoesOn (Err refusal) next r = r ≡ Err refusal

-- one reading and then another that goes by its value: the first refusal counts
pub record Then {A B : Type 0} (first : Answer A → Type 0) (next : A → Answer B → Type 0) (r : Answer B) : Type 0 where
  pub answer : Answer A
  pub is_first : first answer
  pub goes_on : GoesOn answer next r

infixl 10 ◌>>=◌
abbrev pub ◌>>=◌ : {A B : Type 0} → (Answer A → Type 0) → (A → Answer B → Type 0) → Answer B → Type 0
first >>= next = Then first next

-- the value where a fact holds of it, and else a refusal of its form
abbrev pub IfForm : {A : Type 0} → Type 0 → Path → A → Answer A → Type 0
IfForm P path a r = (P × (r ≡ Ok a)) ⊎ ((¬ P) × (r ≡ wrong path Form))
