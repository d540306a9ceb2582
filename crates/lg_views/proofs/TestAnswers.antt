-- Tests whose answers are known.
use Rattle.std.proofs.Common.{◌≡◌, ℕ, Bool, true, false, not, cond, ◌||◌, List, [], ◌∷◌, Option, Some, None, refl, sym, ap, ◌∙◌}
use Rattle.std.specs.Prelude.{is_some, is_none, nat_eq}
use Rattle.std.specs.Str.{bytes_eq}
use Rattle.std.proofs.lemmas.Slice.Eq.{bytes_eq-Decides}
use Rattle.std.proofs.lemmas.Bool.{eq-eqb}
use Rattle.lg_types.specs.declared.refusals.ImportCause.{ImportCause}
use Rattle.lg_views.specs.Import.{first_cause}

pub same_bytes : (x : List ℕ) → bytes_eq x x ≡ true
same_bytes x = (bytes_eq-Decides x x).1 refl

pub bytes_same : (x y : List ℕ) → bytes_eq x y ≡ true → x ≡ y
bytes_same x y h = (bytes_eq-Decides x y).0 h

pub not_same_bytes : (x : List ℕ) → not (bytes_eq x x) ≡ false
not_same_bytes x = ap not (same_bytes x)

pub not_same_number : (n : ℕ) → not (nat_eq n n) ≡ false
not_same_number n = ap not (eq-eqb n n refl)

pub not_false : (b : Bool) → not b ≡ false → b ≡ true
not_false true h = refl
not_false false h = sym h

pub or_false : (a b : Bool) → (a || b) ≡ false → (a ≡ false) × (b ≡ false)
or_false true b h = absurd (let f : true ≡ false = h in cc)
or_false false b h = (refl, h)

pub both_false : (a b : Bool) → a ≡ false → b ≡ false → (a || b) ≡ false
both_false a b h k = ap (λ c. c || b) h ∙ k

pub none_there : {A : Type 0} (o : Option A) → o ≡ None → is_some o ≡ false
none_there o h = ap is_some h

pub some_there : {A : Type 0} (o : Option A) (x : A) → o ≡ Some x → is_none o ≡ false
some_there o x h = ap is_none h

-- every test of a list of causes fails
abbrev pub AllFalse : List (Bool × ImportCause) → Type 0
AllFalse [] = Unit {0}
AllFalse (c ∷ cs) = (c.0 ≡ false) × AllFalse cs

pub no_cause : (cs : List (Bool × ImportCause)) → AllFalse cs → first_cause cs ≡ None
no_cause [] h = refl
no_cause (c ∷ cs) h = ap (λ b. cond b (Some c.1) (first_cause cs)) h.0 ∙ no_cause cs h.1

none_of : (b : Bool) (x : ImportCause) (o : Option ImportCause) → cond b (Some x) o ≡ None → (b ≡ false) × (o ≡ None)
none_of true x o h = absurd (let f : ◌≡◌ {A = Option ImportCause} (Some x) None = h in cc)
none_of false x o h = (refl, h)

pub all_false : (cs : List (Bool × ImportCause)) → first_cause cs ≡ None → AllFalse cs
all_false [] h = tt
all_false (c ∷ cs) h = let parts = none_of c.0 c.1 (first_cause cs) h in (parts.0, all_false cs parts.1)
