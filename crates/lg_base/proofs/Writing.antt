-- One write to a sink, as the clause of a call that writes.
use Rattle.std.proofs.Common.{◌≡◌, ℕ, ◌≤◌, List, [], ◌++◌, refl, sym, ap, subst}
use Rattle.std.specs.Prelude.{Option, Some, None, Ok, Err}
use Rattle.std.proofs.lemmas.List.{append-nil}
use Rattle.lg_base.specs.Growth.{Rose, Gives}
use Rattle.lg_base.specs.Told.{Told, added}

-- what is told after bytes were added
pub told_added : (old new : Option (List ℕ)) (bytes : List ℕ) → new ≡ added old bytes → (m : List ℕ) → Told old m → Told new (m ++ bytes)
told_added None new bytes e m t = subst (λ (o : Option (List ℕ)). Told o (m ++ bytes)) (sym e) tt
told_added (Some w) new bytes e m t = subst (λ (o : Option (List ℕ)). Told o (m ++ bytes)) (sym e) (ap (λ (l : List ℕ). l ++ bytes) t)

-- a write that took these bytes
pub wrote : {K T E : Type 0} (written : K → Option (List ℕ)) (faults : K → ℕ) (old new : K) (bytes : List ℕ) (u : T)
    → written new ≡ added (written old) bytes → faults old ≤ faults new
    → Gives {T = T} {E = E} (λ k m. Told (written k) m) faults (λ _. 0) old new bytes (Ok u)
wrote written faults old new bytes u e later = record {
  ok = told_added (written old) (written new) bytes e;
  stopped = tt;
  cause = record { later = later; failed = tt };
  same = refl;
}

-- a write that failed, whatever the text
pub not_written : {K T E : Type 0} (written : K → Option (List ℕ)) (faults : K → ℕ) (old new : K) (text : List ℕ) (e : E)
    → written new ≡ written old → faults old ≤ faults new → Rose (faults old) (faults new)
    → Gives {T = T} {E = E} (λ k m. Told (written k) m) faults (λ _. 0) old new text (Err e)
not_written written faults old new text e same later rose = record {
  ok = tt;
  stopped = λ m told. ([], text, refl, subst (λ (l : List ℕ). Told (written new) l) (sym (append-nil m)) (subst (λ (o : Option (List ℕ)). Told o m) (sym same) told));
  cause = record { later = later; failed = rose };
  same = refl;
}
