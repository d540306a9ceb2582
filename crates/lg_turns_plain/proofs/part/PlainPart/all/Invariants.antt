use Rattle.std.specs.Prelude.{nat_eq, slice_get}
use Rattle.std.proofs.Common.{◌≡◌, ℕ, true, [], Some, length, take, vec_len}
use Rattle.lg_types.specs.Lists.{Each}
use Rattle.lg_turns_plain.specs.declared.part.PlainPart.{PlainPart}
use Rattle.lg_turns_plain.specs.Keeping.{kept_shares}
use Rattle.lg_turns_plain.proofs.part.PlainPart.all.Given as goal

abbrev pub invariant-loop-stripe : goal.invariant-loop-stripe
invariant-loop-stripe l =
    (vec_len l.all ≡ l.stripe)
    × ((k : ℕ) (p : PlainPart) → slice_get l.all.items k ≡ Some p → p.stripe ≡ k)
    × Each (λ p. (nat_eq (length p.kept.items) p.applied ≡ true) × (kept_shares p.stripe (take p.applied p.kept.items) ≡ [])) l.all.items
