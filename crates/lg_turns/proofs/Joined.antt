-- What is known of two seats that became one.
use Rattle.std.specs.Prelude.{nat_le}
use Rattle.std.proofs.Common.{◌≡◌, ◌⊎◌, Bool, true, false, ◌||◌, cond, length, refl, ap, ◌∙◌, inl, inr}
use Rattle.lg_turns.specs.declared.rule.View.{View}
use Rattle.lg_turns.specs.Rules.{joined, longer}

-- it has seen what the seat that adds events has seen
pub joined-pen : (v w : View) → w.pen ≡ true → (joined v w).seen ≡ w.seen
joined-pen v w e = ap (λ b. cond b w.seen (cond v.pen v.seen (longer v.seen w.seen))) e

pub or-right : (a b : Bool) → b ≡ true → (a || b) ≡ true
or-right true b e = refl
or-right false b e = e

-- without that seat it has seen what one of the two had seen
pub joined-one : (v w : View) → v.pen ≡ false → w.pen ≡ false → ((joined v w).seen ≡ v.seen) ⊎ ((joined v w).seen ≡ w.seen)
joined-one v w e f = by (nat_le (length v.seen) (length w.seen)) refl
  where
    plain : (joined v w).seen ≡ longer v.seen w.seen
    plain = ap (λ b. cond b w.seen (cond v.pen v.seen (longer v.seen w.seen))) f ∙ ap (λ b. cond b v.seen (longer v.seen w.seen)) e

    by : (b : Bool) → nat_le (length v.seen) (length w.seen) ≡ b → ((joined v w).seen ≡ v.seen) ⊎ ((joined v w).seen ≡ w.seen)
    by true q = inr (plain ∙ ap (λ b. cond b w.seen v.seen) q)
    by false q = inl (plain ∙ ap (λ b. cond b w.seen v.seen) q)
