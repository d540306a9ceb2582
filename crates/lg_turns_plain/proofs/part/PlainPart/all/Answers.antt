use Rattle.std.specs.Prelude.{nat_eq, slice_get}
use Rattle.std.proofs.Common.{◌≡◌, true, [], ◌∷◌, List, Some, length, take, sym, subst, ◌∙◌, arith}
use Rattle.lg_types.specs.Lists.{Each}
use Rattle.lg_types.proofs.Eachs.{each-append}
use Rattle.lg_turns_plain.specs.declared.part.PlainPart.{PlainPart}
use Rattle.lg_turns_plain.specs.Keeping.{kept_shares}
use Rattle.lg_turns_plain.proofs.Growing.{places-more}
use Rattle.lg_turns_plain.proofs.part.PlainPart.all.Goals as goal

abbrev IsEmpty : PlainPart → Type 0
IsEmpty p = (nat_eq (length p.kept.items) p.applied ≡ true) × (kept_shares p.stripe (take p.applied p.kept.items) ≡ [])

pub loop-stripe-preserved : goal.loop-stripe-preserved
loop-stripe-preserved c =
    let i = c.loop-stripe.invariant in
    let old = c.loop-stripe.all.items in
    let new = c.new.result in
    let grows = c.in_ok-push.ensures.items in
    let here : new.stripe ≡ length old = c.new.ensures.stripe ∙ omega (arith, i.0) in (
      omega (arith, c.in_ok-push.ensures.len, i.0),
      (λ k p e. places-more (λ j (q : PlainPart). q.stripe ≡ j) old new i.1 here k p (subst (λ (l : List PlainPart). slice_get l k ≡ Some p) grows e)),
      subst (Each IsEmpty) (sym grows) (each-append IsEmpty old (new ∷ []) i.2 ((c.new.ensures.clean, c.new.ensures.shares), tt)),
    )
