use Rattle.std.proofs.Common.{List, ℕ, Some, sym, ap, ◌∙◌}
use Rattle.lg_heads.proofs.FieldLemmas.{both_true, first_keeps}
use Rattle.lg_heads.proofs.fields.content_length.Goals as goal

pub value_within-requires : goal.value_within-requires
value_within-requires c =
    let found = sym c.in-Some.ensures.value ∙ ap (λ (t : List ℕ). Some t) (sym c.of-digits.ensures) in
    (both_true _ _ (first_keeps c.of-digits.result.now c.of-digits.result.now _ found (sym c.keep_length.ensures ∙ c.if-keep_length.true))).0
