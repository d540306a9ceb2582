use Rattle.std.proofs.Common.{List, ℕ, sym, ap, ◌∙◌}
use Rattle.std.proofs.lemmas.List.Folds.{list_all-map, list_all_at}
use Rattle.httparse.specs.Spans.{header_bytes}
use Rattle.http1.specs.Text.{eq_ignore_case}
use Rattle.lg_heads.specs.Fields.{keeps_length, is_same_number}
use Rattle.std.specs.Prelude.{codes}
use Rattle.lg_heads.proofs.FieldLemmas.{not_or_false}
use Rattle.lg_heads.proofs.fields.keep_length.Goals as goal

pub returns-then-not-is_same_number : goal.returns-then-not-is_same_number
returns-then-not-is_same_number c =
    let bytes = c.args.bytes.now in
    let named = ap (λ (t : List ℕ). eq_ignore_case t (codes "content-length")) (sym c.of.ensures) ∙ sym c.eq_ignore_case-is_length.ensures ∙ c.if-is_length.true in
    let other = ap (is_same_number c.args.digits.now) (sym c.of-then-is_length.ensures) ∙ sym c.is_same_number.ensures ∙ c.if-not-is_same_number.true in
    sym (list_all-map (keeps_length c.args.digits.now) (header_bytes bytes) c.args.headers.now
    ∙ list_all_at (λ h. keeps_length c.args.digits.now (header_bytes bytes h)) c.args.headers.now c.fields.header-index _ c.fields-test.true (not_or_false _ _ named other))
