use Rattle.std.proofs.Common.{List, ℕ, Option, sym, ap, ◌∙◌}
use Rattle.std.specs.Option.{option_map}
use Rattle.httparse.specs.Spans.{header_bytes}
use Rattle.http1.specs.Fields.{Header, is_named}
use Rattle.http1.specs.Text.{eq_ignore_case}
use Rattle.lg_heads.proofs.FieldLemmas.{find_first, find_none_more}
use Rattle.lg_heads.proofs.fields.first_value.Goals as goal

pub returns-then-eq_ignore_case-clause-value : goal.returns-then-eq_ignore_case-clause-value
returns-then-eq_ignore_case-clause-value c =
    let named = ap (λ (t : List ℕ). eq_ignore_case t c.args.name.now) (sym c.of.ensures) ∙ sym c.eq_ignore_case.ensures ∙ c.if-eq_ignore_case.true in
    sym (ap (λ (found : Option Header). option_map (λ (field : Header). field.1) found)
    (find_first (is_named c.args.name.now) (header_bytes c.args.bytes.now) c.args.headers.now c.fields.header-index _ c.fields-test.true c.fields.invariant named))

pub fields-preserved : goal.fields-preserved
fields-preserved c =
    let named = ap (λ (t : List ℕ). eq_ignore_case t c.args.name.now) (sym c.of.ensures) ∙ sym c.eq_ignore_case.ensures ∙ c.if-eq_ignore_case.false in
    find_none_more (is_named c.args.name.now) (header_bytes c.args.bytes.now) c.args.headers.now c.fields.header-index _ c.fields-test.true c.fields.invariant named
