use Rattle.std.proofs.Common.{◌≢◌, ℕ, ◌++◌, ◌∙◌, arith}
use Rattle.lg_tokens.specs.Parts.{insertion_text, group_text}
use Rattle.lg_tokens.proofs.Beginnings.{span_begins, group_begins, tail_other}
use Rattle.lg_tokens.proofs.Records.{same_span, span_regrouped}
use Rattle.lg_tokens.proofs.options.read_span.Goals as goal

pub returns-in_err-from-clause-found : goal.returns-in_err-from-clause-found
returns-in_err-from-clause-found c span more h tail e =
    absurd (c.in_err-from.ensures.found span.from span.to (insertion_text span.by_insertion ++ (group_text span.group ++ more)) h.0 h.1
    (span_begins 101 span.by_insertion span.group more (omega arith) (omega arith) (omega arith) (omega arith) tail)
    (span_begins 115 span.by_insertion span.group more (omega arith) (omega arith) (omega arith) (omega arith) tail) (e ∙ span_regrouped span more))

pub returns-in_err-group-clause-found : goal.returns-in_err-group-clause-found
returns-in_err-group-clause-found c span more h tail e =
    let p = c.in_ok-from.ensures.found span.from span.to (insertion_text span.by_insertion ++ (group_text span.group ++ more)) h.0 h.1
    (span_begins 101 span.by_insertion span.group more (omega arith) (omega arith) (omega arith) (omega arith) tail)
    (span_begins 115 span.by_insertion span.group more (omega arith) (omega arith) (omega arith) (omega arith) tail) (e ∙ span_regrouped span more) in
    let i = c.read_insertion-by_insertion.ensures span.by_insertion (group_text span.group ++ more) (group_begins (λ (l : ℕ). l ≢ 105) span.group more (omega arith) (tail_other 105 more (omega arith) (omega arith) tail)) p.2 in
    absurd (c.in_err-group.ensures span.group more h.2 (tail_other 103 more (omega arith) (omega arith) tail) i.1)

pub returns-clause-found : goal.returns-clause-found
returns-clause-found c span more h tail e =
    let p = c.in_ok-from.ensures.found span.from span.to (insertion_text span.by_insertion ++ (group_text span.group ++ more)) h.0 h.1
    (span_begins 101 span.by_insertion span.group more (omega arith) (omega arith) (omega arith) (omega arith) tail)
    (span_begins 115 span.by_insertion span.group more (omega arith) (omega arith) (omega arith) (omega arith) tail) (e ∙ span_regrouped span more) in
    let i = c.read_insertion-by_insertion.ensures span.by_insertion (group_text span.group ++ more) (group_begins (λ (l : ℕ). l ≢ 105) span.group more (omega arith) (tail_other 105 more (omega arith) (omega arith) tail)) p.2 in
    let g = c.in_ok-group.ensures span.group more h.2 (tail_other 103 more (omega arith) (omega arith) tail) i.1 in
    (same_span span _ _ _ _ p.0 p.1 i.0 g.0, g.1)
