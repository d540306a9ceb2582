use Rattle.std.proofs.Common.{Some, sym, ap, ◌∙◌}
use Rattle.std.proofs.lemmas.Option.{MatchOption-at_some, MatchOption-at_none}
use Rattle.lg_types.specs.declared.filters.After.{After}
use Rattle.lg_types.specs.declared.queries.Query.{Query}
use Rattle.lg_views.specs.Tokens.{token_text}
use Rattle.lg_tokens.specs.Parts.{tail_text}
use Rattle.lg_tokens.proofs.Beginnings.{tail_begins}
use Rattle.lg_tokens.proofs.Whole.{asked_of, whole_text, page_asked, page_shown, same_text}
use Rattle.lg_tokens.proofs.queries.read_query.Goals as goal

pub returns-in-None-clause-found : goal.returns-in-None-clause-found
returns-in-None-clause-found c q place h e =
    c.in-None.ensures.found q.page_size (asked_of q) (tail_text q.filter place) h.some h.most (page_asked c.args.kind q place h) (tail_begins q.filter place) (e ∙ whole_text c.args.kind q place)

pub returns-in-None-2-clause-found : goal.returns-in-None-2-clause-found
returns-in-None-2-clause-found c q place h e =
    let front = c.in-Some.ensures.found q.page_size (asked_of q) (tail_text q.filter place) h.some h.most (page_asked c.args.kind q place h) (tail_begins q.filter place) (e ∙ whole_text c.args.kind q place) in
    MatchOption-at_none ⊥ _ c.in-None-2.is (c.in_ok-filter-in-Some.ensures.found q.filter place (page_shown c.args.kind q place h) h.of_list front.2)

pub returns-in-Some-2-clause-found : goal.returns-in-Some-2-clause-found
returns-in-Some-2-clause-found c q place h e =
    let front = c.in-Some.ensures.found q.page_size (asked_of q) (tail_text q.filter place) h.some h.most (page_asked c.args.kind q place h) (tail_begins q.filter place) (e ∙ whole_text c.args.kind q place) in
    let tail = MatchOption-at_some ⊥ _ _ c.in-Some-2.is (c.in_ok-filter-in-Some.ensures.found q.filter place (page_shown c.args.kind q place h) h.of_list front.2) in (
      ap (λ (g : Query). g.after) c.query_of.ensures ∙ ap (λ (p : After). Some p) tail.1,
      ap (λ (g : Query). token_text c.args.kind g place) c.query_of.ensures ∙ (same_text c.args.kind q c.in-Some.size c.in-Some.asked c.in-Some-2.filter place front.0 front.1 tail.0 ∙ sym e),
    )
