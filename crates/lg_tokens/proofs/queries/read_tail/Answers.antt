use Rattle.std.proofs.Common.{sym, ◌∙◌}
use Rattle.std.proofs.lemmas.Option.{MatchOption-at_some, MatchOption-at_none, none-some, same_Some}
use Rattle.lg_tokens.proofs.PlaceTexts.{place_rest, rest_lacks}
use Rattle.lg_tokens.proofs.queries.read_tail.Goals as goal

pub returns-in-None-clause-found : goal.returns-in-None-clause-found
returns-in-None-clause-found c filter place shown h e =
    MatchOption-at_none ⊥ _ c.in-None.is (c.in_ok-filter.ensures.found filter (place_rest place) shown (rest_lacks c.args.kind place h) e)

pub returns-in-None-2-clause-found : goal.returns-in-None-2-clause-found
returns-in-None-2-clause-found c filter place shown h e =
    let first = MatchOption-at_some ⊥ _ _ c.in-Some.is (c.in_ok-filter.ensures.found filter (place_rest place) shown (rest_lacks c.args.kind place h) e) in
    absurd (none-some _ (sym c.in-None-2.is ∙ c.in_ok-place-in-Some.ensures.found place h first.1))

pub returns-in-Some-2-clause-found : goal.returns-in-Some-2-clause-found
returns-in-Some-2-clause-found c filter place shown h e =
    let first = MatchOption-at_some ⊥ _ _ c.in-Some.is (c.in_ok-filter.ensures.found filter (place_rest place) shown (rest_lacks c.args.kind place h) e) in
    (first.0, same_Some _ _ (sym c.in-Some-2.is ∙ c.in_ok-place-in-Some.ensures.found place h first.1))
