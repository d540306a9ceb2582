use Rattle.std.proofs.Common.{◌≡◌, sym, subst}
use Rattle.std.proofs.lemmas.Result.{IfOk-weaker}
use Rattle.std.proofs.lemmas.Option.{MatchOption-at_some, MatchOption-at_none}
use Rattle.lg_json.specs.Tree.{Tree, tree}
use Rattle.lg_json.specs.declared.json.Json.{Json}
use Rattle.lg_readings.specs.FilterReadings.{IsFilter}
use Rattle.lg_views.specs.Tokens.{filter_text}
use Rattle.lg_tokens.proofs.FilterTexts.{json_of}
use Rattle.lg_tokens.proofs.filters.filter_of_text.Goals as goal

pub returns-in-None-clause-found : goal.returns-in-None-clause-found
returns-in-None-clause-found c f shown e =
    let s = c.filters_are_spelled.ensures c.args.kind f 64 shown.shown shown.is shown.fits in
    MatchOption-at_none ⊥ (λ (v : Json). tree v ≡ s.shown) c.in-None.is (c.in_ok-value.ensures.found s.shown (json_of s.shown c.args.text.now (filter_text f) s.written e) s.fits)

pub returns-in-Some-clause-found : goal.returns-in-Some-clause-found
returns-in-Some-clause-found c =
    IfOk-weaker c.filter_of_value.result _ _
    (λ filter given f shown e.
    let s = c.filters_are_spelled.ensures c.args.kind f 64 shown.shown shown.is shown.fits in
    let same = MatchOption-at_some ⊥ (λ (v : Json). tree v ≡ s.shown) c.in-Some.value c.in-Some.is (c.in_ok-value.ensures.found s.shown (json_of s.shown c.args.text.now (filter_text f) s.written e) s.fits) in
    given f (subst (λ (t : Tree). IsFilter c.args.kind f t) (sym same) s.is))
    c.filter_of_value.ensures.found
