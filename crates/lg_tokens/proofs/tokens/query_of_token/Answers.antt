use Rattle.std.proofs.Common.{◌≡◌, List, ℕ, sym, subst, ◌∙◌}
use Rattle.std.specs.Prelude.{Ok}
use Rattle.std.proofs.lemmas.Option.{MatchOption-at_some, MatchOption-at_none}
use Rattle.base64.specs.GeneralPurpose.{decode_of}
use Rattle.base64.specs.Engines.{url_safe_no_pad}
use Rattle.lg_views.specs.Tokens.{token_text}
use Rattle.lg_tokens.proofs.Whole.{token_found, ok_both}
use Rattle.lg_tokens.proofs.tokens.query_of_token.Goals as goal

pub returns-in-None-clause-found : goal.returns-in-None-clause-found
returns-in-None-clause-found c q t =
    let d = c.tokens_decode.ensures c.args.kind q t.0 t.1 in
    MatchOption-at_none ⊥ _ c.in-None.is
    (c.in_ok-text.ensures (token_text c.args.kind q t.0) (subst (λ (l : List ℕ). decode_of url_safe_no_pad l ≡ Ok (token_text c.args.kind q t.0)) (sym t.2) d.decoded))

pub returns-in-Some-clause-found : goal.returns-in-Some-clause-found
returns-in-Some-clause-found c =
    ok_both c.read_query.result _ _ _
    (λ o page given q t.
    let d = c.tokens_decode.ensures c.args.kind q t.0 t.1 in
    let items = MatchOption-at_some ⊥ _ _ c.in-Some.is
    (c.in_ok-text.ensures (token_text c.args.kind q t.0) (subst (λ (l : List ℕ). decode_of url_safe_no_pad l ≡ Ok (token_text c.args.kind q t.0)) (sym t.2) d.decoded)) in
    token_found c.args.kind c.args.bytes.now c.deref.result.now o q t page (given q) (c.deref.ensures.value ∙ items))
    c.read_query.ensures.page c.read_query.ensures.found
