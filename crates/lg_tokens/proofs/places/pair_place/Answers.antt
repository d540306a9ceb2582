use Rattle.std.proofs.Common.{[], ◌∷◌, Some, sym, ap, subst, ◌∙◌, arith}
use Rattle.std.proofs.lemmas.Result.{IfOk-weaker}
use Rattle.lg_containers.specs.AddressGrammar.{IsAddress}
use Rattle.lg_containers.specs.AssetGrammar.{IsAsset}
use Rattle.lg_types.specs.declared.filters.After.{After}
use Rattle.lg_types.specs.declared.filters.After.TheVariants.{Pair}
use Rattle.lg_tokens.proofs.Names.{lacks_all, address_bytes, asset_bytes}
use Rattle.lg_tokens.proofs.PlaceTexts.{pair_place, pair_text}
use Rattle.lg_tokens.proofs.places.pair_place.Goals as goal

pub returns-in-None-clause-found : goal.returns-in-None-clause-found
returns-in-None-clause-found c place h e =
    let p = pair_place place h in
    let bytes = address_bytes p.account p.named in
    absurd (c.in-None.ensures p.account p.asset (125 ∷ []) (lacks_all 32 p.account (omega arith) bytes) (lacks_all 34 p.account (omega arith) bytes)
    (lacks_all 34 p.asset (omega arith) (asset_bytes p.asset p.asset_named)) (pair_text place c.args.bytes.now p e))

pub returns-in-Some-clause-found : goal.returns-in-Some-clause-found
returns-in-Some-clause-found c =
    IfOk-weaker c.pair_of.result _ _
    (λ found given place h e.
    let p = pair_place place h in
    let bytes = address_bytes p.account p.named in
    let cut = c.in-Some.ensures p.account p.asset (125 ∷ []) (lacks_all 32 p.account (omega arith) bytes) (lacks_all 34 p.account (omega arith) bytes)
    (lacks_all 34 p.asset (omega arith) (asset_bytes p.asset p.asset_named)) (pair_text place c.args.bytes.now p e) in
    given (subst IsAddress (sym cut.0) p.named) (subst IsAsset (sym cut.1) p.asset_named)
    ∙ (λ i. Some (Pair (cut.0 i) (cut.1 i))) ∙ ap (λ (x : After). Some x) (sym p.is))
    c.pair_of.ensures.found
