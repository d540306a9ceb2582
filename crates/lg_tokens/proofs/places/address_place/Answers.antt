use Rattle.std.proofs.Common.{List, ℕ, [], ◌∷◌, Some, sym, ap, subst, ◌∙◌, arith}
use Rattle.std.proofs.lemmas.Option.{none-some, same_Some}
use Rattle.lg_containers.specs.AddressGrammar.{IsAddress}
use Rattle.lg_types.specs.declared.filters.After.{After}
use Rattle.lg_types.specs.declared.filters.After.TheVariants.{Address as AddressPlace}
use Rattle.lg_tokens.proofs.Names.{lacks_all, address_bytes}
use Rattle.lg_tokens.proofs.PlaceTexts.{address_place, address_text}
use Rattle.lg_tokens.proofs.places.address_place.Goals as goal

pub returns-in-None-clause-found : goal.returns-in-None-clause-found
returns-in-None-clause-found c place h e =
    let p = address_place place h in
    absurd (c.in-None.ensures p.address (125 ∷ []) (lacks_all 34 p.address (omega arith) (address_bytes p.address p.named)) (address_text place c.args.bytes.now p e))

pub returns-in-None-2-clause-found : goal.returns-in-None-2-clause-found
returns-in-None-2-clause-found c place h e =
    let p = address_place place h in
    let cut = c.in-Some.ensures p.address (125 ∷ []) (lacks_all 34 p.address (omega arith) (address_bytes p.address p.named)) (address_text place c.args.bytes.now p e) in
    let found = c.in_ok-address-in-Some.ensures.found (subst IsAddress (sym cut.0) p.named) in
    absurd (none-some _ (sym c.in-None-2.is ∙ found))

pub returns-in-Some-2-clause-found : goal.returns-in-Some-2-clause-found
returns-in-Some-2-clause-found c place h e =
    let p = address_place place h in
    let cut = c.in-Some.ensures p.address (125 ∷ []) (lacks_all 34 p.address (omega arith) (address_bytes p.address p.named)) (address_text place c.args.bytes.now p e) in
    let found = c.in_ok-address-in-Some.ensures.found (subst IsAddress (sym cut.0) p.named) in
    ap (λ (l : List ℕ). Some (AddressPlace l)) (same_Some _ _ (sym c.in-Some-2.is ∙ found) ∙ cut.0) ∙ ap (λ (x : After). Some x) (sym p.is)
