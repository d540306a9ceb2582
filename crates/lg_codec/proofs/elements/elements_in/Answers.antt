use Rattle.std.proofs.Common.{◌≡◌, ◌+◌, List, [], ◌∷◌, ◌++◌, take, take_all, length, length-append, sym, subst, arith}
use Rattle.lg_json.specs.declared.json.Json.{Json}
use Rattle.lg_types.specs.declared.calls.Element.{Element}
use Rattle.lg_readings.specs.Elements.{AreElements}
use Rattle.lg_codec.specs.Seen.{items_seen}
use Rattle.lg_codec.proofs.ElementLists.{are_more, up_to}
use Rattle.lg_codec.proofs.elements.elements_in.Goals as goal

pub loop-value-preserved : goal.loop-value-preserved
loop-value-preserved c =
    let all = c.args.values.now in
    let i = c.loop-value.value-index in
    let e = c.in_ok-read_element.field-0 in
    subst (λ (es : List Element). (length es ≡ i + 1) × AreElements (items_seen (take (i + 1) all)) es) (sym c.in_ok-push.ensures.ok) (
      let a = c.loop-value.invariant.0 in omega (arith, length-append c.loop-value.elements (e ∷ [])),
      subst (λ (xs : List Json). AreElements (items_seen xs) (c.loop-value.elements ++ e ∷ [])) (sym (up_to all i c.value-item.result (omega arith) c.value-item.is))
          (are_more (take i all) c.loop-value.elements c.value-item.result e c.loop-value.invariant.1 c.in_ok-read_element.ensures),
    )

pub returns : goal.returns
returns c =
    subst (λ (xs : List Json). AreElements (items_seen xs) c.loop-value.elements) (take_all c.loop-value.value-index c.args.values.now (omega arith)) c.loop-value.invariant.1
