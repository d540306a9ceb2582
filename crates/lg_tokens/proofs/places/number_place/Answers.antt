use Rattle.std.proofs.Common.{ℕ, [], inr, Some, sym, ap, ◌∙◌, arith, rules}
use Rattle.std.proofs.lemmas.Fmt.{decimal_injective}
use Rattle.std.specs.Prelude.{decimal}
use Rattle.lg_types.specs.declared.filters.After.{After}
use Rattle.lg_types.specs.declared.filters.After.TheVariants.{Place}
use Rattle.lg_tokens.proofs.Names.{decimal_lacks}
use Rattle.lg_tokens.proofs.PlaceTexts.{number_place, number_text}
use Rattle.lg_tokens.proofs.places.number_place.Goals as goal

pub returns-in_err-text-clause-found : goal.returns-in_err-text-clause-found
returns-in_err-text-clause-found c place h e =
    let p = number_place place h in
    absurd (c.in_err-text.ensures (decimal p.number) [] (decimal_lacks 125 p.number (inr (omega arith)) p.small) (number_text place c.args.bytes.now p e))

pub returns-in_err-number-clause-found : goal.returns-in_err-number-clause-found
returns-in_err-number-clause-found c place h e =
    let p = number_place place h in
    let cut = c.in_ok-text.ensures (decimal p.number) [] (decimal_lacks 125 p.number (inr (omega arith)) p.small) (number_text place c.args.bytes.now p e) in
    absurd (c.in_err-number.ensures p.number p.small cut.0)

pub returns-clause-found : goal.returns-clause-found
returns-clause-found c place h e =
    let p = number_place place h in
    let cut = c.in_ok-text.ensures (decimal p.number) [] (decimal_lacks 125 p.number (inr (omega arith)) p.small) (number_text place c.args.bytes.now p e) in
    ap (λ (n : ℕ). Some (Place n)) (decimal_injective c.in_ok-number.number p.number (search rules) p.small (sym c.in_ok-number.ensures ∙ cut.0)) ∙ ap (λ (x : After). Some x) (sym p.is)
