use Rattle.std.proofs.Common.{List, ℕ, ◌∷◌, ◌++◌, sym, ap, ◌∙◌}
use Rattle.lg_tokens.specs.Parts.{head_text}
use Rattle.lg_tokens.proofs.Beginnings.{asked_begins}
use Rattle.lg_tokens.proofs.queries.read_front.Goals as goal

pub returns-in_err-asked-clause-found : goal.returns-in_err-asked-clause-found
returns-in_err-asked-clause-found c size asked more low high h tail e =
    let b = asked_begins asked more tail in
    let p = c.in_ok-size.ensures.found size (34 ∷ b.letter ∷ b.rest) low high (e ∙ ap (λ (l : List ℕ). head_text c.args.kind size ++ l) b.is) in
    absurd (c.in_err-asked.ensures.found asked more h tail (p.1 ∙ sym b.is))

pub returns-clause-found : goal.returns-clause-found
returns-clause-found c size asked more low high h tail e =
    let b = asked_begins asked more tail in
    let p = c.in_ok-size.ensures.found size (34 ∷ b.letter ∷ b.rest) low high (e ∙ ap (λ (l : List ℕ). head_text c.args.kind size ++ l) b.is) in
    let q = c.in_ok-asked.ensures.found asked more h tail (p.1 ∙ sym b.is) in
    (p.0, q.0, q.1)
