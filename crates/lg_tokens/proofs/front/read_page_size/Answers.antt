use Rattle.std.proofs.Common.{List, ℕ, ◌∷◌, ◌++◌, sym, ap, ◌∙◌, append_assoc}
use Rattle.std.specs.Prelude.{decimal}
use Rattle.lg_tokens.specs.Parts.{head_word}
use Rattle.lg_tokens.proofs.front.read_page_size.Goals as goal

pub returns-in_err-rest-clause-found : goal.returns-in_err-rest-clause-found
returns-in_err-rest-clause-found c size more low high e =
    absurd (c.in_err-rest.ensures (decimal size ++ 44 ∷ more)
    (e ∙ (append_assoc (head_word c.args.kind) (decimal size) (44 ∷ more) ∙ ap (λ (l : List ℕ). l ++ (decimal size ++ 44 ∷ more)) (sym c.front_of.ensures))))
