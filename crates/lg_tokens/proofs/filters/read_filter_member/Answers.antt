use Rattle.std.proofs.Common.{◌∷◌, arith}
use Rattle.std.proofs.lemmas.Result.{IfOk-weaker}
use Rattle.lg_tokens.proofs.FilterTexts.{members_alike, member_behind, match_then}
use Rattle.lg_tokens.proofs.filters.read_filter_member.Goals as goal

pub returns-in-Some-clause-found : goal.returns-in-Some-clause-found
returns-in-Some-clause-found c =
    IfOk-weaker c.filter_behind.result _ _
    (λ found given filter more shown lacks e.
    match_then found _ _ (λ x p. (members_alike x.0 filter p.0, p.1))
    (given filter (34 ∷ 97 ∷ more) shown (omega arith, (omega arith, lacks)) (member_behind filter c.args.bytes.now c.in-Some.rest.now more c.in-Some.ensures e)))
    c.filter_behind.ensures.found
