use Rattle.lg_json.specs.Tree.{tree}
use Rattle.lg_tokens.proofs.FilterTexts.{refused_shows_none}
use Rattle.lg_tokens.proofs.filters.filter_of_value.Goals as goal

pub returns-in-Err-Refused-clause-found : goal.returns-in-Err-Refused-clause-found
returns-in-Err-Refused-clause-found c f is =
    let h = rw c.in-Err-Refused.field-0-is at c.in-Err-Refused.ensures in
    refused_shows_none c.args.kind (tree c.args.value.now) c.in-Err-Refused.field-0-0 f h.answers is
