use Rattle.std.proofs.Common.{◌≡◌, ◌∙◌, ap, map, reverse}
use Rattle.lg_types.specs.Trial.{exchanged}
use Rattle.lg_decide.proofs.RevertLemmas.{reverse-map}
use Rattle.lg_decide.proofs.reverts.reverting.Goals as goal

pub returns : goal.returns
returns c =
    c.in-Some.ensures
    ∙ c.reverse.ensures.items
    ∙ ap reverse (c.in_ok-items.ensures ∙ ap (map exchanged) c.as_slice.ensures.value)
    ∙ reverse-map exchanged c.args.postings.now
