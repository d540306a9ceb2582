use Rattle.std.proofs.Common.{nat_lt, filter, rules, ap, ◌∙◌}
use Rattle.std.proofs.lemmas.Fn.{filter_same}
use Rattle.lg_meta.proofs.places.Places.cut.Goals as goal

pub returns : goal.returns
returns c =
    filter_same _ (λ place. nat_lt place c.args.limit) _ (λ x b f called. search rules) _ _ c.retain.ensures.filtered
    ∙ ap (filter (λ place. nat_lt place c.args.limit)) c.self.view_is
