use Rattle.std.proofs.Common.{ℕ, List, [], ◌∷◌, ◌++◌, ◌∙◌, ap}
use Rattle.std.proofs.lemmas.Int.{to_z-of_z}
use Rattle.std.proofs.Common.{w64}
use Rattle.lg_time.specs.Canonical.{moment_text}
use Rattle.lg_base.proofs.Feeds.{same_text}
use Rattle.lg_types.specs.PartTexts.{date_text}
use Rattle.lg_types.proofs.part_texts.feed_date.Goals as goal

pub returns : goal.returns
unfolding date_text
returns g c =
    same_text (ap (λ (t : List ℕ). 34 ∷ (t ++ 34 ∷ [])) (c.print_moment-len.ensures.text ∙ ap moment_text (to_z-of_z w64 c.bring.result (record { sfits = c.bring.type_inv }) ∙ c.bring.ensures))) c.feed_between_quotes.ensures
