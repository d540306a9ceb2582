use Rattle.std.proofs.Common.{◌∷◌, ◌++◌, ◌∙◌}
use Rattle.lg_base.specs.Texts.{quoted}
use Rattle.lg_base.proofs.Feeds.{same_text}
use Rattle.lg_tokens.proofs.Texts.{quoted_pair}
use Rattle.lg_tokens.proofs.written_queries.feed_after.Goals as goal

pub returns-in-Pair : goal.returns-in-Pair
returns-in-Pair g c =
    rw c.in-Pair.is
    (same_text (quoted_pair c.bytes.result.now c.bytes-in-Pair.result.now ∙ (λ i. quoted (c.bytes.ensures.value i ++ (32 ∷ c.bytes-in-Pair.ensures.value i)))) c.feed_all.ensures)
