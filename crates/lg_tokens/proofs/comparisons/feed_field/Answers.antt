use Rattle.std.proofs.Common.{ℕ, List, ap, codes}
use Rattle.lg_base.specs.Texts.{quoted}
use Rattle.lg_base.proofs.Feeds.{same_text}
use Rattle.lg_views.specs.Tokens.{in_brackets}
use Rattle.lg_tokens.proofs.comparisons.feed_field.Goals as goal

pub returns-in-Balance : goal.returns-in-Balance
returns-in-Balance g c =
    rw c.in-Balance.is (same_text (ap (λ (n : List ℕ). quoted (in_brackets (codes "balance") n)) c.bytes-in-Balance.ensures.value) c.feed_in_brackets-in-Balance.ensures)
