use Rattle.lg_generator.specs.Summaries.{counts_text}
use Rattle.lg_generator.proofs.summary.feed_counts.Goals as goal

pub returns : goal.returns
unfolding counts_text
returns g c = c.feed_all.ensures
