use Rattle.lg_base.proofs.Feeds.{same_text}
use Rattle.lg_tokens.proofs.Texts.{quoted_in_brackets}
use Rattle.lg_tokens.proofs.comparisons.feed_in_brackets.Goals as goal

pub returns : goal.returns
returns g c = same_text (quoted_in_brackets c.args.word.now c.args.name.now) c.feed_all.ensures
