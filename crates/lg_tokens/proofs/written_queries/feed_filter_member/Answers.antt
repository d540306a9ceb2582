use Rattle.std.proofs.Common.{sym, ◌∙◌}
use Rattle.lg_base.proofs.Feeds.{same_text}
use Rattle.lg_tokens.proofs.Lists.{with_member}
use Rattle.lg_tokens.proofs.written_queries.feed_filter_member.Goals as goal

pub returns-in-false : goal.returns-in-false
returns-in-false g c = same_text (with_member c.args.filter.now (sym c.is_all.ensures ∙ c.in-false.is)) c.feed_present_filter.ensures
