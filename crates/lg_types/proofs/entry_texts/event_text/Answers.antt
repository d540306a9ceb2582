use Rattle.lg_types.proofs.entry_texts.event_text.Goals as goal

pub returns-in-Made : goal.returns-in-Made
returns-in-Made g c = rw c.in-Made.is c.feed_all.ensures

pub returns-in-Logged : goal.returns-in-Logged
returns-in-Logged g c = rw c.in-Logged.is c.feed_all-in-Logged.ensures
