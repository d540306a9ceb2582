-- The clause of every call that feeds a feed or writes to a sink.
use Rattle.std.specs.Prelude.{ℕ, List, Result}
use Rattle.lg_base.specs.Growth.{Gives}
use Rattle.lg_base.specs.Told.{Told}
use Rattle.lg_base.specs.declared.feed.Feed.{Ghosts as FeedGhosts}
use Rattle.lg_base.specs.declared.sink.Sink.{Ghosts as SinkGhosts}

-- the call fed this text to the feed, whole after an Ok and a front of it after a stop
abbrev pub Feeds : {F T E : Type 0} → FeedGhosts F → F → F → List ℕ → Result T E → Type 0
Feeds feed old new text result = Gives feed.fed feed.stops feed.lent old new text result

-- the call wrote these bytes to the sink, all of them after an Ok and a front of them after an error
abbrev pub Writes : {K T E : Type 0} → SinkGhosts K → K → K → List ℕ → Result T E → Type 0
Writes sink old new bytes result = Gives (λ k m. Told (sink.written k) m) sink.faults (λ _. 0) old new bytes result
