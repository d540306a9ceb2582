-- Bodies: taken into the inbox, or passed on to a feed as they come.
use Rattle.std.specs.Prelude.{◌≡◌, ℕ, ◌+◌, ◌<◌, ◌≤◌, List, [], ◌++◌, length, Option, Result, Ok, Err}
use Rattle.lg_base.specs.Growth.{Rose, Gives}
use Rattle.lg_base.specs.Told.{given, IsAtEnd}
use Rattle.lg_base.specs.declared.feed.Feed.{Ghosts as FeedGhosts}
use Rattle.lg_base.specs.declared.feed.Stop.{Stop}
use Rattle.lg_base.specs.declared.source.Source.{Ghosts as SourceGhosts}
use Rattle.lg_inlet.specs.declared.body_end.BodyEnd.{BodyEnd}
use Rattle.lg_inlet.specs.declared.body_end.BodyEnd.TheVariants.{Whole, Cut}
use Rattle.lg_inlet.specs.declared.inbox.Inbox.{Inbox}
use Rattle.lg_inlet.specs.declared.stopped.Stopped.{Stopped}
use Rattle.lg_inlet.specs.declared.stopped.Stopped.TheVariants.{Fault, Spent, NoMemory, Full}
use Rattle.lg_inlet.specs.Taking.{IsWanted}
use Rattle.lg_inlet.specs.Unread.{unread, allowance_of}

-- fewer bytes than are needed
abbrev pub IsShort : ℕ → List ℕ → Type 0
IsShort needed bytes = length bytes < needed

-- the needed bytes are there, or the source ended before
abbrev pub HasBody : Option (List ℕ) → List ℕ → ℕ → BodyEnd → Type 0
HasBody left bytes needed Whole = needed ≤ length bytes
HasBody left bytes needed Cut = IsShort needed bytes × IsAtEnd left

-- these bytes of the body came, and stand no longer in the inbox; bytes were taken as the body wanted them
pub record Passes {S : Type 0} (source : SourceGhosts S) (old new : S) (inbox after : Inbox) (size : ℕ) (body : List ℕ) : Type 0 where
  pub came : List ℕ
  pub given_are : source.left old ≡ given came (source.left new)
  pub allowed : allowance_of inbox ≡ length came + allowance_of after
  pub body_is : unread inbox ++ came ≡ body ++ unread after
  pub wanted : IsWanted (IsShort size) (unread inbox) came

-- the body came in part, and nothing behind it is there
pub record PassesPart {S : Type 0} (source : SourceGhosts S) (old new : S) (inbox after : Inbox) (size : ℕ) (body : List ℕ) : Type 0 where
  pub passes : Passes source old new inbox after size body
  pub short : length body < size
  pub none : unread after ≡ []

-- the body came in part, and the next bytes came from the source and are lost
pub record LosesPassing {S : Type 0} (source : SourceGhosts S) (old new : S) (inbox after : Inbox) (size : ℕ) (body : List ℕ) : Type 0 where
  pub came : List ℕ
  pub lost : List ℕ
  pub given_are : source.left old ≡ given (came ++ lost) (source.left new)
  pub body_is : unread inbox ++ came ≡ body ++ unread after
  pub short : length body < size

-- the body came whole, or the source ended before, or a read failed or may not be made, or the feed took no more
abbrev pub PassEnd : {S : Type 0} → SourceGhosts S → S → S → Inbox → Inbox → ℕ → List ℕ → Result BodyEnd Stopped → Type 0
PassEnd source old new inbox after size body (Ok Whole) = Passes source old new inbox after size body × (length body ≡ size)
PassEnd source old new inbox after size body (Ok Cut) = PassesPart source old new inbox after size body × IsAtEnd (source.left new)
PassEnd source old new inbox after size body (Err Fault) = PassesPart source old new inbox after size body × Rose (source.faults old) (source.faults new)
PassEnd source old new inbox after size body (Err Spent) = PassesPart source old new inbox after size body × (allowance_of after ≡ 0)
PassEnd source old new inbox after size body (Err Full) = Passes source old new inbox after size body × (length body ≤ size)
PassEnd source old new inbox after size body (Err NoMemory) = LosesPassing source old new inbox after size body

-- the feed took all of it, or stopped
abbrev pub fed_outcome : Result BodyEnd Stopped → Result (Unit {0}) Stop
fed_outcome (Ok ended) = Ok tt
fed_outcome (Err Full) = Err (record {})
fed_outcome (Err Fault) = Ok tt
fed_outcome (Err Spent) = Ok tt
fed_outcome (Err NoMemory) = Ok tt

-- a body was passed on: what came of it is what the feed was fed, in part where the feed stopped
pub record PassesBody {S F : Type 0} (source : SourceGhosts S) (feed : FeedGhosts F) (old new : S) (to fed : F) (inbox after : Inbox) (size : ℕ) (result : Result BodyEnd Stopped) : Type 0 where
  pub body : List ℕ
  pub ended : PassEnd source old new inbox after size body result
  pub fed_is : Gives feed.fed feed.stops feed.lent to fed body (fed_outcome result)
