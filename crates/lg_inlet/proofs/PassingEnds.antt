-- How a turn of passing a body on goes, and how it ends.
use Rattle.std.proofs.Common.{◌≡◌, ℕ, ◌-◌, ◌<◌, ◌≤◌, min, List, [], ◌++◌, length, take, drop, sym, ap, ◌∙◌, subst, arith, length-append}
use Rattle.std.specs.Prelude.{Result, Ok, Err, IsErr}
use Rattle.std.proofs.lemmas.List.{length-take-le, length-drop}
use Rattle.lg_base.specs.Growth.{Gives}
use Rattle.lg_base.specs.Told.{given}
use Rattle.lg_base.specs.declared.feed.Feed.{Ghosts as FeedGhosts}
use Rattle.lg_base.specs.declared.feed.Stop.{Stop}
use Rattle.lg_base.specs.declared.source.Source.{Ghosts as SourceGhosts}
use Rattle.lg_base.proofs.Feeds.{then}
use Rattle.lg_inlet.specs.Bodies.{PassesPart, PassesBody}
use Rattle.lg_inlet.specs.Taking.{TakesOnce, StopsReading}
use Rattle.lg_inlet.specs.Unread.{unread, allowance_of}
use Rattle.lg_inlet.specs.declared.body_end.BodyEnd.TheVariants.{Whole, Cut}
use Rattle.lg_inlet.specs.declared.inbox.Inbox.{Inbox}
use Rattle.lg_inlet.specs.declared.stopped.Stopped.{Stopped}
use Rattle.lg_inlet.specs.declared.stopped.Stopped.TheVariants.{Fault, Spent, NoMemory, Full}
use Rattle.lg_inlet.proofs.TakingLemmas.{given_more}
use Rattle.lg_inlet.proofs.PassingLemmas.{PassedSoFar, empty_of, fed_whole, fed_part, passes_part, passes_more, passes_same}

-- what a feed and an inbox did with a part of what was unread
pub record Turn {F : Type 0} (feed : FeedGhosts F) (fed next : F) (between after : Inbox) (wanted part : ℕ) (r : Result (Unit {0}) Stop) : Type 0 where
  pub gives : Gives feed.fed feed.stops feed.lent fed next (take part (unread between)) r
  pub rest : unread after ≡ drop part (unread between)
  pub same : allowance_of after ≡ allowance_of between
  pub part_is : part ≡ min wanted (length (unread between))

pub turn_of : {F : Type 0} (feed : FeedGhosts F) (fed next : F) (between after : Inbox) (wanted part : ℕ) (seen shown : List ℕ) (r : Result (Unit {0}) Stop)
    → seen ≡ unread between → shown ≡ unread between → part ≡ min wanted (length seen)
    → Gives feed.fed feed.stops feed.lent fed next (take part shown) r
    → unread after ≡ drop part (unread between) → allowance_of after ≡ allowance_of between → Turn feed fed next between after wanted part r
turn_of feed fed next between after wanted part seen shown r seen_is shown_is part_is gives rest same = record {
  gives = subst (λ (l : List ℕ). Gives feed.fed feed.stops feed.lent fed next (take part l) r) shown_is gives;
  rest = rest;
  same = same;
  part_is = part_is ∙ ap (λ (l : List ℕ). min wanted (length l)) seen_is;
}

module _ {S F : Type 0} (source : SourceGhosts S) (feed : FeedGhosts F) where
  part_length : (between : Inbox) (wanted part : ℕ) → part ≡ min wanted (length (unread between)) → length (take part (unread between)) ≡ part
  part_length between wanted part is = length-take-le part (unread between) (omega arith)

  -- the feed took the part
  pub turned : (old new : S) (to fed next : F) (inbox between after : Inbox) (size wanted part : ℕ) (r : Result (Unit {0}) Stop)
      → PassedSoFar source feed old new to fed inbox between size wanted → Turn feed fed next between after wanted part r → ¬ (IsErr r)
      → PassedSoFar source feed old new to next inbox after size (wanted - part)
  turned old new to fed next inbox between after size wanted part r p turn other = record {
    body = p.body ++ take part (unread between);
    passes = passes_part source feed old new inbox between after size part p.body p.passes turn.rest turn.same;
    fed_is = then p.fed_is (fed_whole r other turn.gives);
    left = omega (arith, p.left, part_length between wanted part turn.part_is, length-append p.body (take part (unread between)), turn.part_is);
  }

  -- where more of the body is wanted, nothing is unread
  pub turned_none : {fed next : F} (between after : Inbox) (wanted part : ℕ) (r : Result (Unit {0}) Stop) → Turn feed fed next between after wanted part r
      → 0 < wanted - part → unread after ≡ []
  turned_none between after wanted part r turn more =
      turn.rest ∙ empty_of (drop part (unread between)) (omega (arith, length-drop part (unread between), turn.part_is))

  -- the feed stopped
  pub ends_full : (old new : S) (to fed next : F) (inbox between after : Inbox) (size wanted part : ℕ) (r : Result (Unit {0}) Stop)
      → PassedSoFar source feed old new to fed inbox between size wanted → Turn feed fed next between after wanted part r → IsErr r
      → PassesBody source feed old new to next inbox after size (Err Full)
  ends_full old new to fed next inbox between after size wanted part r p turn failed = record {
    body = p.body ++ take part (unread between);
    ended = (
      passes_part source feed old new inbox between after size part p.body p.passes turn.rest turn.same,
      omega (arith, p.left, part_length between wanted part turn.part_is, length-append p.body (take part (unread between)), turn.part_is),
    );
    fed_is = then p.fed_is (fed_part r failed turn.gives);
  }

  pub ends_whole : (old new : S) (to fed : F) (inbox after : Inbox) (size wanted : ℕ) → PassedSoFar source feed old new to fed inbox after size wanted
      → wanted ≡ 0 → PassesBody source feed old new to fed inbox after size (Ok Whole)
  ends_whole old new to fed inbox after size wanted p none =
      record { body = p.body; ended = (p.passes, omega (arith, p.left)); fed_is = p.fed_is }

  part_of : (old new : S) (to fed : F) (inbox after : Inbox) (size wanted : ℕ) (p : PassedSoFar source feed old new to fed inbox after size wanted)
      → 0 < wanted → unread after ≡ [] → PassesPart source old new inbox after size p.body
  part_of old new to fed inbox after size wanted p more none =
      record { passes = p.passes; short = omega (arith, p.left); none = none }

  -- one more read, after which some of the body is wanted still
  pub read_on : (old mid new : S) (to fed : F) (inbox between after : Inbox) (size wanted count : ℕ)
      → PassedSoFar source feed old mid to fed inbox between size wanted → 0 < wanted → unread between ≡ [] → TakesOnce source mid new between after count
      → PassedSoFar source feed old new to fed inbox after size wanted
  read_on old mid new to fed inbox between after size wanted count p more none took = record {
    body = p.body;
    passes = passes_more source feed old mid new inbox between after size count p.body (part_of old mid to fed inbox between size wanted p more none) took;
    fed_is = p.fed_is;
    left = p.left;
  }

  pub ends_cut : (old mid new : S) (to fed : F) (inbox between after : Inbox) (size wanted count : ℕ)
      → PassedSoFar source feed old mid to fed inbox between size wanted → 0 < wanted → unread between ≡ [] → TakesOnce source mid new between after count
      → count ≡ 0 → PassesBody source feed old new to fed inbox after size (Ok Cut)
  ends_cut old mid new to fed inbox between after size wanted count p more none took zero_count =
      let passes = passes_more source feed old mid new inbox between after size count p.body (part_of old mid to fed inbox between size wanted p more none) took in
      record {
        body = p.body;
        ended = (
          record {
            passes = passes;
            short = omega (arith, p.left);
            none = took.takes.unread_are ∙ empty_of (unread between ++ took.came) (omega (arith, ap length none, took.count_is, length-append (unread between) took.came));
          },
          took.ended zero_count,
        );
        fed_is = p.fed_is;
      }

  pub ends_reading : (old mid new : S) (to fed : F) (inbox between after : Inbox) (size wanted : ℕ) (why : Stopped)
      → PassedSoFar source feed old mid to fed inbox between size wanted → 0 < wanted → unread between ≡ [] → source.faults old ≤ source.faults mid
      → StopsReading source mid new between after why → PassesBody source feed old new to fed inbox after size (Err why)
  ends_reading old mid new to fed inbox between after size wanted Fault p more none later stops = record {
    body = p.body;
    ended = (passes_same source feed old mid new inbox between after size p.body (part_of old mid to fed inbox between size wanted p more none) stops.0, omega (arith, stops.1));
    fed_is = p.fed_is;
  }
  ends_reading old mid new to fed inbox between after size wanted Spent p more none later stops = record {
    body = p.body;
    ended = (passes_same source feed old mid new inbox between after size p.body (part_of old mid to fed inbox between size wanted p more none) stops.0, stops.1);
    fed_is = p.fed_is;
  }
  ends_reading old mid new to fed inbox between after size wanted NoMemory p more none later stops = record {
    body = p.body;
    ended = record {
      came = p.passes.came;
      lost = stops.0.came;
      given_are = p.passes.given_are ∙ ap (given p.passes.came) stops.0.given_are ∙ given_more p.passes.came stops.0.came (source.left new);
      body_is = p.passes.body_is ∙ ap (λ (l : List ℕ). p.body ++ l) (sym stops.1);
      short = omega (arith, p.left);
    };
    fed_is = p.fed_is;
  }
  ends_reading old mid new to fed inbox between after size wanted Full p more none later stops = absurd stops
