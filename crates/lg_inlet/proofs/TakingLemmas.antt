-- How calls that take bytes from a source compose.
use Rattle.std.proofs.Common.{◌≡◌, ℕ, ◌+◌, ◌≤◌, List, [], ◌++◌, length, drop, Option, Some, None, inl, inr, refl, sym, ap, ◌∙◌, subst, arith, append_assoc, append-nil, length-append}
use Rattle.std.proofs.lemmas.List.{drop-append-le}
use Rattle.std.specs.Prelude.{Result, Ok, Err, IfOk, IfErr}
use Rattle.lg_base.specs.Growth.{Rose}
use Rattle.lg_base.specs.Told.{given}
use Rattle.lg_base.specs.declared.source.Source.{Ghosts as SourceGhosts}
use Rattle.lg_inlet.specs.declared.inbox.Inbox.{Inbox}
use Rattle.lg_inlet.specs.declared.stopped.Stopped.{Stopped}
use Rattle.lg_inlet.specs.declared.stopped.Stopped.TheVariants.{Fault, Spent, NoMemory, Full}
use Rattle.lg_base.specs.Reading.{TakesMore}
use Rattle.lg_inlet.specs.Reading.{StopsAppending}
use Rattle.lg_inlet.specs.Taking.{Takes, TakesWanted, TakesOnce, StopsReading, TakesTooFew, StopsTaking}
use Rattle.lg_inlet.specs.Unread.{unread, allowance_of}

pub given_none : (left : Option (List ℕ)) → left ≡ given [] left
given_none None = refl
given_none (Some rest) = refl

pub given_more : (first second : List ℕ) (left : Option (List ℕ)) → given first (given second left) ≡ given (first ++ second) left
given_more first second None = refl
given_more first second (Some rest) = ap (λ (l : List ℕ). Some l) (sym (append_assoc first second rest))

module _ {S : Type 0} (source : SourceGhosts S) where
  pub takes_none : (s : S) (inbox : Inbox) → Takes source s s inbox inbox []
  takes_none s inbox = record { given_are = given_none (source.left s); unread_are = sym (append-nil (unread inbox)); allowed = omega arith }

  pub takes_more : (old mid new : S) (inbox between after : Inbox) (first second : List ℕ)
      → Takes source old mid inbox between first → Takes source mid new between after second → Takes source old new inbox after (first ++ second)
  takes_more old mid new inbox between after first second a b = record {
    given_are = a.given_are ∙ ap (given first) b.given_are ∙ given_more first second (source.left new);
    unread_are = b.unread_are ∙ ap (λ (l : List ℕ). l ++ second) a.unread_are ∙ append_assoc (unread inbox) first second;
    allowed = omega (arith, a.allowed, b.allowed, length-append first second);
  }

  -- nothing more was taken
  pub takes_same : (old mid new : S) (inbox between after : Inbox) (first : List ℕ)
      → Takes source old mid inbox between first → Takes source mid new between after [] → Takes source old new inbox after first
  takes_same old mid new inbox between after first a b =
      subst (Takes source old new inbox after) (append-nil first) (takes_more old mid new inbox between after first [] a b)

  pub starts_wanted : (wants : List ℕ → Type 0) (s : S) (inbox : Inbox) → TakesWanted wants source s s inbox inbox
  starts_wanted wants s inbox = record { came = []; takes = takes_none s inbox; wanted = inl refl }

  -- one more read, made where more was wanted
  pub wanted_more : (wants : List ℕ → Type 0) (old mid new : S) (inbox between after : Inbox) (count : ℕ)
      → TakesWanted wants source old mid inbox between → wants (unread between) → TakesOnce source mid new between after count
      → TakesWanted wants source old new inbox after
  wanted_more wants old mid new inbox between after count a now b = record {
    came = a.came ++ b.came;
    takes = takes_more old mid new inbox between after a.came b.came a.takes b.takes;
    wanted = inr (a.came, b.came, refl, subst wants a.takes.unread_are now, omega (arith, b.count_is, b.short));
  }

  too_few : (wants : List ℕ → Type 0) (old mid new : S) (inbox between after : Inbox)
      → TakesWanted wants source old mid inbox between → wants (unread between) → Takes source mid new between after []
      → TakesTooFew wants source old new inbox after
  too_few wants old mid new inbox between after a now b = record {
    came = a.came;
    takes = takes_same old mid new inbox between after a.came a.takes b;
    wanted = subst wants (sym (b.unread_are ∙ append-nil (unread between))) now;
  }

  -- a read that gave nothing, where more was wanted
  pub stops_wanting : (wants : List ℕ → Type 0) (old mid new : S) (inbox between after : Inbox) (why : Stopped)
      → TakesWanted wants source old mid inbox between → wants (unread between) → source.faults old ≤ source.faults mid
      → StopsReading source mid new between after why → StopsTaking wants source old new inbox after why
  stops_wanting wants old mid new inbox between after Fault a now later (b, rose) =
      (too_few wants old mid new inbox between after a now b, omega arith)
  stops_wanting wants old mid new inbox between after Spent a now later (b, spent) =
      (too_few wants old mid new inbox between after a now b, spent)
  stops_wanting wants old mid new inbox between after NoMemory a now later b =
      record {
        came = a.came;
        lost = b.0.came;
        given_are = a.takes.given_are ∙ ap (given a.came) b.0.given_are ∙ given_more a.came b.0.came (source.left new);
        unread_are = b.1 ∙ a.takes.unread_are;
      }
  stops_wanting wants old mid new inbox between after Full a now later b = b

  -- a read that gave nothing to the inbox leaves what is unread
  pub stops_same : (old new : S) (inbox after : Inbox) (why : Stopped) → StopsReading source old new inbox after why → unread after ≡ unread inbox
  stops_same old new inbox after Fault s = s.0.unread_are ∙ append-nil (unread inbox)
  stops_same old new inbox after Spent s = s.0.unread_are ∙ append-nil (unread inbox)
  stops_same old new inbox after NoMemory s = s.1
  stops_same old new inbox after Full s = absurd s

  -- the answer to a read that gave nothing, where memory wasn't wanting
  pub took_nothing : (wants : List ℕ → Type 0) (old mid new : S) (inbox between after : Inbox) (why : Stopped)
      → TakesWanted wants source old mid inbox between → StopsReading source mid new between after why → ¬ (why ≡ NoMemory)
      → TakesWanted wants source old new inbox after
  took_nothing wants old mid new inbox between after Fault a s other =
      record { came = a.came; takes = takes_same old mid new inbox between after a.came a.takes s.0; wanted = a.wanted }
  took_nothing wants old mid new inbox between after Spent a s other =
      record { came = a.came; takes = takes_same old mid new inbox between after a.came a.takes s.0; wanted = a.wanted }
  took_nothing wants old mid new inbox between after NoMemory a s other = absurd (other refl)
  took_nothing wants old mid new inbox between after Full a s other = absurd s

  pub ok_nothing : {T : Type 0} (wants : List ℕ → Type 0) (old mid new : S) (inbox between after : Inbox) (why : Stopped) (r : Result T Stopped)
      → TakesWanted wants source old mid inbox between → StopsReading source mid new between after why → IfOk r (λ _. ¬ (why ≡ NoMemory))
      → IfOk r (λ _. TakesWanted wants source old new inbox after)
  ok_nothing wants old mid new inbox between after why (Ok found) a s other = took_nothing wants old mid new inbox between after why a s other
  ok_nothing wants old mid new inbox between after why (Err e) a s other = tt

  -- a read that gave nothing, where these bytes want more unless memory is wanting
  stops_as : (asks wants : List ℕ → Type 0) (old mid new : S) (inbox between after : Inbox) (why : Stopped)
      → TakesWanted asks source old mid inbox between → source.faults old ≤ source.faults mid
      → StopsReading source mid new between after why → (¬ (why ≡ NoMemory) → wants (unread after)) → StopsTaking wants source old new inbox after why
  stops_as asks wants old mid new inbox between after Fault a later s now = (
    record { came = a.came; takes = takes_same old mid new inbox between after a.came a.takes s.0; wanted = now (λ e. let f : Fault ≡ NoMemory = e in cc) },
    let rose : Rose (source.faults mid) (source.faults new) = s.1 in omega arith,
  )
  stops_as asks wants old mid new inbox between after Spent a later s now =
      (record { came = a.came; takes = takes_same old mid new inbox between after a.came a.takes s.0; wanted = now (λ e. let f : Spent ≡ NoMemory = e in cc) }, s.1)
  stops_as asks wants old mid new inbox between after NoMemory a later s now = record {
    came = a.came;
    lost = s.0.came;
    given_are = a.takes.given_are ∙ ap (given a.came) s.0.given_are ∙ given_more a.came s.0.came (source.left new);
    unread_are = s.1 ∙ a.takes.unread_are;
  }
  stops_as asks wants old mid new inbox between after Full a later s now = absurd s

  pub err_nothing : {T : Type 0} (asks wants : List ℕ → Type 0) (old mid new : S) (inbox between after : Inbox) (why : Stopped) (r : Result T Stopped)
      → TakesWanted asks source old mid inbox between → source.faults old ≤ source.faults mid → StopsReading source mid new between after why
      → IfErr r (λ e. e ≡ why) → (¬ (why ≡ NoMemory) → IfErr r (λ _. wants (unread after))) → IfErr r (StopsTaking wants source old new inbox after)
  err_nothing asks wants old mid new inbox between after why (Ok found) a later s is now = tt
  err_nothing asks wants old mid new inbox between after why (Err e) a later s is now =
      subst (StopsTaking wants source old new inbox after) (sym is) (stops_as asks wants old mid new inbox between after why a later s now)

  -- what one read put behind the bytes of the inbox
  pub took_of : (old new : S) (inbox after : Inbox) (count : ℕ) → TakesMore source old new inbox.bytes.items after.bytes.items count
      → count ≤ 65536 → after.start ≡ inbox.start → inbox.start ≤ length inbox.bytes.items → allowance_of inbox ≡ count + allowance_of after → TakesOnce source old new inbox after count
  took_of old new inbox after count took few same inside allowed = record {
    came = took.piece;
    takes = record {
      given_are = took.bytes_are;
      unread_are =
          ap (λ (n : ℕ). drop n after.bytes.items) same
          ∙ ap (λ (l : List ℕ). drop inbox.start l) took.after_is
          ∙ drop-append-le inbox.start inbox.bytes.items took.piece inside;
      allowed = omega (arith, took.length_is);
    };
    count_is = took.length_is;
    short = few;
    ended = took.ended;
  }

  pub stops_of : (old new : S) (inbox after : Inbox) (why : Stopped) → StopsAppending source old new inbox.bytes.items after.bytes.items why
      → after.bytes.items ≡ inbox.bytes.items → after.start ≡ inbox.start → allowance_of after ≡ allowance_of inbox → StopsReading source old new inbox after why
  stops_of old new inbox after Fault fails kept same allowed = (
    record {
      given_are = sym fails.left_is ∙ given_none (source.left new);
      unread_are =
          ap (λ (n : ℕ). drop n after.bytes.items) same
          ∙ ap (λ (l : List ℕ). drop inbox.start l) fails.after_is
          ∙ sym (append-nil (unread inbox));
      allowed = omega arith;
    },
    fails.rose,
  )
  stops_of old new inbox after Spent fails kept same allowed = absurd fails
  stops_of old new inbox after NoMemory fails kept same allowed =
      (fails, ap (λ (n : ℕ). drop n after.bytes.items) same ∙ ap (λ (l : List ℕ). drop inbox.start l) kept)
  stops_of old new inbox after Full fails kept same allowed = fails
