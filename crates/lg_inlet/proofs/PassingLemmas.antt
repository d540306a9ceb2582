-- One turn of passing a body on.
use Rattle.std.proofs.Common.{◌≡◌, ℕ, ◌+◌, ◌-◌, ◌<◌, ◌≤◌, min, List, [], ◌∷◌, ◌++◌, length, take, drop, inl, inr, refl, sym, ap, ◌∙◌, subst, arith, append_assoc, append-nil, length-append}
use Rattle.std.specs.Prelude.{true, false, Result, Ok, Err, IsErr}
use Rattle.std.proofs.lemmas.List.{take-append-drop, length-take-le, length-drop}
use Rattle.lg_base.specs.Growth.{Gives}
use Rattle.lg_base.specs.Told.{given}
use Rattle.lg_base.specs.declared.feed.Feed.{Ghosts as FeedGhosts}
use Rattle.lg_base.specs.declared.feed.Stop.{Stop}
use Rattle.lg_base.specs.declared.source.Source.{Ghosts as SourceGhosts}
use Rattle.lg_base.proofs.Feeds.{nothing}
use Rattle.lg_inlet.specs.Bodies.{IsShort, Passes, PassesPart}
use Rattle.lg_inlet.specs.Taking.{Takes, TakesOnce}
use Rattle.lg_inlet.specs.Unread.{unread, allowance_of}
use Rattle.lg_inlet.specs.declared.inbox.Inbox.{Inbox}
use Rattle.lg_inlet.proofs.TakingLemmas.{given_none, given_more}

-- a list of no elements
pub empty_of : (l : List ℕ) → length l ≡ 0 → l ≡ []
empty_of [] e = refl
empty_of (x ∷ l) e = absurd (omega arith)

-- what a feed answered, by its two cases
pub fed_whole : {F : Type 0} {fed : F → List ℕ → Type 0} {stops lent : F → ℕ} {s t : F} {text : List ℕ} (r : Result (Unit {0}) Stop)
    → ¬ (IsErr r) → Gives fed stops lent s t text r → Gives {T = Unit {0}} {E = Stop} fed stops lent s t text (Ok tt)
fed_whole (Ok u) other g = g
fed_whole (Err e) other g = absurd (other refl)

pub fed_part : {F : Type 0} {fed : F → List ℕ → Type 0} {stops lent : F → ℕ} {s t : F} {text : List ℕ} (r : Result (Unit {0}) Stop)
    → IsErr r → Gives fed stops lent s t text r → Gives {T = Unit {0}} {E = Stop} fed stops lent s t text (Err (record {}))
fed_part (Ok u) failed g = absurd (let f : false ≡ true = failed in cc)
fed_part (Err e) failed g = g

module _ {S F : Type 0} (source : SourceGhosts S) (feed : FeedGhosts F) where
  -- so much of the body was passed on, and so many bytes of it are still wanted
  pub record PassedSoFar (old new : S) (to fed : F) (inbox after : Inbox) (size wanted : ℕ) : Type 0 where
    pub body : List ℕ
    pub passes : Passes source old new inbox after size body
    pub fed_is : Gives {T = Unit {0}} {E = Stop} feed.fed feed.stops feed.lent to fed body (Ok tt)
    pub left : length body + wanted ≡ size

  pub passed_none : (s : S) (to : F) (inbox : Inbox) (size : ℕ) → PassedSoFar s s to to inbox inbox size size
  passed_none s to inbox size = record {
    body = [];
    passes = record {
      came = [];
      given_are = given_none (source.left s);
      allowed = omega arith;
      body_is = append-nil (unread inbox);
      wanted = inl refl;
    };
    fed_is = nothing feed.fed feed.stops feed.lent to tt;
    left = omega arith;
  }

  -- a part of what is unread goes to the feed and out of the inbox
  pub passes_part : (old new : S) (inbox between after : Inbox) (size part : ℕ) (body : List ℕ)
      → Passes source old new inbox between size body → unread after ≡ drop part (unread between) → allowance_of after ≡ allowance_of between
      → Passes source old new inbox after size (body ++ take part (unread between))
  passes_part old new inbox between after size part body p rest same = record {
    came = p.came;
    given_are = p.given_are;
    allowed = omega (arith, p.allowed);
    body_is =
        p.body_is
        ∙ ap (λ (l : List ℕ). body ++ l) (sym (take-append-drop part (unread between)))
        ∙ sym (append_assoc body (take part (unread between)) (drop part (unread between)))
        ∙ ap (λ (l : List ℕ). (body ++ take part (unread between)) ++ l) (sym rest);
    wanted = p.wanted;
  }

  -- a read, where all that came was passed on and more is wanted
  pub passes_more : (old mid new : S) (inbox between after : Inbox) (size count : ℕ) (body : List ℕ)
      → PassesPart source old mid inbox between size body → TakesOnce source mid new between after count
      → Passes source old new inbox after size body
  passes_more old mid new inbox between after size count body p more = record {
    came = p.passes.came ++ more.came;
    given_are = p.passes.given_are ∙ ap (given p.passes.came) more.takes.given_are ∙ given_more p.passes.came more.came (source.left new);
    allowed = omega (arith, p.passes.allowed, more.takes.allowed, length-append p.passes.came more.came);
    body_is =
        sym (append_assoc (unread inbox) p.passes.came more.came)
        ∙ ap (λ (l : List ℕ). l ++ more.came) p.passes.body_is
        ∙ append_assoc body (unread between) more.came
        ∙ ap (λ (l : List ℕ). body ++ l) (sym more.takes.unread_are);
    wanted =
        let all : unread inbox ++ p.passes.came ≡ body = p.passes.body_is ∙ ap (λ (l : List ℕ). body ++ l) p.none ∙ append-nil body in
        inr (p.passes.came, more.came, refl, subst (IsShort size) (sym all) p.short, omega (arith, more.count_is, more.short));
  }

  -- a read that gave nothing
  pub passes_same : (old mid new : S) (inbox between after : Inbox) (size : ℕ) (body : List ℕ)
      → PassesPart source old mid inbox between size body → Takes source mid new between after [] → PassesPart source old new inbox after size body
  passes_same old mid new inbox between after size body p same = record {
    passes = record {
      came = p.passes.came;
      given_are = p.passes.given_are ∙ ap (given p.passes.came) (same.given_are ∙ sym (given_none (source.left new)));
      allowed = omega (arith, p.passes.allowed, same.allowed);
      body_is = p.passes.body_is ∙ ap (λ (l : List ℕ). body ++ l) (sym (same.unread_are ∙ append-nil (unread between)));
      wanted = p.passes.wanted;
    };
    short = p.short;
    none = same.unread_are ∙ append-nil (unread between) ∙ p.none;
  }

  -- where the body isn't whole yet, all that was unread was passed on
  pub passed_part : (old new : S) (inbox between after : Inbox) (size wanted part : ℕ) (body : List ℕ)
      → Passes source old new inbox between size body → unread after ≡ drop part (unread between) → allowance_of after ≡ allowance_of between
      → length body + wanted ≡ size → part ≡ min wanted (length (unread between)) → 0 < wanted - part
      → PassesPart source old new inbox after size (body ++ take part (unread between))
  passed_part old new inbox between after size wanted part body p rest same left is more =
      let fits : part ≤ length (unread between) = omega arith in
      let count = length-take-le part (unread between) fits in
      record {
        passes = passes_part old new inbox between after size part body p rest same;
        short = omega (arith, count, length-append body (take part (unread between)));
        none = rest ∙ empty_of (drop part (unread between)) (omega (arith, length-drop part (unread between)));
      }
