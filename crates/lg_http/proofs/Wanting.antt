-- Bytes that were taken for one reason, and then for another.
use Rattle.std.proofs.Common.{ℕ, ◌≤◌, List, [], ◌++◌, inl, inr, ◌⊎◌, sym, ap, ◌∙◌, subst, arith, append_assoc, append-nil}
use Rattle.std.specs.Prelude.{Result, Ok, Err, IfOk, IfErr}
use Rattle.lg_base.specs.Growth.{Rose}
use Rattle.lg_base.specs.Told.{given}
use Rattle.lg_base.specs.declared.source.Source.{Ghosts as SourceGhosts}
use Rattle.lg_inlet.specs.Taking.{IsWanted, TakesWanted, TakesTooFew, LosesSome, StopsTaking}
use Rattle.lg_inlet.specs.Unread.{unread}
use Rattle.lg_inlet.specs.declared.inbox.Inbox.{Inbox}
use Rattle.lg_inlet.specs.declared.stopped.Stopped.{Stopped}
use Rattle.lg_inlet.specs.declared.stopped.Stopped.TheVariants.{Fault, Spent, NoMemory, Full}
use Rattle.lg_inlet.proofs.TakingLemmas.{given_none, given_more, takes_more}

-- what was wanted so was wanted otherwise too
is_wanted_weaker : (A B : List ℕ → Type 0) (before came : List ℕ) → ((front : List ℕ) → A (before ++ front) → B (before ++ front))
    → IsWanted A before came → IsWanted B before came
is_wanted_weaker A B before came weaker (inl none) = inl none
is_wanted_weaker A B before came weaker (inr w) = inr (w.0, w.1, w.2, weaker w.0 w.3, w.4)

-- first bytes were wanted, and then more
is_wanted_then : (A B : List ℕ → Type 0) (before first second : List ℕ) → IsWanted A before first → IsWanted B (before ++ first) second
    → IsWanted (λ bytes. A bytes ⊎ B bytes) before (first ++ second)
is_wanted_then A B before first second a (inr w) =
    inr (first ++ w.0, w.1, ap (λ (l : List ℕ). first ++ l) w.2 ∙ sym (append_assoc first w.0 w.1), inr (subst B (append_assoc before first w.0) w.3), w.4)
is_wanted_then A B before first second (inl none) (inl nothing) =
    inl (ap (λ (l : List ℕ). first ++ l) nothing ∙ append-nil first ∙ none)
is_wanted_then A B before first second (inr w) (inl nothing) =
    inr (w.0, w.1, ap (λ (l : List ℕ). first ++ l) nothing ∙ append-nil first ∙ w.2, inl w.3, w.4)

module _ {S : Type 0} (source : SourceGhosts S) where
  pub wanted_weaker : (A B : List ℕ → Type 0) (old new : S) (inbox after : Inbox)
      → ((front : List ℕ) → A (unread inbox ++ front) → B (unread inbox ++ front))
      → TakesWanted A source old new inbox after → TakesWanted B source old new inbox after
  wanted_weaker A B old new inbox after weaker t = record {
    came = t.came;
    takes = t.takes;
    wanted = is_wanted_weaker A B (unread inbox) t.came weaker t.wanted;
  }

  too_few_weaker : (A B : List ℕ → Type 0) (old new : S) (inbox after : Inbox)
      → ((front : List ℕ) → A (unread inbox ++ front) → B (unread inbox ++ front))
      → TakesTooFew A source old new inbox after → TakesTooFew B source old new inbox after
  too_few_weaker A B old new inbox after weaker t = record {
    came = t.came;
    takes = t.takes;
    wanted = subst B (sym t.takes.unread_are) (weaker t.came (subst A t.takes.unread_are t.wanted));
  }

  pub stops_weaker : (A B : List ℕ → Type 0) (old new : S) (inbox after : Inbox) (why : Stopped)
      → ((front : List ℕ) → A (unread inbox ++ front) → B (unread inbox ++ front))
      → StopsTaking A source old new inbox after why → StopsTaking B source old new inbox after why
  stops_weaker A B old new inbox after Fault weaker s = (too_few_weaker A B old new inbox after weaker s.0, s.1)
  stops_weaker A B old new inbox after Spent weaker s = (too_few_weaker A B old new inbox after weaker s.0, s.1)
  stops_weaker A B old new inbox after NoMemory weaker s = s
  stops_weaker A B old new inbox after Full weaker s = absurd s

  -- nothing was taken
  pub loses_none : (s : S) (inbox : Inbox) → LosesSome source s s inbox inbox
  loses_none s inbox = record { came = []; lost = []; given_are = given_none (source.left s); unread_are = sym (append-nil (unread inbox)) }

  pub wanted_then : (A B : List ℕ → Type 0) (old mid new : S) (inbox between after : Inbox)
      → TakesWanted A source old mid inbox between → TakesWanted B source mid new between after
      → TakesWanted (λ bytes. A bytes ⊎ B bytes) source old new inbox after
  wanted_then A B old mid new inbox between after a b = record {
    came = a.came ++ b.came;
    takes = takes_more source old mid new inbox between after a.came b.came a.takes b.takes;
    wanted = is_wanted_then A B (unread inbox) a.came b.came a.wanted (subst (λ (l : List ℕ). IsWanted B l b.came) a.takes.unread_are b.wanted);
  }

  too_few_then : (W A B : List ℕ → Type 0) (old mid new : S) (inbox between after : Inbox)
      → TakesWanted W source old mid inbox between → TakesTooFew B source mid new between after
      → TakesTooFew (λ bytes. A bytes ⊎ B bytes) source old new inbox after
  too_few_then W A B old mid new inbox between after a b = record {
    came = a.came ++ b.came;
    takes = takes_more source old mid new inbox between after a.came b.came a.takes b.takes;
    wanted = inr b.wanted;
  }

  pub stops_then : (W A B : List ℕ → Type 0) (old mid new : S) (inbox between after : Inbox) (why : Stopped)
      → TakesWanted W source old mid inbox between → source.faults old ≤ source.faults mid → StopsTaking B source mid new between after why
      → StopsTaking (λ bytes. A bytes ⊎ B bytes) source old new inbox after why
  stops_then W A B old mid new inbox between after Fault a later s =
      (too_few_then W A B old mid new inbox between after a s.0, let rose : Rose (source.faults mid) (source.faults new) = s.1 in omega arith)
  stops_then W A B old mid new inbox between after Spent a later s = (too_few_then W A B old mid new inbox between after a s.0, s.1)
  stops_then W A B old mid new inbox between after NoMemory a later s = record {
    came = a.came ++ s.came;
    lost = s.lost;
    given_are =
        a.takes.given_are
        ∙ ap (given a.came) s.given_are
        ∙ given_more a.came (s.came ++ s.lost) (source.left new)
        ∙ ap (λ (l : List ℕ). given l (source.left new)) (sym (append_assoc a.came s.came s.lost));
    unread_are = s.unread_are ∙ ap (λ (l : List ℕ). l ++ s.came) a.takes.unread_are ∙ append_assoc (unread inbox) a.came s.came;
  }
  stops_then W A B old mid new inbox between after Full a later s = absurd s

  -- the same of what a call answered
  pub ok_weaker : {T E : Type 0} (A B : List ℕ → Type 0) (old new : S) (inbox after : Inbox) (r : Result T E)
      → ((front : List ℕ) → A (unread inbox ++ front) → B (unread inbox ++ front))
      → IfOk r (λ _. TakesWanted A source old new inbox after) → IfOk r (λ _. TakesWanted B source old new inbox after)
  ok_weaker A B old new inbox after (Ok u) weaker t = wanted_weaker A B old new inbox after weaker t
  ok_weaker A B old new inbox after (Err e) weaker t = tt

  pub err_weaker : {T : Type 0} (A B : List ℕ → Type 0) (old new : S) (inbox after : Inbox) (r : Result T Stopped)
      → ((front : List ℕ) → A (unread inbox ++ front) → B (unread inbox ++ front))
      → IfErr r (StopsTaking A source old new inbox after) → IfErr r (StopsTaking B source old new inbox after)
  err_weaker A B old new inbox after (Ok u) weaker s = tt
  err_weaker A B old new inbox after (Err why) weaker s = stops_weaker A B old new inbox after why weaker s

  pub ok_then : {T E : Type 0} (A B : List ℕ → Type 0) (old mid new : S) (inbox between after : Inbox) (r : Result T E)
      → TakesWanted A source old mid inbox between → IfOk r (λ _. TakesWanted B source mid new between after)
      → IfOk r (λ _. TakesWanted (λ bytes. A bytes ⊎ B bytes) source old new inbox after)
  ok_then A B old mid new inbox between after (Ok u) a b = wanted_then A B old mid new inbox between after a b
  ok_then A B old mid new inbox between after (Err e) a b = tt

  pub err_then : {T : Type 0} (W A B : List ℕ → Type 0) (old mid new : S) (inbox between after : Inbox) (r : Result T Stopped)
      → TakesWanted W source old mid inbox between → source.faults old ≤ source.faults mid → IfErr r (StopsTaking B source mid new between after)
      → IfErr r (StopsTaking (λ bytes. A bytes ⊎ B bytes) source old new inbox after)
  err_then W A B old mid new inbox between after (Ok u) a later s = tt
  err_then W A B old mid new inbox between after (Err why) a later s = stops_then W A B old mid new inbox between after why a later s
