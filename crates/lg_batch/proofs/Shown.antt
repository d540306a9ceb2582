-- The lines of the answers, as far as they are fed.
use Rattle.std.proofs.Common.{◌≡◌, ℕ, ◌+◌, ◌≤◌, ◌<◌, List, [], ◌∷◌, ◌++◌, length, drop, map, flat_map, refl, sym, ap, subst, ◌∙◌, append_assoc, arith, get_or, drop_of_length-le, inr}
use Rattle.std.specs.Prelude.{false, Result, Ok, Err, IsErr}
use Rattle.std.specs.List.{zip}
use Rattle.std.proofs.lemmas.List.{append-nil, drop_more}
use Rattle.lg_base.specs.Feeding.{Feeds}
use Rattle.lg_base.specs.declared.feed.Feed.{Ghosts as FeedGhosts}
use Rattle.lg_base.specs.declared.feed.Stop.{Stop}
use Rattle.lg_base.proofs.Feeds.{then, stop, nothing, same_text}
use Rattle.lg_store.specs.Answering.{Answers}
use Rattle.lg_types.specs.Log.{first_events}
use Rattle.lg_types.specs.declared.records.Event.{Event}
use Rattle.lg_types.specs.declared.refusals.Refusal.TheVariants.{OutOfMemory}
use Rattle.lg_views.specs.History.{AloneFrom}
use Rattle.lg_views.specs.Output.{answer_line, event_lines, script_output}
use Rattle.lg_views.specs.Replies.{refused}
use Rattle.lg_views.specs.declared.answers.Answer.{Answer}
use Rattle.lg_views.specs.declared.lines.ScriptLine.{ScriptLine}
use Rattle.lg_batch.specs.Runs.{built_line, FeedsAnswers, FeedsOutput}
use Rattle.lg_batch.proofs.History.{Continues, start, step, finish}

-- the lines of all answers are those of the answers so far, and then those of the answers to the lines that are left
pub record Shows (lines left : List ScriptLine) (answers : List Answer) (text : List ℕ) : Type 0 where
  pub on : (others : List Answer) → flat_map answer_line (zip lines (answers ++ others)) ≡ text ++ flat_map answer_line (zip left others)

shown : (lines left : List ScriptLine) (l : ScriptLine) (answers : List Answer) (a : Answer) (text : List ℕ)
    → Shows lines (l ∷ left) answers text → Shows lines left (answers ++ a ∷ []) (text ++ answer_line (l, a))
shown lines left l answers a text s = record {
  on = λ others.
      ap (λ (given : List Answer). flat_map answer_line (zip lines given)) (append_assoc answers (a ∷ []) others)
      ∙ s.on (a ∷ others)
      ∙ sym (append_assoc text (answer_line (l, a)) (flat_map answer_line (zip left others)));
}

-- some lines were answered, and the lines of their answers were fed
pub record Answering {F : Type 0} (feed : FeedGhosts F) (first now : F) (lines : List ScriptLine) (events : List Event) (left : List ScriptLine) : Type 0 where
  pub answers : List Answer
  pub text : List ℕ
  pub continues : Continues lines events left answers
  pub shows : Shows lines left answers text
  pub fed : Feeds {T = Unit {0}} {E = Stop} feed first now text (Ok tt)

-- before the first line
pub begins : {F : Type 0} (feed : FeedGhosts F) (first : F) (lines : List ScriptLine) (events : List Event) → events ≡ first_events → Answering feed first first lines events lines
begins feed first lines events e = record {
  answers = [];
  text = [];
  continues = start lines events e;
  shows = record { on = λ others. refl };
  fed = nothing feed.fed feed.stops feed.lent first tt;
}

-- one more line
more : {F : Type 0} (feed : FeedGhosts F) (first now after : F) (lines : List ScriptLine) (events new : List Event) (l : ScriptLine) (left : List ScriptLine) (a : Answer)
    → Answering feed first now lines events (l ∷ left) → Answers events l.call l.moment a new → Feeds {T = Unit {0}} {E = Stop} feed now after (answer_line (l, a)) (Ok tt)
    → Answering feed first after lines new left
more feed first now after lines events new l left a so h fed = record {
  answers = so.answers ++ a ∷ [];
  text = so.text ++ answer_line (l, a);
  continues = step lines left events new l so.answers a so.continues h;
  shows = shown lines left l so.answers a so.text so.shows;
  fed = then so.fed fed;
}

-- a line whose call wants memory
abbrev unanswered : ℕ → ScriptLine → Answer
unanswered front l = record { front = front; events = 0; reply = record { hit = false; content = (refused OutOfMemory).content } }

-- lines may all be answered so
none_added : (events : List Event) (n : ℕ) → n ≡ length events → (left : List ScriptLine) → AloneFrom events n (map built_line left) (map (unanswered n) left)
none_added events n is [] = is
none_added events n is (l ∷ left) = (
  refl,
  omega (arith, is),
  inr (refl, refl),
  subst (λ (m : ℕ). AloneFrom events m (map built_line left) (map (unanswered n) left)) (omega arith) (none_added events n is left),
)

-- a line's answer can't be fed whole, and the lines behind it are answered by want of memory
stops : {F : Type 0} (feed : FeedGhosts F) (first now after : F) (lines : List ScriptLine) (events new : List Event) (l : ScriptLine) (left : List ScriptLine) (a : Answer) (e : Stop) (r : Result (Unit {0}) Stop)
    → Answering feed first now lines events (l ∷ left) → Answers events l.call l.moment a new → Feeds {T = Unit {0}} feed now after (answer_line (l, a)) (Err e) → IsErr r
    → FeedsAnswers feed new lines first after r
stops feed first now after lines events new l left a e r so h fed failed =
    let others = map (unanswered (length new)) left in
    let c = step lines left events new l so.answers a so.continues h in (
      so.answers ++ a ∷ others,
      record {
        first = c.first;
        «from» =
            subst (λ (given : List Answer). AloneFrom new 1 (map built_line lines) given) (append_assoc so.answers (a ∷ []) others)
            (subst (λ (all : List Event). AloneFrom all 1 (map built_line lines) ((so.answers ++ a ∷ []) ++ others)) (append-nil new)
            (c.on [] others (subst (λ (all : List Event). AloneFrom all (length new) (map built_line left) others) (sym (append-nil new)) (none_added new (length new) refl left))));
      },
      same_text (sym (so.shows.on (a ∷ others))) (then so.fed (stop (flat_map answer_line (zip left others)) failed fed)),
    )

-- after the last line
ends : {F : Type 0} (feed : FeedGhosts F) (first now : F) (lines : List ScriptLine) (events : List Event) → Answering feed first now lines events []
    → FeedsAnswers {T = Unit {0}} {E = Stop} feed events lines first now (Ok tt)
ends feed first now lines events so = (
  so.answers,
  finish lines events so.answers so.continues,
  same_text (sym (append-nil so.text) ∙ sym (so.shows.on []) ∙ ap (λ (given : List Answer). flat_map answer_line (zip lines given)) (append-nil so.answers)) so.fed,
)

-- the same at a place of the lines
at_place : (lines : List ScriptLine) (i : ℕ) (l : ScriptLine) → i < length lines → l ≡ get_or lines i l → drop i lines ≡ l ∷ drop (i + 1) lines
at_place lines i l within is = drop_more lines i l within ∙ ap (λ (y : ScriptLine). y ∷ drop (i + 1) lines) (sym is)

pub more_at : {F : Type 0} (feed : FeedGhosts F) (first now after : F) (lines : List ScriptLine) (events new : List Event) (i : ℕ) (l : ScriptLine) (a : Answer)
    → Answering feed first now lines events (drop i lines) → i < length lines → l ≡ get_or lines i l
    → Answers events l.call l.moment a new → Feeds {T = Unit {0}} {E = Stop} feed now after (answer_line (l, a)) (Ok tt)
    → Answering feed first after lines new (drop (i + 1) lines)
more_at feed first now after lines events new i l a so within is h fed =
    more feed first now after lines events new l (drop (i + 1) lines) a (subst (λ (left : List ScriptLine). Answering feed first now lines events left) (at_place lines i l within is) so) h fed

pub stops_at : {F : Type 0} (feed : FeedGhosts F) (first now after : F) (lines : List ScriptLine) (events new : List Event) (i : ℕ) (l : ScriptLine) (a : Answer) (e : Stop) (r : Result (Unit {0}) Stop)
    → Answering feed first now lines events (drop i lines) → i < length lines → l ≡ get_or lines i l
    → Answers events l.call l.moment a new → Feeds {T = Unit {0}} feed now after (answer_line (l, a)) (Err e) → IsErr r
    → FeedsAnswers feed new lines first after r
stops_at feed first now after lines events new i l a e r so within is h fed failed =
    stops feed first now after lines events new l (drop (i + 1) lines) a e r (subst (λ (left : List ScriptLine). Answering feed first now lines events left) (at_place lines i l within is) so) h fed failed

pub ends_at : {F : Type 0} (feed : FeedGhosts F) (first now : F) (lines : List ScriptLine) (events : List Event) (i : ℕ) → Answering feed first now lines events (drop i lines) → length lines ≤ i
    → FeedsAnswers {T = Unit {0}} {E = Stop} feed events lines first now (Ok tt)
ends_at feed first now lines events i so past =
    ends feed first now lines events (subst (λ (left : List ScriptLine). Answering feed first now lines events left) (drop_of_length-le lines past) so)

-- the answers couldn't be fed whole
pub output_stops : {F U : Type 0} (feed : FeedGhosts F) (old new : F) (lines : List ScriptLine) (events : List Event) (e : Stop) (r : Result U Stop)
    → FeedsAnswers {T = Unit {0}} feed events lines old new (Err e) → IsErr r → FeedsOutput feed lines old new r
output_stops feed old new lines events e r h failed = (
  script_output events lines h.0,
  record { events = events; answers = h.0; alone = h.1; output_is = refl },
  stop (event_lines events) failed h.2,
)

-- the answers were fed whole, and then the events
pub output_ends : {F U E : Type 0} (feed : FeedGhosts F) (old now new : F) (lines : List ScriptLine) (events : List Event) (u : Unit {0}) (r : Result U E)
    → FeedsAnswers {E = E} feed events lines old now (Ok u) → Feeds feed now new (event_lines events) r → FeedsOutput feed lines old new r
output_ends feed old now new lines events u r h fed = (
  script_output events lines h.0,
  record { events = events; answers = h.0; alone = h.1; output_is = refl },
  then h.2 fed,
)
