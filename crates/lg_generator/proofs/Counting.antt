-- Counting the accepted answers of a run, line by line.
use Rattle.std.proofs.Common.{◌≡◌, ℕ, ◌+◌, ◌≤◌, ◌<◌, Bool, true, false, List, [], ◌∷◌, ◌++◌, length, drop, refl, sym, ap, subst, ◌∙◌, arith, get_or, drop_of_length-le, add-zero}
use Rattle.std.specs.Prelude.{if◌then◌else◌, cond}
use Rattle.std.specs.List.{sum_by}
use Rattle.std.proofs.lemmas.List.{drop_more}
use Rattle.std.proofs.lemmas.List.Sums.{sum_by-append, sum_by-cons}
use Rattle.lg_batch.proofs.History.{Continues, start, step, finish}
use Rattle.lg_generator.specs.MadeRuns.{Accepts}
use Rattle.lg_generator.specs.Summaries.{is_accepted, accepted}
use Rattle.lg_store.specs.Answering.{Answers}
use Rattle.lg_types.specs.Log.{first_events}
use Rattle.lg_types.specs.declared.records.Event.{Event}
use Rattle.lg_views.specs.declared.answers.Answer.{Answer}
use Rattle.lg_views.specs.declared.lines.ScriptLine.{ScriptLine}

abbrev one_if : Answer → ℕ
one_if a = (if is_accepted a then 1 else 0)

accepted_more : (answers : List Answer) (a : Answer) → accepted (answers ++ a ∷ []) ≡ accepted answers + one_if a
accepted_more answers a = sum_by-append one_if answers (a ∷ []) ∙ ap (λ (n : ℕ). accepted answers + n) (sum_by-cons one_if a [] ∙ add-zero (one_if a))

-- some lines were answered, and so many answers are no refusals
pub record Counting (lines : List ScriptLine) (events : List Event) (left : List ScriptLine) (count place : ℕ) : Type 0 where
  pub answers : List Answer
  pub continues : Continues lines events left answers
  pub count_is : count ≡ accepted answers
  pub few : count ≤ place

pub begins : (lines : List ScriptLine) (events : List Event) → events ≡ first_events → Counting lines events lines 0 0
begins lines events e = record { answers = []; continues = start lines events e; count_is = refl; few = omega arith }

at_place : (lines : List ScriptLine) (i : ℕ) (l : ScriptLine) → i < length lines → l ≡ get_or lines i l → drop i lines ≡ l ∷ drop (i + 1) lines
at_place lines i l within is = drop_more lines i l within ∙ ap (λ (y : ScriptLine). y ∷ drop (i + 1) lines) (sym is)

pub more_at : (lines : List ScriptLine) (events new : List Event) (i : ℕ) (l : ScriptLine) (a : Answer) (count one : ℕ)
    → Counting lines events (drop i lines) count i → i < length lines → l ≡ get_or lines i l → Answers events l.call l.moment a new
    → one ≡ one_if a → one ≤ 1 → Counting lines new (drop (i + 1) lines) (count + one) (i + 1)
more_at lines events new i l a count one so within is h e small = record {
  answers = so.answers ++ a ∷ [];
  continues =
      step lines (drop (i + 1) lines) events new l so.answers a
      (subst (λ (left : List ScriptLine). Continues lines events left so.answers) (at_place lines i l within is) so.continues) h;
  count_is = ap (λ (n : ℕ). n + one) so.count_is ∙ ap (λ (n : ℕ). accepted so.answers + n) e ∙ sym (accepted_more so.answers a);
  few = omega (arith, so.few, small);
}

pub ends_at : (lines : List ScriptLine) (events : List Event) (i count : ℕ) → Counting lines events (drop i lines) count i → length lines ≤ i → Accepts events lines count
ends_at lines events i count so past = (
  so.answers,
  finish lines events so.answers (subst (λ (left : List ScriptLine). Continues lines events left so.answers) (drop_of_length-le lines past) so.continues),
  so.count_is,
)
