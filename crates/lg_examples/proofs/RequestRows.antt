-- The worked examples of requests, each by its answers.
use Rattle.std.proofs.Common.{[], inl, refl, Some, None, false}
use Rattle.std.specs.Prelude.{Ok, Err, codes}
use Rattle.lg_containers.specs.CountedGrammar.{IsLedgerName}
use Rattle.lg_types.specs.declared.calls.Call.TheVariants as call
use Rattle.lg_types.specs.declared.queries.Read.TheVariants as read
use Rattle.lg_types.specs.declared.refusals.Refusal.{Refusal}
use Rattle.lg_types.specs.declared.refusals.Refusal.TheVariants.{NoRoute, Method, NoPostings, Script}
use Rattle.lg_readings.specs.Answers.{Answer, Then}
use Rattle.lg_examples.specs.RequestRows.{computed, no_postings, script, NowhereAsked, EmptyNameAsked, MethodAsked, NoPostingsAsked, ScriptAsked, StatsAsked, TwoOperators, NestedFault}

-- a reading that gives a value and goes on, and one that refuses
on : {A B : Type 0} {first : Answer A → Type 0} {next : A → Answer B → Type 0} {r : Answer B} (a : A) → first (Ok a) → next a r → Then first next r
on a f n = record { answer = Ok a; is_first = f; goes_on = n }

stops : {A B : Type 0} {first : Answer A → Type 0} {next : A → Answer B → Type 0} (refusal : Refusal) → first (Err refusal) → Then first next (Err refusal)
stops refusal f = record { answer = Err refusal; is_first = f; goes_on = refl }

pub nowhere : NowhereAsked
unfolding computed
nowhere = (Err NoRoute, refl, refl)

pub empty_name : EmptyNameAsked
unfolding computed
empty_name = (Err NoRoute, refl, refl)

pub wrong_method : MethodAsked
unfolding computed
wrong_method = (Err Method, refl, refl)

default_is_name : IsLedgerName (codes "default")
default_is_name = refl

pub no_postings_given : NoPostingsAsked
unfolding computed
no_postings_given = (
  Err NoPostings,
  on (codes "default") (inl (default_is_name, refl)) (on false refl (on tt refl (on tt refl (on None refl (on no_postings refl
      (stops NoPostings (on _ refl (on tt refl (stops NoPostings (on [] refl refl)))))))))),
  refl,
)

pub script_given : ScriptAsked
unfolding computed
script_given = (
  Err Script,
  on (codes "default") (inl (default_is_name, refl)) (on false refl (on tt refl (on tt refl (on None refl (on script refl
      (stops Script (on _ refl (stops Script refl)))))))),
  refl,
)

pub stats_asked : StatsAsked
unfolding computed
stats_asked = (
  Ok (call.Read (codes "default") read.Stats),
  on (codes "default") (inl (default_is_name, refl)) (on tt refl refl),
  refl,
)

pub two_operators : TwoOperators
two_operators = refl

pub nested_fault : NestedFault
unfolding computed
nested_fault = (None, Some (codes "$and[1].$or"), refl, (Some (codes "$and[1].$or"), None, refl, refl, refl), refl)
