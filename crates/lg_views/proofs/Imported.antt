-- What lines come to is faultless, and a log that is imported answers alike.
use Rattle.std.proofs.Common.{◌≡◌, ℕ, ℤ, Bool, true, not, ◌||◌, List, [], ◌∷◌, ◌++◌, map, Option, Some, None, refl, sym, ap, subst, ◌∙◌}
use Rattle.std.specs.Prelude.{if◌then◌else◌}
use Rattle.std.specs.Str.{bytes_eq}
use Rattle.std.proofs.lemmas.List.Folds.{list_any-append}
use Rattle.lg_types.specs.declared.calls.Batch.{Batch}
use Rattle.lg_types.specs.declared.calls.Batch.TheVariants.{Ready, Bad}
use Rattle.lg_types.specs.declared.calls.Call.TheVariants as call
use Rattle.lg_types.specs.declared.queries.Read.{Read as ReadOf}
use Rattle.lg_types.specs.declared.queries.Read.TheVariants as read
use Rattle.lg_types.specs.declared.records.Entry.{Entry}
use Rattle.lg_types.specs.declared.records.Event.{Event}
use Rattle.lg_types.specs.declared.records.Event.TheVariants.{Logged}
use Rattle.lg_types.specs.declared.refusals.ImportCause.{ImportCause}
use Rattle.lg_types.specs.Chain.{own_hash, line_hash}
use Rattle.lg_types.specs.Log.{log, is_made_as, is_there}
use Rattle.lg_views.specs.Import.{Reading, ReadLine, Read, Unread, NumberedLine, first_reading, causes, fault, line_causes, line_fault, chained, read_on, LinesRead, ReadTo, BadAt, unless_bad, read_line, read_lines_from, batch_of, FollowsFrom, import_answer}
use Rattle.lg_views.specs.Outcome.{Task, ToWrite, ToBulk, ToImport, ToRead, answer_on, on_ledger, no_ledger, in_ledger, read_answer, outcome, call_on, IsOfLog, AnswerAlike}
use Rattle.lg_views.specs.Laws.{ChecksFaultless, ImportedAnswersAlike, AnsweredByOneLog}
use Rattle.lg_views.proofs.TestAnswers.{same_bytes, not_same_bytes, AllFalse, no_cause, all_false}
use Rattle.lg_views.proofs.Follows.{follows-join}
use Rattle.lg_views.proofs.Outcomes.{log-append, log-logged}

hash-of_chained : (g : List Entry) (e : Entry) → own_hash g (chained g e) ≡ own_hash g e
unfolding line_hash
hash-of_chained g e = refl

-- an entry whose line has no fault may follow, with the hash of the chain
chained-follows : (recompute : Bool) (r : Reading) (form : ℕ) (e : Entry) → AllFalse (line_causes recompute r form e) → fault r.entries (chained r.entries e) ≡ None
chained-follows recompute r form e h =
    no_cause (causes r.entries (chained r.entries e))
    (h.1.0, (h.1.1.0, (ap (λ x. not (bytes_eq (own_hash r.entries e) x)) (hash-of_chained r.entries e) ∙ not_same_bytes (own_hash r.entries e), h.1.1.1.1)))

same_entries : (g h : List Entry) → ◌≡◌ {A = Batch} (Ready g) (Ready h) → g ≡ h
same_entries g h e = ap entries_of e
  where
    entries_of : Batch → List Entry
    entries_of (Ready es) = es
    entries_of (Bad line cause) = g

line-follows : (recompute : Bool) (r : Reading) (l : ReadLine) → line_fault recompute r l ≡ None → FollowsFrom [] r.entries → FollowsFrom [] (read_on r l).entries
line-follows recompute r (Read form e) h f = follows-join [] r.entries (chained r.entries e ∷ []) f (chained-follows recompute r form e (all_false (line_causes recompute r form e) h), tt)
line-follows recompute r (Unread cause) h f = f

-- what was read so far is faultless
abbrev FollowsTo : LinesRead → Type 0
FollowsTo (ReadTo r) = FollowsFrom [] r.entries
FollowsTo (BadAt number cause) = Unit {0}

unless-follows : (number : ℕ) (r : Reading) (o : Option ImportCause) → (o ≡ None → FollowsFrom [] r.entries) → FollowsTo (unless_bad number r o)
unless-follows number r None h = h refl
unless-follows number r (Some cause) h = tt

read-follows : (recompute : Bool) (s : LinesRead) (l : NumberedLine) → FollowsTo s → FollowsTo (read_line recompute s l)
read-follows recompute (ReadTo r) l f = unless-follows l.number (read_on r l.line) (line_fault recompute r l.line) (λ h. line-follows recompute r l.line h f)
read-follows recompute (BadAt number cause) l f = tt

batch-follows : (s : LinesRead) (g : List Entry) → FollowsTo s → batch_of s ≡ Ready g → FollowsFrom [] g
batch-follows (ReadTo r) g f h = subst (FollowsFrom []) (same_entries r.entries g h) f
batch-follows (BadAt number cause) g f h = absurd (let e : ◌≡◌ {A = Batch} (Bad number cause) (Ready g) = h in cc)

checked-follows : (recompute : Bool) (s : LinesRead) (ls : List NumberedLine) (g : List Entry) → FollowsTo s → batch_of (read_lines_from recompute s ls) ≡ Ready g → FollowsFrom [] g
checked-follows recompute s [] g f h = batch-follows s g f h
checked-follows recompute s (l ∷ ls) g f h = checked-follows recompute (read_line recompute s l) ls g (read-follows recompute s l f) h

pub checks_faultless : ChecksFaultless
checks_faultless recompute ls g h = record { follows = checked-follows recompute (ReadTo first_reading) ls g tt h }

-- ---- answers

pub answered_by_one_log : AnsweredByOneLog
answered_by_one_log task now ledger events more there same =
    ap (λ b. if b then on_ledger ledger (answer_on task now (log more ledger)) else no_ledger ledger) there
    ∙ ap (λ g. if is_there events ledger then on_ledger ledger (answer_on task now g) else no_ledger ledger) same

import-events : (events : List Event) (copy : List ℕ) (g : List Entry) (now : ℤ) → is_there events copy ≡ true → log events copy ≡ [] → (outcome events (call.Import copy (Ready g)) now).1 ≡ map (Logged copy) g
unfolding outcome
import-events events copy g now there empty =
    ap (λ b. (if b then on_ledger copy (import_answer (log events copy) (Ready g)) else no_ledger copy).1) there
    ∙ ap (λ l. map (Logged copy) (import_answer l (Ready g)).1) empty

stays-there : (events more : List Event) (ledger : List ℕ) → is_there events ledger ≡ true → is_there (events ++ more) ledger ≡ true
stays-there events more ledger h = list_any-append (is_made_as ledger) events more ∙ ap (λ b. b || is_there more ledger) h

answered-in : (events : List Event) (ledger : List ℕ) (task : Task) (now : ℤ) → is_there events ledger ≡ true → in_ledger events ledger task now ≡ on_ledger ledger (answer_on task now (log events ledger))
answered-in events ledger task now there = ap (λ b. if b then on_ledger ledger (answer_on task now (log events ledger)) else no_ledger ledger) there

read-in : (events : List Event) (ledger : List ℕ) (r : ReadOf) (now : ℤ) → IsOfLog (ToRead r) → read_answer events ledger r now ≡ in_ledger events ledger (ToRead r) now
read-in events ledger read.Ledger now h = absurd h
read-in events ledger (read.Account a p x) now h = refl
read-in events ledger (read.Transaction i x p) now h = refl
read-in events ledger (read.Accounts q) now h = refl
read-in events ledger (read.Transactions q) now h = refl
read-in events ledger (read.Logs q) now h = refl
read-in events ledger (read.Volumes q) now h = refl
read-in events ledger (read.Aggregate f p b) now h = refl
read-in events ledger read.Stats now h = refl
read-in events ledger read.Export now h = refl

outcome-in : (events : List Event) (ledger : List ℕ) (task : Task) (now : ℤ) → IsOfLog task → outcome events (call_on ledger task) now ≡ in_ledger events ledger task now
unfolding outcome
outcome-in events ledger (ToWrite key write) now h = refl
outcome-in events ledger (ToBulk elements atomic go_on) now h = refl
outcome-in events ledger (ToImport batch) now h = refl
outcome-in events ledger (ToRead r) now h = read-in events ledger r now h

answer-there : (events : List Event) (ledger : List ℕ) (task : Task) (now : ℤ) → is_there events ledger ≡ true → IsOfLog task → outcome events (call_on ledger task) now ≡ on_ledger ledger (answer_on task now (log events ledger))
answer-there events ledger task now there h = outcome-in events ledger task now h ∙ answered-in events ledger task now there

same_logs : (events others : List Event) (ledger copy : List ℕ) → is_there events ledger ≡ true → is_there others copy ≡ true → log events ledger ≡ log others copy → AnswerAlike events ledger others copy
same_logs events others ledger copy there here same = record {
  logs = same;
  answers = λ task now h. record {
    answer = answer_on task now (log events ledger);
    here = answer-there events ledger task now there h;
    there = answer-there others copy task now here h ∙ ap (λ g. on_ledger copy (answer_on task now g)) (sym same);
  };
}

imported-log : (events : List Event) (copy : List ℕ) (g : List Entry) (now : ℤ) → is_there events copy ≡ true → log events copy ≡ [] → log (events ++ (outcome events (call.Import copy (Ready g)) now).1) copy ≡ g
imported-log events copy g now there empty =
    ap (λ more. log (events ++ more) copy) (import-events events copy g now there empty)
    ∙ log-append events (map (Logged copy) g) copy
    ∙ ap (λ l. l ++ log (map (Logged copy) g) copy) empty
    ∙ log-logged copy copy g
    ∙ ap (λ b. if b then g else []) (same_bytes copy)

pub imported_answers_alike : ImportedAnswersAlike
imported_answers_alike events others ledger copy now there here empty =
    let new : List Event = (outcome others (call.Import copy (Ready (log events ledger))) now).1 in
    same_logs events (others ++ new) ledger copy there (stays-there others new copy here) (sym (imported-log others copy (log events ledger) now here empty))
