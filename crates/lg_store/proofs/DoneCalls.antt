-- What was done for a call.
use Rattle.std.proofs.Common.{◌≡◌, ℤ, ℕ, List, [], sym, ap, subst, ◌∙◌}
use Rattle.std.specs.Prelude.{Option, Some, IfSome}
use Rattle.std.proofs.lemmas.List.{append-nil}
use Rattle.lg_types.specs.declared.calls.Call.{Call}
use Rattle.lg_types.specs.declared.calls.Call.TheVariants.{Unreadable}
use Rattle.lg_types.specs.declared.records.Entry.{Entry}
use Rattle.lg_types.specs.declared.records.Event.{Event}
use Rattle.lg_types.specs.declared.refusals.Refusal.{Refusal}
use Rattle.lg_types.specs.Log.{log}
use Rattle.lg_views.specs.declared.replies.Reply.{Reply}
use Rattle.lg_views.specs.Outcome.{outcome}
use Rattle.lg_views.specs.Replies.{refused, repeated}
use Rattle.lg_views.specs.Writes.{first_reply, up_to}
use Rattle.lg_book.specs.Reading.{find_entry}
use Rattle.lg_decide.specs.Decisions.{IsKept, named_ledger}
use Rattle.lg_store.specs.declared.done.Done.{Done}
use Rattle.lg_store.specs.Answering.{IsDone}

-- a reply without events that is the outcome
pub nothing_added : (events : List Event) (call : Call) (now : ℤ) (done : Done) → done.events ≡ 0 → (done.reply, []) ≡ outcome events call now → IsDone events call now events done
nothing_added events call now done count is = record { own = []; added = sym (append-nil events); count = count; reply = is }

-- a call that can't be read is refused
pub refusal_done : (events : List Event) (refusal : Refusal) (now : ℤ) (done : Done) → done.events ≡ 0 → done.reply ≡ refused refusal → IsDone events (Unreadable refusal) now events done
unfolding outcome
refusal_done events refusal now done count is = record { own = []; added = sym (append-nil events); count = count; reply = ap (λ (r : Reply). (r, [])) is }

if_found : (o : Option Entry) (P : Entry → Type 0) (e : Entry) → o ≡ Some e → IfSome o P → P e
if_found o P e is h = subst (λ (x : Option Entry). IfSome x P) is h

-- the first reply of a kept entry
pub kept_done : (events : List Event) (call : Call) (now : ℤ) (id : ℕ) (name : List ℕ) → name ≡ named_ledger call
    → IsKept (log events (named_ledger call)) (outcome events call now) id
    → (done : Done)
    → (done.events ≡ 0) × IfSome (find_entry (log events name) id) (λ e. done.reply ≡ repeated (first_reply (up_to (log events name) e) e))
    → IsDone events call now events done
kept_done events call now id name same kept done facts =
    let own : (done.events ≡ 0) × IfSome (find_entry (log events (named_ledger call)) id) (λ e. done.reply ≡ repeated (first_reply (up_to (log events (named_ledger call)) e) e)) = subst (λ (n : List ℕ). (done.events ≡ 0) × IfSome (find_entry (log events n) id) (λ e. done.reply ≡ repeated (first_reply (up_to (log events n) e) e))) same facts in
    nothing_added events call now done own.0
    (ap (λ (r : Reply). (r, [])) (if_found (find_entry (log events (named_ledger call)) id) (λ e. done.reply ≡ repeated (first_reply (up_to (log events (named_ledger call)) e) e)) kept.entry kept.found own.1) ∙ sym kept.first)
