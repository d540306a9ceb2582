-- How the readings of a line compose.
use Rattle.std.proofs.Common.{◌≡◌, ℕ, List, Option, Some, None, refl, sym, subst, inl, inr}
use Rattle.std.specs.Prelude.{Result, Ok, Err}
use Rattle.std.specs.Result.{IsErrAnd}
use Rattle.lg_codec.specs.Stops.{StopsWith}
use Rattle.lg_codec.specs.declared.stop.CodecStop.{CodecStop}
use Rattle.lg_codec.specs.declared.stop.CodecStop.TheVariants.{Refused, NoMemory}
use Rattle.lg_json.specs.Fault.{MayFail}
use Rattle.lg_json.specs.Tree.{Tree}
use Rattle.lg_json.specs.declared.json.JsonFault.{JsonFault}
use Rattle.lg_json.specs.declared.json.JsonFault.TheVariants as faults
use Rattle.lg_types.specs.declared.refusals.Refusal.{Refusal}
use Rattle.lg_readings.specs.Answers.{Answer, Then}
use Rattle.lg_readings.specs.Checked.{Shows}
use Rattle.lg_readings.specs.Script.{line_fault, IsLineFault}
use Rattle.lg_batch.specs.Lines.{ContentBy, LineAnswer}
use Rattle.lg_batch.specs.Reads.{ReadsAs, stop_of, content_seen}
use Rattle.lg_batch.specs.declared.content.LineContent.{LineContent as Content}

-- a reading that gave a value, and the one after it
pub onward : {A B C D : Type 0} {f : C → A} {g : D → B} {P : Answer A → Type 0} {Q : A → Answer B → Type 0} {c : C} {r : Result D CodecStop}
    → ReadsAs f P (Ok c) → ReadsAs g (Q (f c)) r → ReadsAs g (Then P Q) r
onward {f = f} {c = c} {r = Ok d} p q = record { answers = record { answer = Ok (f c); is_first = p.answers; goes_on = q.answers } }
onward {f = f} {c = c} {r = Err (Refused refusal)} p q = record { answers = record { answer = Ok (f c); is_first = p.answers; goes_on = q.answers } }
onward {r = Err NoMemory} p q = record { answers = tt }

-- a reading that stopped, and nothing after it
pub halted : {A B C D : Type 0} {f : C → A} (g : D → B) {P : Answer A → Type 0} (Q : A → Answer B → Type 0) {e : CodecStop} {r : Result D CodecStop}
    → IsErrAnd r (λ x. x ≡ e) → ReadsAs f P (Err e) → ReadsAs g (Then P Q) r
halted g Q {r = Ok d} is p = absurd is
halted {f = f} g {P = P} Q {r = Err (Refused refusal)} is p = record { answers = record { answer = Err refusal; is_first = (subst (λ (y : CodecStop). ReadsAs f P (Err y)) (sym is) p).answers; goes_on = refl } }
halted g Q {r = Err NoMemory} is p = record { answers = tt }

-- want of memory
pub unread : {B D : Type 0} (g : D → B) (R : Answer B → Type 0) {r : Result D CodecStop} → IsErrAnd r (λ x. x ≡ NoMemory) → ReadsAs g R r
unread g R {r = Ok d} is = absurd is
unread g R {r = Err (Refused refusal)} is = absurd (let e : Refused refusal ≡ NoMemory = is in cc)
unread g R {r = Err NoMemory} is = record { answers = tt }

-- a refusal
pub refused : {B D : Type 0} (g : D → B) (R : Answer B → Type 0) {refusal : Refusal} {e : CodecStop} → StopsWith refusal e → R (Err refusal) → ReadsAs {B = D} g R (Err e)
refused g R {refusal = refusal} {e = Refused r} stops p = record { answers = subst (λ (x : Refusal). R (Err x)) (sym stops) p }
refused g R {e = NoMemory} stops p = record { answers = tt }

-- what the value of a line's text says
pub line_read : (lowest : ℕ) (bytes : List ℕ) (t : Tree) {r : Result Content CodecStop} → Shows bytes t → ReadsAs content_seen (ContentBy lowest t) r → ReadsAs content_seen (LineAnswer lowest bytes) r
line_read lowest bytes t {r = Ok c} shows p = record { answers = inl (t, shows, p.answers) }
line_read lowest bytes t {r = Err (Refused refusal)} shows p = record { answers = inl (t, shows, p.answers) }
line_read lowest bytes t {r = Err NoMemory} shows p = record { answers = tt }

fault_is : (bytes : List ℕ) (fault : JsonFault) (refusal : Refusal) → MayFail bytes fault → line_fault fault ≡ Some refusal → IsLineFault bytes (Err refusal)
fault_is bytes (faults.Syntax place) refusal may is = record { fault = faults.Syntax place; is = may; refusal = refusal; refuses = is; answer = refl }
fault_is bytes (faults.NotWhole place) refusal may is = record { fault = faults.NotWhole place; is = may; refusal = refusal; refuses = is; answer = refl }
fault_is bytes (faults.TooWide place) refusal may is = record { fault = faults.TooWide place; is = may; refusal = refusal; refuses = is; answer = refl }
fault_is bytes (faults.TooDeep place) refusal may is = record { fault = faults.TooDeep place; is = may; refusal = refusal; refuses = is; answer = refl }
fault_is bytes (faults.Repeated place) refusal may is = record { fault = faults.Repeated place; is = may; refusal = refusal; refuses = is; answer = refl }
fault_is bytes faults.NoMemory refusal may is = absurd (let none : ◌≡◌ {A = Option Refusal} None (Some refusal) = is in cc)

fault_read : (lowest : ℕ) (bytes : List ℕ) (fault : JsonFault) (o : Option Refusal) → MayFail bytes fault → line_fault fault ≡ o → ReadsAs content_seen (LineAnswer lowest bytes) (Err (stop_of o))
fault_read lowest bytes fault None may is = record { answers = tt }
fault_read lowest bytes fault (Some refusal) may is = record { answers = inr (fault_is bytes fault refusal may is) }

-- the fault of a line that is no JSON text
pub line_unread : (lowest : ℕ) (bytes : List ℕ) (fault : JsonFault) (stop : CodecStop) → MayFail bytes fault → stop ≡ stop_of (line_fault fault) → ReadsAs content_seen (LineAnswer lowest bytes) (Err stop)
line_unread lowest bytes fault stop may is =
    subst (λ (s : CodecStop). ReadsAs content_seen (LineAnswer lowest bytes) (Err s)) (sym is) (fault_read lowest bytes fault (line_fault fault) may refl)
