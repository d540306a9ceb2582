-- How readings compose.
use Rattle.std.proofs.Common.{◌≡◌, ℕ, List, [], ◌∷◌, length, refl, sym, subst, ◌∙◌, ap}
use Rattle.std.specs.Prelude.{Result, Ok, Err, Bool, true, false, ◌==◌}
use Rattle.std.specs.Result.{IsErrAnd}
use Rattle.lg_types.specs.declared.refusals.Refusal.{Refusal}
use Rattle.std.specs.Prelude.{Some}
use Rattle.lg_readings.specs.Answers.{Answer, wrong, Then, IfForm, known, gives}
use Rattle.lg_codec.specs.Results.{Reads}
use Rattle.lg_readings.specs.Paths.{Path}
use Rattle.lg_readings.specs.Values.{SomeName}
use Rattle.lg_readings.specs.Bodies.{no_members}
use Rattle.lg_json.specs.Tree.{Members}
use Rattle.lg_json.specs.declared.json.Member.{Member}
use Rattle.lg_types.specs.declared.refusals.Reason.TheVariants.{Form}
use Rattle.lg_codec.specs.Seen.{members_seen}
use Rattle.lg_codec.specs.Stops.{StopsWith}
use Rattle.lg_codec.specs.declared.stop.CodecStop.{CodecStop}
use Rattle.lg_codec.specs.declared.stop.CodecStop.TheVariants.{Refused, NoMemory}

-- a reading that gave a value, and the one after it
pub onward : {A B : Type 0} {P : Answer A → Type 0} {Q : A → Answer B → Type 0} {a : A} {r : Result B CodecStop}
    → Reads P (Ok a) → Reads (Q a) r → Reads (Then P Q) r
onward {a = a} {r = Ok b} p q = record { answers = record { answer = Ok a; is_first = p.answers; goes_on = q.answers } }
onward {a = a} {r = Err (Refused refusal)} p q = record { answers = record { answer = Ok a; is_first = p.answers; goes_on = q.answers } }
onward {r = Err NoMemory} p q = record { answers = tt }

-- an error that is known
pub err_is : {B E : Type 0} {e : E} (r : Result B E) → IsErrAnd r (λ x. x ≡ e) → r ≡ Err e
err_is (Ok b) h = absurd h
err_is (Err x) h = ap (λ y. Err y) h

-- a reading that stopped, and nothing after it
pub halted : {A B : Type 0} {P : Answer A → Type 0} (Q : A → Answer B → Type 0) {e : CodecStop} {r : Result B CodecStop}
    → IsErrAnd r (λ x. x ≡ e) → Reads P (Err e) → Reads (Then P Q) r
halted Q {r = Ok b} is p = absurd is
halted {P = P} Q {r = Err (Refused refusal)} is p = record { answers = record { answer = Err refusal; is_first = (subst (λ (y : CodecStop). Reads P (Err y)) (sym is) p).answers; goes_on = refl } }
halted Q {r = Err NoMemory} is p = record { answers = tt }

-- the same reading in another spelling
pub same_reading : {A : Type 0} {P : Answer A → Type 0} (Q : Answer A → Type 0) {r : Result A CodecStop} → ((x : Answer A) → P x → Q x) → Reads P r → Reads Q r
same_reading Q {r = Ok a} f p = record { answers = f (Ok a) p.answers }
same_reading Q {r = Err (Refused refusal)} f p = record { answers = f (Err refusal) p.answers }
same_reading Q {r = Err NoMemory} f p = record { answers = tt }

-- want of memory
pub unread : {B : Type 0} (R : Answer B → Type 0) {r : Result B CodecStop} → IsErrAnd r (λ x. x ≡ NoMemory) → Reads R r
unread R {r = Ok b} is = absurd is
unread R {r = Err (Refused refusal)} is = absurd (let e : Refused refusal ≡ NoMemory = is in cc)
unread R {r = Err NoMemory} is = record { answers = tt }

-- a refusal
pub refused : {B : Type 0} (R : Answer B → Type 0) {refusal : Refusal} {e : CodecStop} → StopsWith refusal e → R (Err refusal) → Reads R (Err e)
refused R {refusal = refusal} {e = Refused r} stops p = record { answers = subst (λ (x : Refusal). R (Err x)) (sym stops) p }
refused R {e = NoMemory} stops p = record { answers = tt }

-- a test for 0 that failed
pub not_zero : (r : Bool) (n : ℕ) → r ≡ (n == 0) → r ≡ false → ¬ (n ≡ 0)
not_zero r n e f z = let t : r ≡ true = e ∙ ap (λ (k : ℕ). k == 0) z in cc

-- a name that isn't empty
pub named : (Names : List ℕ → Type 0) (path : Path) (bytes : List ℕ) {r : Result _ CodecStop} → ¬ (length bytes ≡ 0)
    → Reads (Then (IfForm (Names bytes) path bytes) (λ name. gives (Some name))) r → Reads (SomeName Names path bytes) r
named Names path [] h p = absurd (h refl)
named Names path (b ∷ bs) h p = p

-- an object that has a member
pub some_member : (path : Path) (ms : List Member) → ¬ (length ms ≡ 0) → no_members path (members_seen ms) ≡ wrong path Form
some_member path [] h = absurd (h refl)
some_member path (m ∷ ms) h = refl
