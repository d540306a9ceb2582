-- How readings compose where a JSON value comes between.
use Rattle.std.proofs.Common.{◌≡◌, refl, sym, ap, subst}
use Rattle.std.specs.Prelude.{Result, Ok, Err}
use Rattle.std.specs.Result.{IsErrAnd}
use Rattle.lg_json.specs.Tree.{Tree, tree}
use Rattle.lg_json.specs.declared.json.Json.{Json}
use Rattle.lg_types.specs.declared.refusals.Refusal.{Refusal}
use Rattle.lg_readings.specs.Answers.{Answer, Then, GoesOn, gives}
use Rattle.lg_codec.specs.Results.{Reads}
use Rattle.lg_codec.specs.declared.stop.CodecStop.{CodecStop}
use Rattle.lg_codec.specs.declared.stop.CodecStop.TheVariants.{Refused, NoMemory}
use Rattle.lg_routes.specs.Body.{ReadsTree}

-- a JSON value that was read, and the reading after it
pub onward_tree : {B : Type 0} {P : Answer Tree → Type 0} {Q : Tree → Answer B → Type 0} {value : Json} {r : Result B CodecStop}
    → ReadsTree P (Ok value) → Reads (Q (tree value)) r → Reads (Then P Q) r
onward_tree {value = value} {r = Ok b} p q = record { answers = record { answer = Ok (tree value); is_first = p.answers; goes_on = q.answers } }
onward_tree {value = value} {r = Err (Refused refusal)} p q = record { answers = record { answer = Ok (tree value); is_first = p.answers; goes_on = q.answers } }
onward_tree {r = Err NoMemory} p q = record { answers = tt }

-- a JSON value that wasn't read, and nothing after it
pub halted_tree : {B : Type 0} {P : Answer Tree → Type 0} (Q : Tree → Answer B → Type 0) {e : CodecStop} {r : Result B CodecStop}
    → IsErrAnd r (λ x. x ≡ e) → ReadsTree P (Err e) → Reads (Then P Q) r
halted_tree Q {r = Ok b} is p = absurd is
halted_tree {P = P} Q {r = Err (Refused refusal)} is p = record { answers = record { answer = Err refusal; is_first = (subst (λ (y : CodecStop). ReadsTree P (Err y)) (sym is) p).answers; goes_on = refl } }
halted_tree Q {r = Err NoMemory} is p = record { answers = tt }

-- a reading whose value is made into another, and the reading after it, which goes by that
made : {A B C : Type 0} {P : Answer A → Type 0} (f : A → B) (Q : B → Answer C → Type 0) {b : B} (answer : Answer A)
    → P answer → GoesOn answer (λ a. gives (f a)) (Ok b) → (s : Answer C) → Q b s → Then P (λ a. Q (f a)) s
made f Q {b = b} (Ok a) first on s q = record { answer = Ok a; is_first = first; goes_on = (let e : b ≡ f a = cc in subst (λ x. Q x s) e q) }
made {B = B} f Q {b = b} (Err refusal) first on s q = absurd (let e : ◌≡◌ {A = Answer B} (Ok b) (Err refusal) = on in cc)

pub onward_by : {A B C : Type 0} {P : Answer A → Type 0} (f : A → B) (Q : B → Answer C → Type 0) {b : B} {r : Result C CodecStop}
    → Reads (Then P (λ a. gives (f a))) (Ok b) → Reads (Q b) r → Reads (Then P (λ a. Q (f a))) r
onward_by f Q {r = Ok c} p q = record { answers = made f Q p.answers.answer p.answers.is_first p.answers.goes_on (Ok c) q.answers }
onward_by f Q {r = Err (Refused refusal)} p q = record { answers = made f Q p.answers.answer p.answers.is_first p.answers.goes_on (Err refusal) q.answers }
onward_by f Q {r = Err NoMemory} p q = record { answers = tt }

-- one that stopped
unmade : {A B C : Type 0} {P : Answer A → Type 0} (f : A → B) (Q : B → Answer C → Type 0) {refusal : Refusal} (answer : Answer A)
    → P answer → GoesOn {B = B} answer (λ a. gives (f a)) (Err refusal) → Then P (λ a. Q (f a)) (Err refusal)
unmade {B = B} f Q {refusal = refusal} (Ok a) first on = absurd (let e : ◌≡◌ {A = Answer B} (Err refusal) (Ok (f a)) = on in cc)
unmade {B = B} f Q {refusal = refusal} (Err other) first on =
    record { answer = Err other; is_first = first; goes_on = (let e : ◌≡◌ {A = Answer B} (Err refusal) (Err other) = on in let same : refusal ≡ other = cc in ap (λ (x : Refusal). Err x) same) }

pub halted_by : {A B C : Type 0} {P : Answer A → Type 0} (f : A → B) (Q : B → Answer C → Type 0) {e : CodecStop} {r : Result C CodecStop}
    → IsErrAnd r (λ x. x ≡ e) → Reads {A = B} (Then P (λ a. gives (f a))) (Err e) → Reads (Then P (λ a. Q (f a))) r
halted_by f Q {r = Ok c} is p = absurd is
halted_by {B = B} {P = P} f Q {r = Err (Refused refusal)} is p =
    let q = (subst (λ (y : CodecStop). Reads {A = B} (Then P (λ a. gives (f a))) (Err y)) (sym is) p).answers in
    record { answers = unmade f Q q.answer q.is_first q.goes_on }
halted_by f Q {r = Err NoMemory} is p = record { answers = tt }
