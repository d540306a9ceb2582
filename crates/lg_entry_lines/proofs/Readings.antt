-- Readings that give one value and nothing else.
use Rattle.std.proofs.Common.{◌≡◌, ℕ, ◌<◌, List, Some, inl, inr, refl, sym, ap, subst, ◌∙◌}
use Rattle.std.specs.Prelude.{Ok, Err, ℤ, pos, nat_lt}
use Rattle.std.proofs.lemmas.Bool.{cond-true, lt-ltb}
use Rattle.base64.specs.GeneralPurpose.{encode_of}
use Rattle.base64.specs.Engines.{standard}
use Rattle.lg_json.specs.Tree.Tree.{whole, text}
use Rattle.lg_time.specs.Canonical.{moment_text}
use Rattle.lg_time.specs.Moment.{IsInMoments}
use Rattle.lg_time.proofs.CanonicalLemmas.{moment_text_is}
use Rattle.lg_time.proofs.Facts.{moment_unique}
use Rattle.lg_readings.specs.Paths.{Path}
use Rattle.lg_readings.specs.Answers.{Answer, known, gives, Then, GoesOn, IfForm}
use Rattle.lg_readings.specs.Values.{number_of, Name, Moment, MomentText}
use Rattle.lg_readings.specs.EntryLines.{Hash, HashText}
use Rattle.lg_entry_lines.specs.Laws.{GivesOnly}
use Rattle.lg_types.specs.Records.{IsHash}
use Rattle.lg_entry_lines.proofs.Hashes.{same_hash}

pub only_known : {A : Type 0} {answer : Answer A} {a : A} → answer ≡ Ok a → GivesOnly (known answer) a
only_known e = record { gives = sym e; only = λ r h. h ∙ e }

pub only_gives : {A : Type 0} (a : A) → GivesOnly (gives a) a
only_gives a = record { gives = refl; only = λ r h. h }

pub only_form : {A : Type 0} (P : Type 0) (path : Path) (a : A) → P → GivesOnly (IfForm P path a) a
only_form P path a p = record { gives = inl (p, refl); only = λ r h. elim h [ inl w ↦ w.1 | inr w ↦ absurd (w.0 p) ] }

pub only_then : {A B : Type 0} {first : Answer A → Type 0} {next : A → Answer B → Type 0} {a : A} {b : B} → GivesOnly first a → GivesOnly (next a) b → GivesOnly (Then first next) b
only_then {next = next} {a = a} p q = record {
  gives = record { answer = Ok a; is_first = p.gives; goes_on = q.gives };
  only = λ r h. q.only r (subst (λ x. GoesOn x next r) (p.only h.answer h.is_first) h.goes_on);
}

-- ---- values

pub only_number : (path : Path) (limit n : ℕ) → n < limit → GivesOnly (known (number_of path limit (Some (whole (pos n))))) n
only_number path limit n h = only_known (cond-true (nat_lt n limit) _ _ (lt-ltb n limit h))

pub only_name : (Names : List ℕ → Type 0) (path : Path) (t : List ℕ) → Names t → GivesOnly (Name Names path (Some (text t))) t
only_name Names path t h = only_then (only_known refl) (only_form (Names t) path t h)

pub only_moment : (path : Path) (moment : ℤ) → IsInMoments moment → GivesOnly (Moment path (Some (text (moment_text moment)))) moment
only_moment path moment h = record { gives = moment_text_is moment h; only = each }
  where
    each : (r : Answer ℤ) → MomentText path (moment_text moment) r → r ≡ Ok moment
    each (Ok m) w = ap Ok (moment_unique (moment_text moment) m moment w (moment_text_is moment h))
    each (Err refusal) w = absurd (w.1 moment (moment_text_is moment h))

pub only_hash : (path : Path) (hash : List ℕ) → IsHash hash → GivesOnly (Hash path (Some (text (encode_of standard hash)))) hash
only_hash path hash h = only_then (only_known refl) (record { gives = (h.long, h.bytes, refl); only = each })
  where
    each : (r : Answer (List ℕ)) → HashText path (encode_of standard hash) r → r ≡ Ok hash
    each (Ok other) w = ap Ok (same_hash other hash w.1 h.bytes (sym w.2))
    each (Err refusal) w = absurd (w.1 hash h.long h.bytes refl)
