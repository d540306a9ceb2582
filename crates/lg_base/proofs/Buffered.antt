-- Bytes that wait in front of a sink: how writing them, and writing past them, keeps what stands there.
use Rattle.std.proofs.Common.{◌≡◌, ℕ, ◌≤◌, ◌+◌, List, [], ◌++◌, length, take, drop, refl, sym, ◌∙◌, ap, subst, append_assoc, arith}
use Rattle.std.specs.Prelude.{Option, Some, None, Result}
use Rattle.std.proofs.lemmas.List.{append-nil, length-take-le, drop-append-le}
use Rattle.std.proofs.lemmas.Result.{on_ok_weaker, on_err_weaker}
use Rattle.lg_base.specs.Growth.{Rose, Gives}
use Rattle.lg_base.specs.Told.{Told, added}
use Rattle.lg_base.specs.Buffering.{Ahead, ToldInPart}
use Rattle.lg_base.specs.Waiting.{waiting, AheadOf}
use Rattle.lg_base.specs.declared.output_buffer.OutputBuffer.{OutputBuffer}

-- the first waiting bytes were written
pub ahead_written : (before after : Option (List ℕ)) (piece rest held : List ℕ) → held ≡ piece ++ rest → after ≡ added before piece
    → (m : List ℕ) → Ahead before held m → Ahead after rest m
ahead_written None after piece rest held e f m h = subst (λ (o : Option (List ℕ)). Ahead o rest m) (sym f) tt
ahead_written (Some w) after piece rest held e f m h =
    subst (λ (o : Option (List ℕ)). Ahead o rest m) (sym f) (append_assoc w piece rest ∙ ap (λ (l : List ℕ). w ++ l) (sym e) ∙ h)

-- nothing waits: what stands there is what the sink tells
pub ahead_told : (written : Option (List ℕ)) (held m : List ℕ) → held ≡ [] → Ahead written held m → Told written m
ahead_told None held m e h = tt
ahead_told (Some w) held m e h = sym (append-nil w) ∙ ap (λ (l : List ℕ). w ++ l) (sym e) ∙ h

pub told_ahead : (written : Option (List ℕ)) (held m : List ℕ) → held ≡ [] → Told written m → Ahead written held m
told_ahead None held m e h = tt
told_ahead (Some w) held m e h = ap (λ (l : List ℕ). w ++ l) e ∙ append-nil w ∙ h

-- the sink holds a front of what stands there
pub ahead_in_part : (written : Option (List ℕ)) (held m : List ℕ) → Ahead written held m → ToldInPart written m
ahead_in_part None held m h = (m, [], sym (append-nil m), tt)
ahead_in_part (Some w) held m h = (w, held, sym h, refl)

-- waiting bytes were passed on, and then a text was written past an empty buffer
pub written_past : {K E : Type 0} (written : K → Option (List ℕ)) (faults : K → ℕ) (k l n : K) (b c : OutputBuffer) (text : List ℕ) (r : Result (Unit {0}) E)
    → ((m : List ℕ) → Ahead (written k) (waiting b) m → Ahead (written l) (waiting c) m) → faults k ≤ faults l → waiting c ≡ []
    → Gives {T = Unit {0}} {E = E} (λ k m. Told (written k) m) faults (λ _. 0) l n text r
    → Gives {T = Unit {0}} {E = E} (AheadOf written) (λ p. faults p.0) (λ _. 0) (k, b) (n, c) text r
written_past written faults k l n b c text r same later empty g = record {
  ok = on_ok_weaker r (λ grown m ahead. told_ahead (written n) (waiting c) (m ++ text) empty (grown m (ahead_told (written l) (waiting c) m empty (same m ahead)))) g.ok;
  stopped = on_err_weaker r (λ grown m ahead. let part = grown m (ahead_told (written l) (waiting c) m empty (same m ahead)) in
      (part.0, part.1, part.2, told_ahead (written n) (waiting c) (m ++ part.0) empty part.3)) g.stopped;
  cause = record {
    later = let a = g.cause.later in omega arith;
    failed = on_err_weaker r (λ (rose : Rose (faults l) (faults n)). omega arith) g.cause.failed;
  };
  same = refl;
}

-- bytes are put behind those that wait
pub appended : (start end : ℕ) (items others bytes : List ℕ) → start ≤ end → end ≤ length items
    → take (end + length bytes) others ≡ take end items ++ bytes
    → drop start (take (end + length bytes) others) ≡ drop start (take end items) ++ bytes
appended start end items others bytes low high front =
    let length_is : length (take end items) ≡ end = length-take-le end items high in
    let within : start ≤ length (take end items) = omega arith in
    ap (drop start) front ∙ drop-append-le start (take end items) bytes within
