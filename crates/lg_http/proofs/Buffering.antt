-- A text that is fed to a sink through a buffer, which is written at the end.
use Rattle.std.proofs.Common.{◌≡◌, ℕ, ◌≤◌, List, [], ◌++◌, sym, ap, ◌∙◌, append_assoc, arith}
use Rattle.std.specs.Prelude.{true, false, Option, Result, Ok, Err, IfOk, IsErr}
use Rattle.lg_base.specs.Growth.{Rose, Gives, HasCause}
use Rattle.lg_base.specs.Told.{Told}
use Rattle.lg_base.specs.Buffering.{Ahead, ToldInPart, PassesOn}
use Rattle.lg_base.specs.declared.sink.Sink.{Ghosts as SinkGhosts}
use Rattle.lg_base.proofs.Buffered.{told_ahead, ahead_told, ahead_in_part}
use Rattle.lg_http.specs.Writing.{WritesThrough}

-- a text that was fed whole stands in the sink and in front of it
pub fed_whole : {F T E : Type 0} (written : F → Option (List ℕ)) (held : F → List ℕ) (stops lent : F → ℕ) (old new : F) (text : List ℕ) (u : T)
    → Gives {E = E} (λ f m. Ahead (written f) (held f) m) stops lent old new text (Ok u) → held old ≡ []
    → (m : List ℕ) → Told (written old) m → Ahead (written new) (held new) (m ++ text)
fed_whole written held stops lent old new text u g empty m told = g.ok m (told_ahead (written old) (held old) m empty told)

-- of a text that stopped the feed, the sink holds a front
pub fed_in_part : {F T E : Type 0} (written : F → Option (List ℕ)) (held : F → List ℕ) (stops lent : F → ℕ) (old new : F) (text : List ℕ) (e : E)
    → Gives {T = T} (λ f m. Ahead (written f) (held f) m) stops lent old new text (Err e) → held old ≡ []
    → (m : List ℕ) → Told (written old) m → ToldInPart (written new) (m ++ text)
fed_in_part written held stops lent old new text e g empty m told =
    let part = g.stopped m (told_ahead (written old) (held old) m empty told) in
    let inner = ahead_in_part (written new) (held new) (m ++ part.0) part.3 in (
      inner.0,
      inner.1 ++ part.1,
      ap (λ (l : List ℕ). m ++ l) part.2 ∙ sym (append_assoc m part.0 part.1) ∙ ap (λ (l : List ℕ). l ++ part.1) inner.2 ∙ append_assoc inner.0 inner.1 part.1,
      inner.3,
    )

-- the waiting bytes were written at the end, or that failed
pub flushed : {K E : Type 0} (sink : SinkGhosts K) (first middle last : K) (held left text : List ℕ) (r : Result (Unit {0}) E)
    → ((m : List ℕ) → Told (sink.written first) m → Ahead (sink.written middle) held (m ++ text)) → sink.faults first ≤ sink.faults middle
    → PassesOn (sink.written middle) (sink.written last) held left (sink.faults middle) (sink.faults last) r → IfOk r (λ _. left ≡ [])
    → WritesThrough sink first last text r
flushed sink first middle last held left text (Ok u) fed later p empty = record {
  ok = λ m told. ahead_told (sink.written last) left (m ++ text) empty (p.same (m ++ text) (fed m told));
  stopped = tt;
  cause = record { later = let a = p.cause.later in omega arith; failed = tt };
}
flushed sink first middle last held left text (Err e) fed later p empty = record {
  ok = tt;
  stopped = λ m told. ahead_in_part (sink.written last) left (m ++ text) (p.same (m ++ text) (fed m told));
  cause = record {
    later = let a = p.cause.later in omega arith;
    failed = let rose : Rose (sink.faults middle) (sink.faults last) = p.cause.failed in omega arith;
  };
}

-- the feed stopped
pub stopped_early : {K T U E : Type 0} (sink : SinkGhosts K) (first last : K) (text : List ℕ) (r : Result T E) (e : E)
    → IsErr r → ((m : List ℕ) → Told (sink.written first) m → ToldInPart (sink.written last) (m ++ text))
    → HasCause {T = U} (sink.faults first) (sink.faults last) (Err e)
    → WritesThrough sink first last text r
stopped_early sink first last text (Ok u) e failed fed cause = absurd (let f : false ≡ true = failed in cc)
stopped_early sink first last text (Err x) e failed fed cause = record {
  ok = tt;
  stopped = fed;
  cause = record { later = cause.later; failed = cause.failed };
}
