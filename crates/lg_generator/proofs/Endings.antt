-- A text that was written whole, or in part, said of what the sink holds.
use Rattle.std.proofs.Common.{◌≡◌, ℕ, true, List, ◌++◌, sym, ap, ◌∙◌, append_assoc}
use Rattle.std.specs.Prelude.{Result, Ok, Err, codes}
use Rattle.lg_base.specs.Feeding.{Writes}
use Rattle.lg_base.specs.declared.feed.Stop.{Stop}
use Rattle.lg_base.specs.declared.sink.Sink.{Ghosts as SinkGhosts}
use Rattle.lg_types.specs.Lists.{IsPrefix}
use Rattle.lg_types.specs.Log.{is_there, first_events}
use Rattle.lg_types.specs.declared.records.Event.{Event}
use Rattle.lg_batch.specs.Buffered.{HoldsWhole, HoldsFront}

pub holds_whole : {K : Type 0} (sink : SinkGhosts K) (old new : K) (text : List ℕ) (u : Unit {0}) → Writes {E = Stop} sink old new text (Ok u) → HoldsWhole sink old new text
holds_whole sink old new text u w = w.ok

pub holds_front : {K : Type 0} (sink : SinkGhosts K) (old new : K) (text : List ℕ) (stop : Stop) → Writes {T = Unit {0}} sink old new text (Err stop) → HoldsFront sink old new text
holds_front sink old new text stop w = λ m told.
    let part = w.stopped m told in
    (m ++ part.0, part.1, ap (λ (t : List ℕ). m ++ t) part.2 ∙ sym (append_assoc m part.0 part.1), part.3)

-- the ledger `default` is there from the first event on
pub default_there : (events : List Event) → IsPrefix first_events events → is_there events (codes "default") ≡ true
default_there events p = ap (λ (all : List Event). is_there all (codes "default")) p.1
