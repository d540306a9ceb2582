use Rattle.std.proofs.Common.{◌≡◌, take, length}
use Rattle.lg_readings.specs.Elements.{AreElements}
use Rattle.lg_codec.specs.Seen.{items_seen}
use Rattle.lg_codec.proofs.elements.elements_in.Given as goal

abbrev pub invariant-loop-value : goal.invariant-loop-value
invariant-loop-value l =
    (length l.elements ≡ l.value-index) × AreElements (items_seen (take l.value-index l.values)) l.elements
