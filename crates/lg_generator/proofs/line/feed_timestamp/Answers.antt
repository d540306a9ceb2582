use Rattle.std.proofs.Common.{◌∙◌, sym, w64}
use Rattle.std.proofs.lemmas.Int.{to_z-of_z}
use Rattle.lg_generator.specs.Made.{timestamp_member}
use Rattle.lg_generator.proofs.line.feed_timestamp.Goals as goal

pub returns-then-is_dated : goal.returns-then-is_dated
unfolding timestamp_member
returns-then-is_dated g c =
    rw (sym c.if-is_dated.ensures)
    (rw (to_z-of_z w64 c.timestamp-timestamp.result (record { sfits = c.timestamp-timestamp.type_inv }) ∙ c.timestamp-timestamp.ensures) at c.feed_all.ensures)

pub returns-else-is_dated : goal.returns-else-is_dated
unfolding timestamp_member
returns-else-is_dated g c = rw (sym c.if-is_dated.ensures) c.piece.ensures
