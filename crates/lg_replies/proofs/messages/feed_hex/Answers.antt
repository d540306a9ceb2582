use Rattle.std.proofs.Common.{get_or, arith}
use Rattle.std.specs.List.{flat_map}
use Rattle.lg_base.specs.Texts.{escaped}
use Rattle.lg_base.proofs.Feeds.{same_text}
use Rattle.lg_containers.proofs.Each.{each-more, each-stop, each-end}
use Rattle.lg_views.specs.RefusalTexts.{hex_byte}
use Rattle.lg_replies.proofs.Nested.{nested, same_item}
use Rattle.lg_replies.proofs.messages.feed_hex.Goals as goal

pub returns-in_err-feed_hex_byte : goal.returns-in_err-feed_hex_byte
returns-in_err-feed_hex_byte g c =
    same_text (nested hex_byte escaped c.args.hash.now)
    (each-stop (λ b. flat_map escaped (hex_byte b)) c.args.hash.now c.loop-byte.byte-index (get_or c.args.hash.now c.loop-byte.byte-index 0) c.loop-byte.invariant (omega arith) (same_item c.args.hash.now c.loop-byte.byte-index 0 _ (omega arith)) c.from_residual.ensures.0 c.in_err-feed_hex_byte.ensures)

pub loop-byte-preserved : goal.loop-byte-preserved
loop-byte-preserved g c =
    each-more (λ b. flat_map escaped (hex_byte b)) c.args.hash.now c.loop-byte.byte-index (get_or c.args.hash.now c.loop-byte.byte-index 0) c.loop-byte.invariant (omega arith) (same_item c.args.hash.now c.loop-byte.byte-index 0 _ (omega arith)) c.in_ok-feed_hex_byte.ensures

pub returns : goal.returns
returns g c =
    same_text (nested hex_byte escaped c.args.hash.now)
    (each-end (λ b. flat_map escaped (hex_byte b)) c.args.hash.now c.loop-byte.byte-index c.loop-byte.invariant (omega arith))
