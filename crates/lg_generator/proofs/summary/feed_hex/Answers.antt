use Rattle.std.proofs.Common.{get_or, arith}
use Rattle.lg_containers.proofs.Each.{each-more, each-stop, each-end}
use Rattle.lg_views.specs.RefusalTexts.{hex_byte}
use Rattle.lg_generator.proofs.Lines.{same_item}
use Rattle.lg_generator.proofs.summary.feed_hex.Goals as goal

pub returns-in_err-feed_hex_byte : goal.returns-in_err-feed_hex_byte
returns-in_err-feed_hex_byte g c =
    each-stop hex_byte c.args.bytes.now c.loop-byte.byte-index (get_or c.args.bytes.now c.loop-byte.byte-index 0) c.loop-byte.invariant (omega arith) (same_item c.args.bytes.now c.loop-byte.byte-index 0 _ (omega arith)) c.from_residual.ensures.0 c.in_err-feed_hex_byte.ensures

pub loop-byte-preserved : goal.loop-byte-preserved
loop-byte-preserved g c =
    each-more hex_byte c.args.bytes.now c.loop-byte.byte-index (get_or c.args.bytes.now c.loop-byte.byte-index 0) c.loop-byte.invariant (omega arith) (same_item c.args.bytes.now c.loop-byte.byte-index 0 _ (omega arith)) c.in_ok-feed_hex_byte.ensures

pub returns : goal.returns
returns g c = each-end hex_byte c.args.bytes.now c.loop-byte.byte-index c.loop-byte.invariant (omega arith)
