use Rattle.lg_base.proofs.Buffered.{written_past}
use Rattle.lg_base.proofs.buffered_feed.give_buffered.Goals as goal

pub returns-then-bytes-gt-ROOM : goal.returns-then-bytes-gt-ROOM
returns-then-bytes-gt-ROOM g c =
    written_past g.K.Sink.written g.K.Sink.faults _ _ _ _ _ _ _ c.in-Ok.ensures.passed.same c.in-Ok.ensures.passed.cause.later
    (c.in-Ok.ensures.large c.if-bytes-gt-ROOM.true) c.write_whole.ensures
