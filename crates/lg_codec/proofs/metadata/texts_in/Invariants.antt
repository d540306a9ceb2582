use Rattle.std.proofs.Common.{◌≡◌, drop}
use Rattle.lg_containers.specs.NameTable as table
use Rattle.lg_readings.specs.Bodies.{with_texts}
use Rattle.lg_codec.specs.PathParts.{holder_path}
use Rattle.lg_codec.specs.Seen.{members_seen}
use Rattle.lg_codec.proofs.metadata.texts_in.Given as goal

abbrev pub invariant-loop-member : goal.invariant-loop-member
invariant-loop-member l =
    with_texts (holder_path l.holder) l.meta (members_seen (drop l.member-index l.members)) ≡ with_texts (holder_path l.holder) table.empty (members_seen l.members)
