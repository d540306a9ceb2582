use Rattle.std.proofs.Common.{◌≡◌, ◌<◌, ◌-◌, false, length, get_or}
use Rattle.lg_json.specs.Reading.{is_blank}
use Rattle.lg_json.proofs.Steps.{OnTheWay}
use Rattle.lg_json.proofs.reader.read_all.Given as goal

abbrev pub invariant-steps : goal.invariant-steps
invariant-steps l = OnTheWay l.bytes l.place l.frames.items l.next × (l.place < length l.bytes → is_blank (get_or l.bytes l.place 0) ≡ false)

abbrev pub decreases-steps : goal.decreases-steps
decreases-steps l = length l.bytes - l.place
