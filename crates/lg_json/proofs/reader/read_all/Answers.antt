use Rattle.std.proofs.Common.{refl}
use Rattle.lg_json.specs.View.{frames_view}
use Rattle.lg_json.specs.declared.state.Next.{Next}
use Rattle.lg_json.proofs.Steps.{starts_after, goes_after, is_done}
use Rattle.lg_json.proofs.reader.read_all.Goals as goal

pub steps-init : goal.steps-init
steps-init c = (starts_after c.args.bytes.now _ _ Next.Value (rw c.new-frames.ensures.items refl) c.skip_blanks-place.ensures.skips, c.skip_blanks-place.ensures.stops)

pub returns : goal.returns
returns c = is_done c.args.bytes.now c.steps.place c.steps.frames.items c.steps.next _ c.steps.invariant.0 c.steps-test.false (c.finish.ensures (frames_view c.steps.frames.items))

pub steps-preserved : goal.steps-preserved
steps-preserved c = (
  goes_after c.args.bytes.now c.steps.place c.skip_blanks-place-in-steps.result c.steps.frames.items c.step.new.frames.items c.steps.next (c.in_ok-after.after, c.in_ok-after.end) c.steps.invariant.0
      c.in_ok-after.ensures c.skip_blanks-place-in-steps.ensures.skips,
  c.skip_blanks-place-in-steps.ensures.stops,
)
