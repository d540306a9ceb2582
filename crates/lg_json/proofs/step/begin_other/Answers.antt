use Rattle.std.proofs.lemmas.Bool.{iff_false}
use Rattle.lg_json.specs.View.{frames_view}
use Rattle.lg_json.proofs.Steps.{no_value_begins}
use Rattle.lg_json.proofs.step.begin_other.Goals as goal

pub returns-else-is_number_byte : goal.returns-else-is_number_byte
returns-else-is_number_byte c = no_value_begins c.args.bytes.now c.args.place (frames_view c.args.frames.now.items) c.requires.within c.requires.other (iff_false c.is_number_byte.ensures c.if-is_number_byte.false)
