use Rattle.lg_json.proofs.Values.{tree-null, tree-truth}
use Rattle.lg_json.proofs.Steps.{begins_list, begins_object, begins_null, begins_true, begins_false}
use Rattle.lg_json.proofs.step.begin.Goals as goal

pub begin_frame-requires-clause-first : goal.begin_frame-requires-clause-first
begin_frame-requires-clause-first c = λ fs. rw c.new.ensures (begins_list c.args.place fs _ c.in-91.is)

pub begin_frame-requires-in-123-clause-first : goal.begin_frame-requires-in-123-clause-first
begin_frame-requires-in-123-clause-first c = λ fs. rw c.new-in-123.ensures (begins_object c.args.place fs _ c.in-123.is)

pub begin_word-requires-clause-first : goal.begin_word-requires-clause-first
begin_word-requires-clause-first c = λ fs. rw tree-null (begins_null c.args.place fs _ c.in-110.is)

pub begin_word-requires-in-116-clause-first : goal.begin_word-requires-in-116-clause-first
begin_word-requires-in-116-clause-first c = λ fs. rw tree-truth (begins_true c.args.place fs _ c.in-116.is)

pub begin_word-requires-in-102-clause-first : goal.begin_word-requires-in-102-clause-first
begin_word-requires-in-102-clause-first c = λ fs. rw tree-truth (begins_false c.args.place fs _ c.in-102.is)
