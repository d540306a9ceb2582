use Rattle.std.proofs.Common.{ℕ, List, ◌+◌, ◌∙◌, ap, length, take, drop, arith}
use Rattle.std.proofs.lemmas.List.{with_items_is}
use Rattle.lg_base.proofs.Buffered.{appended}
use Rattle.lg_base.proofs.output_buffer.OutputBuffer.append.Goals as goal

pub returns : goal.returns
returns c =
    let buffer = c.args.self.now in
    let room = buffer.room in
    let inside = buffer.inside in
    ap (λ (l : List ℕ). drop buffer.start (take (buffer.end + length c.args.bytes.now) l)) (with_items_is buffer.bytes c.copy_into.new.to (c.copy_into.ensures.len ∙ c.as_mut_slice.ensures.len))
    ∙ appended buffer.start buffer.end buffer.bytes.items c.copy_into.new.to c.args.bytes.now buffer.within (omega arith) (rw c.as_mut_slice.ensures.value at c.copy_into.ensures.front)
